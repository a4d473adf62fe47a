-- `leaves::pivot` meets its contract.
use mathlib.Core.Path.{◌∙◌}
use Prim.Native.Nat.{◌/◌, ◌<◌}
use native.Mathlib.Omega.{arith}
use lib.ListN.{length}
use borrow.Author.Tests.{eq-eqb, ne_eqb}
use Rattle.leaves.proofs.Turns.{good_at}
use Rattle.leaves.proofs.Parting.{far_is, pivot_far, pivot_mean}
use Rattle.leaves.proofs.pivot.Goals as goal

pub line_at-requires : goal.line_at-requires
line_at-requires c =
    let h : length c.args.slots.now / 2 < length c.args.slots.now = omega (arith, c.requires.1) in
    (good_at c.requires.0 h).on_map

pub returns-then-depth-eq0 : goal.returns-then-depth-eq0
returns-then-depth-eq0 c =
    let g = c.args in
    c.far_end.ensures ∙ far_is g.v c.line_at.ensures ∙ pivot_far g.lines.now g.v g.slots.now g.depth (eq-eqb _ _ c.if-depth-eq0.true)

pub returns : goal.returns
returns c =
    let g = c.args in
    c.mean_end.ensures ∙ pivot_mean g.lines.now g.v g.slots.now g.depth (ne_eqb _ _ c.if-depth-eq0.false)
