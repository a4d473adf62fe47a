use mathlib.Core.Path.{ap, ◌∙◌}
use native.Mathlib.Omega.{arith}
use Rattle.leaves.proofs.Turns.{good_at}
use Rattle.leaves.proofs.Parting.{summed_turn, mean_is, far_is}
use Rattle.leaves.proofs.mean_end.Goals as goal

pub line_at-requires : goal.line_at-requires
line_at-requires c = (good_at c.requires.0 c.loop-s-test.true).on_map

pub loop-s-preserved : goal.loop-s-preserved
loop-s-preserved c =
    let e = c.far_end-far.ensures ∙ far_is c.args.v c.line_at.ensures in (
      summed_turn c.loop-s-test.true (c.from-x.ensures ∙ ap (λ p. p.x.0) e) (omega arith) c.loop-s.invariant.0,
      summed_turn c.loop-s-test.true (c.from-y.ensures ∙ ap (λ p. p.y.0) e) (omega arith) c.loop-s.invariant.1,
    )

pub returns : goal.returns
returns c =
    let g = c.args in
    mean_is g.lines.now g.v g.slots.now c.loop-s-test.false c.loop-s.invariant.0 c.loop-s.invariant.1 c.mean.ensures c.mean-2.ensures
