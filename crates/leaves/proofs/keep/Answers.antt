use mathlib.Core.Path.{sym, ◌∙◌}
use Rattle.tables.specs.Rows.{line_ends}
use Rattle.leaves.proofs.Turns.{good_at}
use Rattle.leaves.proofs.Fan.{side_is, laid_none, laid_in, laid_out, laid_all}
use Rattle.leaves.proofs.keep.Goals as goal
use Rattle.leaves.proofs.keep.Goals.{then-here, else-here}

pub loop-s-init : goal.loop-s-init
loop-s-init c = laid_none _ _ _

pub line_at-requires : goal.line_at-requires
line_at-requires c = (good_at c.requires.0 c.loop-s-test.true).on_map

pub leaves_left-left-requires : goal.leaves_left-left-requires
leaves_left-left-requires c = let s = c.requires in (line_ends (good_at s.0 c.loop-s-test.true).on_map c.line_at.ensures, s.2, s.3)

pub loop-s-preserved : goal.loop-s-preserved
loop-s-preserved c =
    let side = side_is c.args.v c.line_at.ensures c.args.w c.args.side c.leaves_left-left.ensures in
    elim c.if-here.branch [
      | then-here u ↦ rw (u.kept-is, u.n-is) (laid_in _ c.args.slots.now c.args.kept.now _ _ _ c.loop-s.invariant c.loop-s-test.true (sym side ∙ u.if-here.true))
      | else-here u ↦ rw (u.kept-is, u.n-is) (laid_out _ c.args.slots.now c.args.kept.now _ _ _ c.loop-s.invariant c.loop-s-test.true (sym side ∙ u.if-here.false))
    ]

pub returns : goal.returns
returns c = laid_all _ _ c.args.kept.now _ _ _ c.loop-s.invariant c.loop-s-test.false c.requires.1
