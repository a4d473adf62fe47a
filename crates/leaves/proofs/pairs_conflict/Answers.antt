use mathlib.Core.Path.{sym, ap, ◌∙◌}
use mathlib.Core.Bool.{not}
use lib.ListN.{drop_of_length-le}
use Rattle.tables.specs.Rows.{line_ends}
use Rattle.leaves.specs.Pass.{leaf_apart}
use Rattle.leaves.proofs.Turns.{good_at, good_rest, line_proper, apart_turn}
use Rattle.leaves.proofs.pairs_conflict.Goals as goal

pub line_at-requires : goal.line_at-requires
line_at-requires c = (good_at c.requires c.loop-i-test.true).on_map

pub conflicts_with-requires : goal.conflicts_with-requires
conflicts_with-requires c =
    let g = good_at c.requires c.loop-i-test.true in
    (good_rest _ c.requires, line_proper c.line_at.ensures g, line_ends g.on_map c.line_at.ensures)

pub returns-then-conflicts_with : goal.returns-then-conflicts_with
returns-then-conflicts_with c = sym (ap not (c.loop-i.invariant ∙ apart_turn _ _ _ c.loop-i-test.true c.line_at.ensures c.if-conflicts_with.ensures))

pub loop-i-preserved : goal.loop-i-preserved
loop-i-preserved c = c.loop-i.invariant ∙ apart_turn _ _ _ c.loop-i-test.true c.line_at.ensures c.if-conflicts_with.ensures

pub returns : goal.returns
unfolding leaf_apart
returns c = sym (ap not (c.loop-i.invariant ∙ ap (leaf_apart c.args.lines.now) (drop_of_length-le _ c.loop-i-test.false)))
