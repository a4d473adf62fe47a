use borrow.Author.Tests.{not-true, not-false}
use mathlib.Core.Path.{sym, ap, ◌∙◌}
use mathlib.Core.Bool.{not}
use native.Mathlib.Omega.{arith}
use Rattle.leaves.proofs.Turns.{rest_is}
use Rattle.leaves.proofs.Ahead.{ahead_start, ahead_end, ahead_parted, leaf_here, used_long}
use Rattle.leaves.proofs.conflicts_in_leaves.Goals as goal
use Rattle.leaves.proofs.conflicts_in_leaves.Goals.{then-n-mark+else-n-gt-ALONE, else-n-mark, else-n-gt-ALONE-via-then-n-gt-ALONE+else-leaf_conflicts, else-n-gt-ALONE-via-else-n-gt-ALONE}

pub slice_bounds-node-items-end : goal.slice_bounds-node-items-end
slice_bounds-node-items-end c = used_long c.requires (omega arith)

pub loop-node-init : goal.loop-node-init
loop-node-init c = ahead_start c.requires

pub split_at-requires : goal.split_at-requires
split_at-requires c = (leaf_here c.loop-node.invariant (omega arith) c.loop-node-test.true c.from-n.ensures (λ e. c.if-n-mark.true (e ∙ sym c.from-mark.ensures))).fits

pub leaf_conflicts-requires : goal.leaf_conflicts-requires
leaf_conflicts-requires c = rw c.split_at.ensures.front (leaf_here c.loop-node.invariant (omega arith) c.loop-node-test.true c.from-n.ensures (λ e. c.if-n-mark.true (e ∙ sym c.from-mark.ensures))).good

pub returns-then-leaf_conflicts : goal.returns-then-leaf_conflicts
returns-then-leaf_conflicts c =
    let l = leaf_here c.loop-node.invariant (omega arith) c.loop-node-test.true c.from-n.ensures (λ e. c.if-n-mark.true (e ∙ sym c.from-mark.ensures)) in
    sym (ap not (l.stops (not-true _ (rw c.split_at.ensures.front at (sym c.if-leaf_conflicts.ensures)))))

pub loop-node-preserved : goal.loop-node-preserved
loop-node-preserved c =
    let inv = c.loop-node.invariant in
    let here = leaf_here inv (omega arith) c.loop-node-test.true c.from-n.ensures in
    elim c.if-n-mark.branch [
      | then-n-mark+else-n-gt-ALONE v ↦ let l = here (λ e. v.if-n-mark.true (e ∙ sym c.from-mark.ensures)) in rw v.rest-is (l.passed (elim v.else-n-gt-ALONE.branch [
        | else-n-gt-ALONE-via-then-n-gt-ALONE+else-leaf_conflicts u ↦ not-false _ (rw v.split_at.ensures.front at (sym u.if-leaf_conflicts.ensures))
        | else-n-gt-ALONE-via-else-n-gt-ALONE u ↦ l.few u.if-n-gt-ALONE.false
      ]) (search (v.split_at.ensures.back, rest_is)))
      | else-n-mark v ↦ rw v.rest-is (ahead_parted inv (omega arith) c.loop-node-test.true c.from-n.ensures (v.if-n-mark.false ∙ c.from-mark.ensures))
    ]

pub returns : goal.returns
returns c = sym (ap not (ahead_end c.loop-node.invariant c.loop-node-test.false))
