-- `leaves::conflicts_in_leaves` meets its contract. The invariant: the leaves ahead decide.
use Rattle.leaves.proofs.Ahead.{Ahead}
use Rattle.leaves.proofs.conflicts_in_leaves.Given as goal

abbrev pub invariant-loop-node : goal.invariant-loop-node
invariant-loop-node l = Ahead l.t.lines.now l.t.nodes.now l.used l.node-index l.rest
