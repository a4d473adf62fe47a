-- `path::own_leaf` meets its contract. The invariant: the block holds p, at the end of the path; each turn halves the side.
use mathlib.Core.Path.{◌≡◌}
use lib.ListN.{length}
use Rattle.path.specs.Asked.{Holding}
use Rattle.path.proofs.own_leaf.Given as goal

abbrev pub invariant-loop-node : goal.invariant-loop-node
invariant-loop-node l = Holding l.nodes l.index l.path l.p l.at × (length l.path ≡ length l.initial.path) × (l.node ≡ l.at.node)

abbrev pub decreases-loop-node : goal.decreases-loop-node
decreases-loop-node l = l.at.block.side
