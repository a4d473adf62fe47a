-- `walk::leaf_over` meets its contract. The invariant: whatever tree stands in the table, the leaf that is sought is the one in the block reached.
-- The measure is what is left of the node table.
use Prim.Native.Nat.{◌+◌, ◌-◌, ◌≤◌, ◌<◌}
use lib.ListN.{length}
use Rattle.definitions.specs.Lookup.{leaf_at}
use Rattle.definitions.specs.Tree.{Tree}
use Rattle.definitions.specs.Shape.{whole_map}
use Rattle.walk.specs.Index.{Standing, Indexed}
use Rattle.walk.proofs.Descent.{Reached}
use Rattle.walk.proofs.leaf_over.Given as goal

abbrev pub invariant-loop-node : goal.invariant-loop-node
invariant-loop-node l = ((t : Tree) → Standing l.nodes t 0 0 → Indexed l.index t 0 0 → Reached l.nodes l.index l.p (leaf_at l.p t whole_map 0) l.node l.west l.south l.side) × (l.node < length l.nodes) × (l.west + l.side ≤ 32768) × (l.south + l.side ≤ 32768)

abbrev pub decreases-loop-node : goal.decreases-loop-node
decreases-loop-node l = length l.nodes - l.node
