-- `column::go_down` meets its contract. The invariant: the walk came from its first spot to this one; each turn halves the side.
use mathlib.Core.Path.{◌≡◌}
use lib.ListN.{length}
use Rattle.column.specs.Asked.{Walking, Came}
use Rattle.column.proofs.go_down.Given as goal

abbrev pub invariant-loop-node : goal.invariant-loop-node
invariant-loop-node l = Came l.nodes l.index l.p l.initial.at l.south l.initial.later l.later l.at × Walking l.nodes l.index l.later l.p l.at l.south × (l.node ≡ l.at.node) × (length l.later ≡ length l.initial.later)

abbrev pub decreases-loop-node : goal.decreases-loop-node
decreases-loop-node l = l.at.block.side
