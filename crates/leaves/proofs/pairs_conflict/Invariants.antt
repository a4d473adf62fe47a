-- `leaves::pairs_conflict` meets its contract. The invariant: the slots from the next on decide.
use mathlib.Core.Path.{◌≡◌}
use lib.ListN.{drop}
use Rattle.leaves.specs.Pass.{leaf_apart}
use Rattle.leaves.proofs.pairs_conflict.Given as goal

abbrev pub invariant-loop-i : goal.invariant-loop-i
invariant-loop-i l = leaf_apart l.lines l.slots ≡ leaf_apart l.lines (drop l.i l.slots)
