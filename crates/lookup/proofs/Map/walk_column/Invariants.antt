-- `lookup::Map::walk_column` meets its contract. The invariant: the walk stands at a leaf, with the best line of all that was seen before it.
use mathlib.Core.Path.{◌≡◌}
use Rattle.lookup.proofs.Walk.{WalkAt}
use Rattle.lookup.proofs.Map.walk_column.Given as goal

abbrev pub invariant-leaves : goal.invariant-leaves
invariant-leaves l = record { stands : WalkAt l.self l.walks.path l.walks.later l.south l.p l.at l.level l.best; kept : l.walks.path ≡ l.fn.walks.path }

abbrev pub decreases-leaves : goal.decreases-leaves
decreases-leaves l = l.left
