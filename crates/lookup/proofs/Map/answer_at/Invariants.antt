-- `lookup::Map::answer_at` meets its contract. The invariant: nothing was found on the ways before, and the path stands.
use Rattle.std.proofs.Common.{◌≡◌}
use Rattle.lookup.proofs.Found.{Passed}
use Rattle.lookup.proofs.Map.answer_at.Given as goal

abbrev pub invariant-loop-south : goal.invariant-loop-south
invariant-loop-south l = record { passed : Passed l.self.lines.now l.p l.south-index; kept : l.walks.path ≡ l.initial.walks.path }
