-- `lookup::Map::answer_each` meets its contract. The invariant: the first answers stand, and the rest are those to the points that are left.
use Rattle.lookup.proofs.Answering.{Answered}
use Rattle.lookup.proofs.Map.answer_each.Given as goal

abbrev pub invariant-loop-at : goal.invariant-loop-at
invariant-loop-at l = Answered l.self.lines.now l.points l.answers l.at
