-- `scan::comes_first` meets its contract, by the two ways.
use Rattle.meaning.specs.Ahead.{ahead_by_turns}
use Rattle.scan.proofs.comes_first.Goals as goal

pub returns-then-south : goal.returns-then-south
unfolding ahead_by_turns
returns-then-south c = rw c.if-south.true c.higher.ensures

pub returns : goal.returns
unfolding ahead_by_turns
returns c = rw c.if-south.false c.higher-2.ensures
