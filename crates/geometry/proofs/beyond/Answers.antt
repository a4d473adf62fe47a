use Rattle.meaning.specs.Ahead.{beyond}
use Rattle.geometry.specs.Bits.{left_says, right_says}
use Rattle.geometry.proofs.beyond.Goals as goal

pub returns-then-south : goal.returns-then-south
unfolding beyond
returns-then-south c = rw c.if-south.true (left_says _ c.ranges.t)

pub returns-else-south : goal.returns-else-south
unfolding beyond
returns-else-south c = rw c.if-south.false (right_says _ c.ranges.t)
