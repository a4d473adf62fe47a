use Rattle.geometry.specs.Bits.{left_says, right_says}
use Rattle.geometry.specs.Means.{both_same}
use Rattle.geometry.proofs.both_one_side.Goals as goal

pub returns : goal.returns
unfolding both_same
returns c = let f = c.ranges in rw (left_says _ f.a, left_says _ f.b, right_says _ f.a, right_says _ f.b)
