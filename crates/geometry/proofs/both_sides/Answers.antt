use Rattle.geometry.specs.Bits.{left_says, right_says}
use Rattle.geometry.specs.Means.{both_apart}
use Rattle.geometry.proofs.both_sides.Goals as goal

pub returns : goal.returns
unfolding both_apart
returns c = let f = c.ranges in rw (left_says _ f.a, left_says _ f.b, right_says _ f.a, right_says _ f.b)
