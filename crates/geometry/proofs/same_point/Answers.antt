use Rattle.definitions.specs.Shape.{same_point}
use Rattle.geometry.proofs.same_point.Goals as goal

pub returns : goal.returns
unfolding same_point
returns c = c.eq.ensures
