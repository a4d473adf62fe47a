use Rattle.definitions.specs.Shape.{is_end}
use mathlib.Core.Path.{ap₂}
use mathlib.Core.Bool.{◌||◌}
use Rattle.geometry.proofs.ends_at.Goals as goal

pub returns : goal.returns
unfolding is_end
returns c = ap₂ ◌||◌ c.same_point.ensures c.same_point-2.ensures
