-- `path::went_up` meets its contract.
use mathlib.Core.Path.{refl}
use Rattle.path.specs.Asked.{went_up}
use Rattle.path.proofs.went_up.Goals as goal

pub returns : goal.returns
unfolding went_up
returns c = refl
