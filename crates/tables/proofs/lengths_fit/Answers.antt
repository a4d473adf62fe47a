use mathlib.Core.Path.{refl}
use Rattle.definitions.specs.Tables.{lengths_fit}
use Rattle.tables.proofs.lengths_fit.Goals as goal

pub returns : goal.returns
unfolding lengths_fit
returns c = refl
