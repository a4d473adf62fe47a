use mathlib.Core.Path.{refl}
use Rattle.definitions.specs.Calls.{no_length}
use Rattle.tables.proofs.no_length.Goals as goal

pub returns : goal.returns
unfolding no_length
returns c = refl
