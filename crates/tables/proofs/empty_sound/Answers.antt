use mathlib.Core.Path.{refl}
use Rattle.definitions.specs.Tables.{empty_sound}
use Rattle.tables.specs.Rows.{entries_of}
use Rattle.tables.proofs.empty_sound.Goals as goal

pub returns : goal.returns
unfolding empty_sound entries_of
returns c = refl
