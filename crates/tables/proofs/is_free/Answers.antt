use Rattle.definitions.specs.Tables.{is_live}
use Rattle.tables.specs.Rows.{entries_of}
use Rattle.tables.proofs.is_free.Goals as goal

pub returns : goal.returns
unfolding is_live entries_of
returns c = rw c.is_live.ensures
