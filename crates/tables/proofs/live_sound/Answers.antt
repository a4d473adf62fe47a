use Rattle.definitions.specs.Tables.{live_sound}
use Rattle.tables.specs.Rows.{entries_of}
use Rattle.tables.proofs.live_sound.Goals as goal

pub returns : goal.returns
unfolding live_sound entries_of
returns c = rw (c.on_grid.ensures, c.on_grid-2.ensures, c.on_grid-3.ensures, c.on_grid-4.ensures)
