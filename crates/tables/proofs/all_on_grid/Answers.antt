use Rattle.definitions.specs.Calls.{all_on_grid}
use Rattle.tables.proofs.all_on_grid.Goals as goal

pub returns : goal.returns
unfolding all_on_grid
returns c = rw (c.on_grid.ensures, c.on_grid-2.ensures, c.on_grid-3.ensures, c.on_grid-4.ensures)
