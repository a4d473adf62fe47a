use Rattle.definitions.specs.Window.{window_fits}
use Rattle.window.proofs.window_fits.Goals as goal

pub returns : goal.returns
unfolding window_fits
returns c = rw (c.on_grid.ensures, c.on_grid-2.ensures, c.on_grid-3.ensures, c.on_grid-4.ensures)
