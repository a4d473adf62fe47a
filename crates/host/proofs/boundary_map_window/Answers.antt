use Rattle.host.proofs.Told.{lists}
use Rattle.host.proofs.boundary_map_window.Goals as goal

pub returns : goal.returns
returns c = lists c.number.ensures c.window.ensures
