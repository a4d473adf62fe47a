use Rattle.host.proofs.Told.{answers}
use Rattle.host.proofs.boundary_map_locate.Goals as goal

pub returns : goal.returns
returns c = answers c.number.ensures c.locate.ensures
