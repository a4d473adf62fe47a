use Rattle.host.proofs.Told.{tells}
use Rattle.host.proofs.boundary_map_insert.Goals as goal

pub returns : goal.returns
returns c = tells c.number.ensures c.insert.ensures
