use Rattle.host.proofs.Told.{tells}
use Rattle.host.proofs.boundary_map_delete.Goals as goal

pub returns : goal.returns
returns c = tells c.number.ensures c.delete.ensures
