-- `path::strip_of` meets its contract: the test picks the half, and its sons are those of the definitions.
use Rattle.path.specs.Asked.{in_west, in_east}
use Rattle.path.proofs.strip_of.Goals as goal

pub returns-then-p-k : goal.returns-then-p-k
returns-then-p-k c = in_west c.if-p-k.true c.north_west.ensures c.south_west.ensures

pub returns : goal.returns
returns c = in_east c.if-p-k.false c.north_east.ensures c.south_east.ensures
