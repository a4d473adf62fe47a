use Rattle.definitions.specs.Shape.{inside}
use Rattle.geometry.proofs.inside.Goals as goal

pub returns : goal.returns
unfolding inside
returns c = rw (c.from-x.ensures, c.from-y.ensures, c.from-west.ensures, c.from-south.ensures, c.from-side.ensures)
