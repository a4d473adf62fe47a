use Rattle.window.specs.Parts.{overlap_is}
use Rattle.window.proofs.overlap.Goals as goal

pub returns : goal.returns
returns c = overlap_is _ _ _ _
