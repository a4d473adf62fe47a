-- The same of a block: `meets k l` is true exactly if some point of the line lies in the closed block.
use Rattle.std.specs.Prelude.{◌≡◌, ◌↔◌, true}
use Rattle.std.proofs.Common.{arith}
use Rattle.definitions.specs.Shape.{Line, Block, area_of, meets}
use Rattle.definitions.specs.Meaning.{Meets}
use Rattle.plane.specs.Meeting.{meets_area_iff}

pub meets_iff : (k : Block) (l : Line) → (meets k l ≡ true) ↔ Meets k l
unfolding meets
meets_iff k l = meets_area_iff (area_of k) (omega arith) (omega arith) l
