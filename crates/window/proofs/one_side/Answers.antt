use Rattle.std.proofs.Common.{w32}
use Rattle.std.proofs.lemmas.Int.{to_z-of_z}
use Rattle.window.specs.Parts.{by_pairs}
use Rattle.window.proofs.one_side.Goals as goal

pub returns : goal.returns
returns c =
    let f = c.ranges in
    rw (c.both_one_side.ensures, c.both_one_side-2.ensures, c.both_one_side-3.ensures, to_z-of_z w32 _ f.a, to_z-of_z w32 _ f.b, to_z-of_z w32 _ f.c, to_z-of_z w32 _ f.d)
    (by_pairs _ _ _ _)
