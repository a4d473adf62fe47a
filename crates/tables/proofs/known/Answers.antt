use Prim.Native.Nat.{◌/◌, ◌≤◌, ◌<◌}
use native.Mathlib.Omega.{arith}
use lib.ListN.{length}
use borrow.Author.Tests.{lt-ltb, le-ltb}
use Rattle.definitions.specs.Calls.{known}
use Rattle.definitions.specs.Tables.{is_live}
use Rattle.tables.proofs.known.Goals as goal

pub returns-then-lines-slot : goal.returns-then-lines-slot
unfolding known
returns-then-lines-slot c = let out : length c.args.lines.now / 8 ≤ c.args.handle / 65536 = omega arith in rw (le-ltb _ _ out)

pub returns : goal.returns
unfolding known is_live
returns c =
    let there : c.args.handle / 65536 < length c.args.lines.now / 8 = omega arith in
    rw (c.is_live.ensures, c.row_at-row.ensures, c.slot_of-slot.ensures, c.generation_of.ensures, lt-ltb _ _ there)
