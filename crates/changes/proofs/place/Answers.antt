use native.Mathlib.Omega.{arith}
use Rattle.changes.proofs.Inserts.{free, slot_low, young, has_place, taken_in, left_out}
use Rattle.changes.proofs.place.Goals as goal

pub row_at-row-requires : goal.row_at-row-requires
row_at-row-requires c = (free c.requires).there

pub overflow_add-generation : goal.overflow_add-generation
overflow_add-generation c = record { fits = omega (arith, young c.requires c.row_at-row.ensures) }

pub put_if_room-requires : goal.put_if_room-requires
put_if_room-requires c = has_place c.requires c.row_at-row.ensures c.row_of.ensures

pub handle_of-requires : goal.handle_of-requires
handle_of-requires c = omega (arith, slot_low c.requires)

pub returns-then-put_if_room : goal.returns-then-put_if_room
returns-then-put_if_room c = taken_in c.requires c.row_at-row.ensures c.row_of.ensures c.put_if_room.ensures c.if-put_if_room.true c.handle_of.ensures

pub returns : goal.returns
returns c = left_out c.requires c.row_at-row.ensures c.row_of.ensures c.put_if_room.ensures c.if-put_if_room.false
