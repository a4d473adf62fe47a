-- The public contracts once more: what each call asks of its caller, which is nothing, and what it owes him. Nothing depends on this file; a
-- contract that is weakened where it stands, or comes to ask something, is refused here.
-- Arguments: a.0 is the first, a.1.0 the second, a.1.1.0 the third, and so on; e likewise at the call's end; r is the result.
use mathlib.Core.Path.{◌≡◌, refl}
use Rattle.definitions.specs.Calls.{number_of, start_of, insert_of, delete_of}
use Rattle.definitions.specs.Lookup.{locate_of, show_of}
use Rattle.definitions.specs.Window.{window_of}
use Rattle.definitions.specs.Tree.{base_rule}
use Rattle.tables.specs.Lent.{tables, Replies, Locates, Windows}
use Rattle.map.specs.Promise.{HandsBack}
use Rattle.host.specs.Numbers.{Tells, Answers, Lists}
use Rattle.map.proofs.start.Reads as start
use Rattle.map.proofs.insert.Reads as insert
use Rattle.map.proofs.delete.Reads as delete
use Rattle.map.proofs.locate.Reads as locate
use Rattle.map.proofs.show_leaf.Reads as show_leaf
use Rattle.map.proofs.show_part.Reads as show_part
use Rattle.map.proofs.window.Reads as window
use Rattle.host.proofs.number.Reads as number
use Rattle.host.proofs.boundary_map_start.Reads as c_start
use Rattle.host.proofs.boundary_map_insert.Reads as c_insert
use Rattle.host.proofs.boundary_map_delete.Reads as c_delete
use Rattle.host.proofs.boundary_map_locate.Reads as c_locate
use Rattle.host.proofs.boundary_map_window.Reads as c_window
use Rattle.host.proofs.boundary_map_version.Reads as c_version

-- ---- Nothing is asked

start_asks : start.Asked ≡ λ κs a. Unit {0}
start_asks = refl

insert_asks : insert.Asked ≡ λ κs a. Unit {0}
insert_asks = refl

delete_asks : delete.Asked ≡ λ κs a. Unit {0}
delete_asks = refl

locate_asks : locate.Asked ≡ λ κs a. Unit {0}
locate_asks = refl

show_leaf_asks : show_leaf.Asked ≡ λ κs a. Unit {0}
show_leaf_asks = refl

show_part_asks : show_part.Asked ≡ λ κs a. Unit {0}
show_part_asks = refl

window_asks : window.Asked ≡ λ κs a. Unit {0}
window_asks = refl

number_asks : number.Asked ≡ λ κs a. Unit {0}
number_asks = refl

c_start_asks : c_start.Asked ≡ λ κs a. Unit {0}
c_start_asks = refl

c_insert_asks : c_insert.Asked ≡ λ κs a. Unit {0}
c_insert_asks = refl

c_delete_asks : c_delete.Asked ≡ λ κs a. Unit {0}
c_delete_asks = refl

c_locate_asks : c_locate.Asked ≡ λ κs a. Unit {0}
c_locate_asks = refl

c_window_asks : c_window.Asked ≡ λ κs a. Unit {0}
c_window_asks = refl

c_version_asks : c_version.Asked ≡ λ κs a. Unit {0}
c_version_asks = refl

-- ---- What map owes

start_owes : start.Post ≡ λ κs a r e. Replies r e.0.now e.1.0.now e.1.1.0.now (start_of (tables a.0.now a.1.0.now a.1.1.0.now))
start_owes = refl

insert_owes : insert.Post ≡ λ κs a r e. Replies r e.0.now e.1.0.now e.1.1.0.now (insert_of base_rule (tables a.0.now a.1.0.now a.1.1.0.now) a.1.1.1.0)
insert_owes = refl

delete_owes : delete.Post ≡ λ κs a r e. Replies r e.0.now e.1.0.now e.1.1.0.now (delete_of base_rule (tables a.0.now a.1.0.now a.1.1.0.now) a.1.1.1.0)
delete_owes = refl

locate_owes : locate.Post ≡ λ κs a r e. Locates r e.1.1.1.1.0.now (locate_of base_rule (tables a.0.now a.1.0.now a.1.1.0.now) a.1.1.1.0.now a.1.1.1.1.0.now)
locate_owes = refl

show_leaf_owes : show_leaf.Post ≡ λ κs a r e. r ≡ (show_of base_rule (tables a.0.now a.1.0.now a.1.1.0.now) a.1.1.1.0 a.1.1.1.1.0).told
show_leaf_owes = refl

show_part_owes : show_part.Post ≡ λ κs a r e. HandsBack r a.1.1.0 (show_of base_rule (tables a.0.now a.1.0.now a.1.1.0.now) a.1.1.1.0 a.1.1.1.1.0)
show_part_owes = refl

window_owes : window.Post ≡ λ κs a r e. Windows r e.1.1.1.1.0.now (window_of base_rule (tables a.0.now a.1.0.now a.1.1.0.now) a.1.1.1.0 a.1.1.1.1.0.now)
window_owes = refl

-- ---- What the C host is owed

number_owes : number.Post ≡ λ κs a r e. r ≡ number_of a.0
number_owes = refl

c_start_owes : c_start.Post ≡ λ κs a r e. Tells r e.0.now e.1.0.now e.1.1.0.now (start_of (tables a.0.now a.1.0.now a.1.1.0.now))
c_start_owes = refl

c_insert_owes : c_insert.Post ≡ λ κs a r e. Tells r e.0.now e.1.0.now e.1.1.0.now
    (insert_of base_rule (tables a.0.now a.1.0.now a.1.1.0.now)
    (record { x1 = a.1.1.1.0; y1 = a.1.1.1.1.0; x2 = a.1.1.1.1.1.0; y2 = a.1.1.1.1.1.1.0; left = a.1.1.1.1.1.1.1.0; right = a.1.1.1.1.1.1.1.1.0 }))
c_insert_owes = refl

c_delete_owes : c_delete.Post ≡ λ κs a r e. Tells r e.0.now e.1.0.now e.1.1.0.now (delete_of base_rule (tables a.0.now a.1.0.now a.1.1.0.now) a.1.1.1.0)
c_delete_owes = refl

c_locate_owes : c_locate.Post ≡ λ κs a r e. Answers r e.1.1.1.1.0.now (locate_of base_rule (tables a.0.now a.1.0.now a.1.1.0.now) a.1.1.1.0.now a.1.1.1.1.0.now)
c_locate_owes = refl

c_window_owes : c_window.Post ≡ λ κs a r e. Lists r e.1.1.1.1.1.1.1.0.now
    (window_of base_rule (tables a.0.now a.1.0.now a.1.1.0.now)
    (record { west = a.1.1.1.0; south = a.1.1.1.1.0; east = a.1.1.1.1.1.0; north = a.1.1.1.1.1.1.0 }) a.1.1.1.1.1.1.1.0.now)
c_window_owes = refl

c_version_owes : c_version.Post ≡ λ κs a r e. r ≡ 5000
c_version_owes = refl
