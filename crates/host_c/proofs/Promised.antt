-- The exports' contracts are those of host: each asks of its caller what the function of host of that name asks, which is nothing
-- (Rattle.host.proofs.Promised), and owes him what that owes. Nothing depends on this file; an export whose clauses come to say less is refused here.
use mathlib.Core.Path.{◌≡◌, refl}
use Rattle.host.proofs.boundary_map_start.Reads as host_start
use Rattle.host.proofs.boundary_map_insert.Reads as host_insert
use Rattle.host.proofs.boundary_map_delete.Reads as host_delete
use Rattle.host.proofs.boundary_map_locate.Reads as host_locate
use Rattle.host.proofs.boundary_map_window.Reads as host_window
use Rattle.host.proofs.boundary_map_version.Reads as host_version
use Rattle.host_c.proofs.boundary_map_start.Reads as c_start
use Rattle.host_c.proofs.boundary_map_insert.Reads as c_insert
use Rattle.host_c.proofs.boundary_map_delete.Reads as c_delete
use Rattle.host_c.proofs.boundary_map_locate.Reads as c_locate
use Rattle.host_c.proofs.boundary_map_window.Reads as c_window
use Rattle.host_c.proofs.boundary_map_version.Reads as c_version

start_asks : c_start.Asked ≡ host_start.Asked
start_asks = refl

start_owes : c_start.Post ≡ host_start.Post
start_owes = refl

insert_asks : c_insert.Asked ≡ host_insert.Asked
insert_asks = refl

insert_owes : c_insert.Post ≡ host_insert.Post
insert_owes = refl

delete_asks : c_delete.Asked ≡ host_delete.Asked
delete_asks = refl

delete_owes : c_delete.Post ≡ host_delete.Post
delete_owes = refl

locate_asks : c_locate.Asked ≡ host_locate.Asked
locate_asks = refl

locate_owes : c_locate.Post ≡ host_locate.Post
locate_owes = refl

window_asks : c_window.Asked ≡ host_window.Asked
window_asks = refl

window_owes : c_window.Post ≡ host_window.Post
window_owes = refl

version_asks : c_version.Asked ≡ host_version.Asked
version_asks = refl

version_owes : c_version.Post ≡ host_version.Post
version_owes = refl
