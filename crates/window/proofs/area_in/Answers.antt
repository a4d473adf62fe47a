use mathlib.Core.Path.{refl}
use native.Mathlib.Omega.{arith}
use Rattle.window.specs.Seen.{on_grid_lem, in_map}
use Rattle.window.proofs.area_in.Goals as goal

pub to_half-requires : goal.to_half-requires
to_half-requires c = (on_grid_lem _ c.requires).0

pub to_half-requires-2 : goal.to_half-requires-2
to_half-requires-2 c = (on_grid_lem _ c.requires).1

pub to_half-requires-3 : goal.to_half-requires-3
to_half-requires-3 c = (on_grid_lem _ c.requires).2

pub to_half-requires-4 : goal.to_half-requires-4
to_half-requires-4 c = (on_grid_lem _ c.requires).3

pub invariant_of-result : goal.invariant_of-result
invariant_of-result c =
    let m = in_map _ c.requires in
    record {
      west_in_map = rw c.to_half.ensures (omega (arith, m.west));
      south_in_map = rw c.to_half-2.ensures (omega (arith, m.south));
      east_in_map = rw c.to_half-3.ensures (omega (arith, m.east));
      north_in_map = rw c.to_half-4.ensures (omega (arith, m.north));
    }

pub returns : goal.returns
returns c = rw (c.to_half.ensures, c.to_half-2.ensures, c.to_half-3.ensures, c.to_half-4.ensures) refl
