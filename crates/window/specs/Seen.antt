-- A row and its slot see alike; and the numbers and the rectangle of a window that fits.
use Rattle.std.specs.Prelude.{◌≡◌, true, List, [], ◌∷◌, ℕ, ◌≤◌, leb}
use Rattle.std.proofs.Common.{ap, arith, leb-true}
use Rattle.definitions.specs.declared.Window.{Window}
use Rattle.definitions.specs.Shape.{Area, left_of, right_of, corners, meets_area}
use Rattle.definitions.specs.Tables.{is_live, line_at, on_grid}
use Rattle.definitions.specs.Window.{window_fits, area_in}
use Rattle.meaning.specs.Chain.{chain→}
use Rattle.tables.specs.declared.Row.{Row}
use Rattle.tables.specs.Rows.{row_at, entries_of}
use Rattle.window.specs.Means.{InMap, seen_at}

-- no test reads a line's slot
pub seen_at_lem : (lines : List ℕ) (s : ℕ) {r : Row} → r ≡ row_at lines s → (k : Area) → seen_at (entries_of r) k 0 ≡ seen_at lines k s
unfolding entries_of is_live line_at meets_area corners left_of right_of
seen_at_lem lines s e k = ap (λ (w : Row). seen_at (entries_of w) k 0) e

pub on_grid_lem : (w : Window) → window_fits w ≡ true → (w.west ≤ 16383) × (w.south ≤ 16383) × (w.east ≤ 16383) × (w.north ≤ 16383)
unfolding window_fits
on_grid_lem w e =
    let h = chain→ (on_grid w.west) (on_grid w.south ∷ on_grid w.east ∷ on_grid w.north ∷ leb w.west w.east ∷ leb w.south w.north ∷ []) e in
    (leb-true _ _ h.0, leb-true _ _ h.1.0, leb-true _ _ h.1.1.0, leb-true _ _ h.1.1.1.0)

pub in_map : (w : Window) → window_fits w ≡ true → InMap (area_in w)
in_map w e = let g = on_grid_lem w e in record { west = omega (arith, g.0); south = omega (arith, g.1); east = omega (arith, g.2); north = omega (arith, g.3) }
