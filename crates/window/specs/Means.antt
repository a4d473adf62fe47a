-- What the steps of the window say: the rectangle by value, and its test by parts.
use Rattle.std.specs.Prelude.{Bool, ◌&&◌, ◌||◌, List, ℕ, ◌≤◌, min, max, leb, ℤ}
use Rattle.algebra.specs.Words.{is_positive, is_negative}
use Rattle.definitions.specs.Shape.{Area, meets_area}
use Rattle.definitions.specs.Tables.{is_live, line_at}
use Rattle.window.specs.declared.area.Area as code

abbrev pub area_by : code.Area → Area
area_by k = record { west = k.west.0; south = k.south.0; east = k.east.0; north = k.north.0 }

-- no side lies beyond the map's, so its corners are as near as those of blocks
pub record InMap (k : Area) : Type 0 where
  pub west : k.west ≤ 32768
  pub south : k.south ≤ 32768
  pub east : k.east ≤ 32768
  pub north : k.north ≤ 32768

unfoldable pub overlap_of : ℕ → ℕ → ℕ → ℕ → Bool
overlap_of low high a b = leb (min a b) high && leb low (max a b)

unfoldable pub one_side_of : ℤ → ℤ → ℤ → ℤ → Bool
one_side_of a b c d = is_positive a && is_positive b && is_positive c && is_positive d || is_negative a && is_negative b && is_negative c && is_negative d

-- the line of slot s lives, and meets the rectangle
abbrev pub seen_at : List ℕ → Area → ℕ → Bool
seen_at lines k s = is_live lines s && meets_area k (line_at lines s)
