-- Numbers at the ends of the range, in half-steps and on the grid: the greatest turns, those next to 0, and lines between the corners of the grid and their
-- neighbours by one step. Each side computes.
use mathlib.Core.Path.{◌≡◌, refl}
use mathlib.Core.Bool.{Bool, true, false}
use mathlib.Core.List.{[], ◌∷◌}
use Prim.Native.Nat.{ℕ, ◌*◌, ◌^◌, ◌≤◌}
use lib.Dec.{ltb, lit≤}
use lib.IntN.{ℤ, pos, negsuc}
use Rattle.definitions.specs.declared.Kind.{Kind}
use Rattle.definitions.specs.declared.Kind.TheVariants.{Crossing, Touching, Overlap, Same}
use Rattle.definitions.specs.Shape.{Line, Block, grid_point, half_point, turn, left_of, right_of, corners, meets_area, meets, same_point, is_end, on, within, parts, conflict, in_line_of, kind_of}
use Rattle.geometry.specs.Range.{End, EndOrCorner, grid_end}

abbrev turned : ℕ → ℕ → ℕ → ℕ → ℕ → ℕ → ℤ
turned ax ay bx by cx cy = turn (half_point ax ay) (half_point bx by) (half_point cx cy)

abbrev between : ℕ → ℕ → ℕ → ℕ → Line
between x1 y1 x2 y2 = record { slot = 0; a = grid_point x1 y1; b = grid_point x2 y2 }

abbrev rising : Line
rising = between 0 0 16383 16383

-- against the rising diagonal: whether they conflict, and how
abbrev against : Line → Bool × Kind
against l = (conflict rising l, kind_of rising l)

abbrev smallest : ℕ → ℕ → Block
smallest west south = record { west = west; south = south; side = 2 }

corner : {x y : ℕ} → x ≤ 32768 → y ≤ 32768 → EndOrCorner (half_point x y)
corner h k = record { to_east = h; to_north = k }

pub record RangeCases : Type 0 where
  -- the bound, and that 31 bits and a sign hold it
  pub bound : 2 * 32767 * 32766 ≡ 2147287044
  pub fits : ltb 2147287044 (2 ^ 31) ≡ true
  -- what a turn asks for takes in every grid point and every corner
  pub asked : End (grid_point 0 0) × End (grid_point 16383 16383) × EndOrCorner (half_point 0 0) × EndOrCorner (half_point 32768 32768)
  -- two ends and a corner, far apart: about half of the bound, by either sign; and 0 at both corners in the line
  pub greatest : turned 1 1 32767 32767 0 32768 ∷ turned 32767 32767 1 1 0 32768 ∷ turned 1 32767 32767 1 0 0 ∷ turned 1 1 32767 1 0 32768 ∷ turned 1 1 32767 32767 32768 32768 ∷ turned 1 1 32767 32767 0 0 ∷ [] ≡ pos 1073676288 ∷ negsuc 1073676287 ∷ negsuc 1073676287 ∷ pos 1073643522 ∷ pos 0 ∷ pos 0 ∷ []
  -- three ends, far apart
  pub ends : turned 1 1 32767 1 32767 32767 ∷ turned 32767 32767 32767 1 1 1 ∷ [] ≡ pos 1073610756 ∷ negsuc 1073610755 ∷ []
  -- next to 0: of three ends, and of two with a corner at either end of the map
  pub least : turned 1 1 32767 32765 3 3 ∷ turned 1 1 32767 32765 32765 32763 ∷ turned 1 1 32767 32765 0 0 ∷ turned 1 1 32767 32765 32768 32766 ∷ [] ≡ pos 4 ∷ negsuc 3 ∷ negsuc 1 ∷ pos 2 ∷ []
  -- beside the rising diagonal, a step off it and from its own ends
  pub beside : conflict rising (between 1 0 16383 16382) ∷ conflict rising (between 0 1 16382 16383) ∷ conflict rising (between 0 0 16383 16382) ∷ conflict rising (between 16382 16383 16383 16383) ∷ [] ≡ false ∷ false ∷ false ∷ false ∷ []
  -- across it, at the middle and by a step at each end; with an end on it; along it; and it itself, turned over
  pub kinds : against (between 0 16383 16383 0) ∷ against (between 0 1 16383 16382) ∷ against (between 0 16383 16382 16382) ∷ against (between 1 1 0 1) ∷ against (between 1 1 16382 16382) ∷ against (between 16383 16383 0 0) ∷ []
      ≡ (true, Crossing) ∷ (true, Crossing) ∷ (true, Touching) ∷ (true, Touching) ∷ (true, Overlap) ∷ (true, Same) ∷ []
  -- the smallest blocks it passes through at either end, the two that it touches at a corner alone, and two that it misses
  pub blocks : meets (smallest 0 0) rising ∷ meets (smallest 32766 32766) rising ∷ meets (smallest 32764 32766) rising ∷ meets (smallest 32766 32764) rising ∷ meets (smallest 0 32766) rising ∷ meets (smallest 32762 32766) rising ∷ [] ≡ true ∷ true ∷ true ∷ true ∷ false ∷ false ∷ []

range_cases : RangeCases
unfolding turn left_of right_of corners meets_area meets same_point is_end on within parts conflict in_line_of kind_of
range_cases = record { bound = refl; fits = refl; asked = (grid_end {x = 0} {y = 0} (lit≤ tt) (lit≤ tt), grid_end {x = 16383} {y = 16383} (lit≤ tt) (lit≤ tt), corner (lit≤ tt) (lit≤ tt), corner (lit≤ tt) (lit≤ tt)); greatest = refl; ends = refl; least = refl; beside = refl; kinds = refl; blocks = refl }
