-- Where line ends and corners lie, in half-steps, and how far apart they are: what a turn is small by.
use Rattle.std.specs.Prelude.{◌≡◌, Bool, true, false, ℕ, ◌≤◌, ltb, nat_abs, if◌then◌else◌}
use Rattle.std.proofs.Common.{arith}
use Rattle.std.proofs.Math.IntN.{sub_ℕ}
use Rattle.algebra.specs.Size.{abs_subℕ}
use Rattle.definitions.specs.declared.Point.{Point}
use Rattle.definitions.specs.Lookup.{west_end, east_end}
use Rattle.definitions.specs.Shape.{Line, grid_point}

-- a grid point, as every line end is: 1 to 32,767 each way
pub record End (p : Point) : Type 0 where
  pub from_west : 1 ≤ p.x.0
  pub to_east : p.x.0 ≤ 32767
  pub from_south : 1 ≤ p.y.0
  pub to_north : p.y.0 ≤ 32767

-- or a corner of a block: 0 to 32,768 each way
pub record EndOrCorner (p : Point) : Type 0 where
  pub to_east : p.x.0 ≤ 32768
  pub to_north : p.y.0 ≤ 32768

pub record LineEnds (l : Line) : Type 0 where
  pub first : End l.a
  pub second : End l.b

-- ---- What lies there

pub grid_end : {x y : ℕ} → x ≤ 16383 → y ≤ 16383 → End (grid_point x y)
grid_end h k = record { from_west = omega arith; to_east = omega arith; from_south = omega arith; to_north = omega arith }

pub end_corner : {p : Point} → End p → EndOrCorner p
end_corner e = record { to_east = omega (arith, e); to_north = omega (arith, e) }

-- the line between two grid points
pub grid_ends : {l : Line} {x1 y1 x2 y2 : ℕ} → (l.a ≡ grid_point x1 y1) × (l.b ≡ grid_point x2 y2) → (x1 ≤ 16383) × (y1 ≤ 16383) × (x2 ≤ 16383) × (y2 ≤ 16383) → LineEnds l
grid_ends e g = record { first = rw e.0 (grid_end g.0 g.1); second = rw e.1 (grid_end g.2 g.3) }

-- either of two ends
pub choose : (t : Bool) {p q : Point} → End p → End q → End (if t then p else q)
choose true e f = e
choose false e f = f

-- a line with its west end first has the same ends
pub eastward_ends : (m : Line) {l : Line} → (m.a ≡ west_end l) × (m.b ≡ east_end l) → LineEnds l → LineEnds m
eastward_ends m {l} e f = record {
  first = rw e.0 (choose (ltb l.a.x.0 l.b.x.0) f.first f.second);
  second = rw e.1 (choose (ltb l.a.x.0 l.b.x.0) f.second f.first);
}

-- ---- How far apart: two ends at most 32,766, an end and a corner at most 32,767

module _ {a b : Point} (e : End a) (f : End b) where
  pub ends_x : nat_abs (sub_ℕ b.x.0 a.x.0) ≤ 32766
  ends_x = abs_subℕ b.x.0 a.x.0 32766 (omega (arith, e, f)) (omega (arith, e, f))

  pub ends_y : nat_abs (sub_ℕ b.y.0 a.y.0) ≤ 32766
  ends_y = abs_subℕ b.y.0 a.y.0 32766 (omega (arith, e, f)) (omega (arith, e, f))

module _ {a c : Point} (e : End a) (f : EndOrCorner c) where
  pub corner_x : nat_abs (sub_ℕ c.x.0 a.x.0) ≤ 32767
  corner_x = abs_subℕ c.x.0 a.x.0 32767 (omega (arith, e, f)) (omega (arith, e, f))

  pub corner_y : nat_abs (sub_ℕ c.y.0 a.y.0) ≤ 32767
  corner_y = abs_subℕ c.y.0 a.y.0 32767 (omega (arith, e, f)) (omega (arith, e, f))
