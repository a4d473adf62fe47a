-- Two scales; points, lines, rectangles and blocks in half-steps; the turn; when a line meets a rectangle, and when two lines conflict.
use Rattle.std.specs.Prelude.{Bool, not, ◌&&◌, ◌||◌, ℕ, ◌+◌, ◌*◌, ◌/◌, min, max, leb, eqb, ℤ, ◌*ℤ◌, ◌-ℤ◌, if◌then◌else◌}
use Rattle.std.proofs.Math.IntN.{sub_ℕ}
use Rattle.algebra.specs.Words.{is_positive, is_negative, is_zero}
use Rattle.definitions.specs.declared.Grid.{Grid}
use Rattle.definitions.specs.declared.Half.{Half}
use Rattle.definitions.specs.declared.Point.{Point}
use Rattle.definitions.specs.declared.Kind.{Kind}
use Rattle.definitions.specs.declared.Kind.TheVariants.{Crossing, Touching, Overlap, Same}

-- ---- Two scales

-- grid number g stands at half-step 2g + 1
abbrev pub half : Grid → Half
half g = record { 0 = 2 * g.0 + 1 }

-- a point by its grid numbers
abbrev pub grid_point : ℕ → ℕ → Point
grid_point x y = record { x = half (record { 0 = x }); y = half (record { 0 = y }) }

-- a point by its half-step numbers
abbrev pub half_point : ℕ → ℕ → Point
half_point x y = record { x = record { 0 = x }; y = record { 0 = y } }

-- a line by its two ends, and the slot that holds it
pub record Line : Type 0 where
  pub slot : ℕ
  pub a : Point
  pub b : Point

-- a rectangle by its four sides; it includes them and its corners
pub record Area : Type 0 where
  pub west : ℕ
  pub south : ℕ
  pub east : ℕ
  pub north : ℕ

-- a block by its south-west corner and its side; it includes its four sides and corners
pub record Block : Type 0 where
  pub west : ℕ
  pub south : ℕ
  pub side : ℕ

abbrev pub east : Block → ℕ
east k = k.west + k.side

abbrev pub north : Block → ℕ
north k = k.south + k.side

-- a block is a rectangle
abbrev pub area_of : Block → Area
area_of k = record { west = k.west; south = k.south; east = east k; north = north k }

-- the square from 0 to 32,768 half-steps each way
abbrev pub whole_map : Block
whole_map = record { west = 0; south = 0; side = 32768 }

-- the four sons
abbrev pub nw_of : Block → Block
nw_of k = record { west = k.west; south = k.south + k.side / 2; side = k.side / 2 }

abbrev pub ne_of : Block → Block
ne_of k = record { west = k.west + k.side / 2; south = k.south + k.side / 2; side = k.side / 2 }

abbrev pub sw_of : Block → Block
sw_of k = record { west = k.west; south = k.south; side = k.side / 2 }

abbrev pub se_of : Block → Block
se_of k = record { west = k.west + k.side / 2; south = k.south; side = k.side / 2 }

-- ---- The turn

-- (bx-ax)(cy-ay) - (by-ay)(cx-ax)
unfoldable pub turn : Point → Point → Point → ℤ
turn a b c =
    sub_ℕ b.x.0 a.x.0 *ℤ sub_ℕ c.y.0 a.y.0 -ℤ sub_ℕ b.y.0 a.y.0 *ℤ sub_ℕ c.x.0 a.x.0

-- c is strictly left, strictly right of the line from end 1 to end 2
unfoldable pub left_of : Line → Point → Bool
left_of l c = is_positive (turn l.a l.b c)

unfoldable pub right_of : Line → Point → Bool
right_of l c = is_negative (turn l.a l.b c)

-- ---- Lines, rectangles and blocks

abbrev pub between : ℕ → ℕ → ℕ → Bool
between lo n hi = leb lo n && leb n hi

abbrev pub min_x : Line → ℕ
min_x l = min l.a.x.0 l.b.x.0

abbrev pub max_x : Line → ℕ
max_x l = max l.a.x.0 l.b.x.0

abbrev pub min_y : Line → ℕ
min_y l = min l.a.y.0 l.b.y.0

abbrev pub max_y : Line → ℕ
max_y l = max l.a.y.0 l.b.y.0

-- the four corners of the rectangle all pass the test
unfoldable pub corners : (Point → Bool) → Area → Bool
corners test k =
    test (half_point k.west k.south) && test (half_point k.east k.south)
    && test (half_point k.west k.north) && test (half_point k.east k.north)

-- a line meets a rectangle: the smallest rectangle around the line touches it, and its corners are not all strictly on one side
unfoldable pub meets_area : Area → Line → Bool
meets_area k l =
    leb (min_x l) k.east && leb k.west (max_x l) && leb (min_y l) k.north && leb k.south (max_y l)
    && not (corners (left_of l) k) && not (corners (right_of l) k)

-- a line meets a block
unfoldable pub meets : Block → Line → Bool
meets k l = meets_area (area_of k) l

-- the closed block holds the point
unfoldable pub inside : Block → Point → Bool
inside k p = between k.west p.x.0 (east k) && between k.south p.y.0 (north k)

unfoldable pub same_point : Point → Point → Bool
same_point p q = eqb p.x.0 q.x.0 && eqb p.y.0 q.y.0

unfoldable pub is_end : Point → Line → Bool
is_end p l = same_point p l.a || same_point p l.b

-- p is a point of the line, ends included
unfoldable pub on : Point → Line → Bool
on p l = is_zero (turn l.a l.b p) && between (min_x l) p.x.0 (max_x l) && between (min_y l) p.y.0 (max_y l)

-- p is a point of the line, and no end of it
unfoldable pub within : Point → Line → Bool
within p l = on p l && not (is_end p l)

-- the ends of m lie strictly on the two sides of l
unfoldable pub parts : Line → Line → Bool
parts l m = left_of l m.a && right_of l m.b || right_of l m.a && left_of l m.b

-- lines conflict: an end of one lies within the other, each parts the other, or they are equal, also reversed
unfoldable pub conflict : Line → Line → Bool
conflict l m =
    within l.a m || within l.b m || within m.a l || within m.b l
    || parts l m && parts m l
    || is_end l.a m && is_end l.b m

-- ---- How lines conflict

-- both ends of m lie in the straight line of l
unfoldable pub in_line_of : Line → Line → Bool
in_line_of l m = is_zero (turn l.a l.b m.a) && is_zero (turn l.a l.b m.b)

-- of lines that conflict: equal ends in either order; else in one straight line; else each parts the other; else an end of one lies within the other
unfoldable pub kind_of : Line → Line → Kind
kind_of l m =
    if is_end l.a m && is_end l.b m then Same else
    if in_line_of l m then Overlap else
    if parts l m && parts m l then Crossing else
    Touching
