-- What locate and show leaf answer.
use Rattle.std.specs.Prelude.{Bool, true, false, not, ◌&&◌, ◌||◌, List, [], ◌∷◌, ℕ, ◌+◌, ◌*◌, ◌-◌, ◌/◌, length, take, drop, leb, ltb, eqb, ℤ, pos, ◌*ℤ◌, ◌-ℤ◌, if◌then◌else◌, Ok, Err}
use Rattle.std.proofs.Math.IntN.{sub_ℕ}
use Rattle.algebra.specs.Words.{those, is_positive, is_negative}
use Rattle.definitions.specs.Answer.{Answer}
use Rattle.definitions.specs.declared.Refusal.TheVariants.{Lengths, Damaged, OffGrid}
use Rattle.definitions.specs.declared.Point.{Point}
use Rattle.definitions.specs.declared.Shown.{Shown}
use Rattle.definitions.specs.Shape.{Line, Block, whole_map, nw_of, ne_of, sw_of, se_of, grid_point, turn, on}
use Rattle.definitions.specs.Tree.{Rule, Tree, leaf, divided, tree, listings_of}
use Rattle.definitions.specs.Tables.{Tables, lengths_fit, sound, x1, x2, left_label, right_label, live_lines, on_grid}

-- ---- Locate

abbrev pub west_end : Line → Point
west_end l = if ltb l.a.x.0 l.b.x.0 then l.a else l.b

abbrev pub east_end : Line → Point
east_end l = if ltb l.a.x.0 l.b.x.0 then l.b else l.a

-- the line's x range, west end included and east end left off, holds p's x, and there the line passes below p
unfoldable pub below : Point → Line → Bool
below p l =
    leb (west_end l).x.0 p.x.0 && ltb p.x.0 (east_end l).x.0 && is_positive (turn (west_end l) (east_end l) p)

-- it holds p's x, and there the line passes above p
unfoldable pub above : Point → Line → Bool
above p l =
    leb (west_end l).x.0 p.x.0 && ltb p.x.0 (east_end l).x.0 && is_negative (turn (west_end l) (east_end l) p)

-- over x the line's height is height_over x l / run l, and it rises by rise l over run l
unfoldable pub run : Line → ℕ
run l = (east_end l).x.0 - (west_end l).x.0

unfoldable pub height_over : ℕ → Line → ℕ
height_over x l = (west_end l).y.0 * ((east_end l).x.0 - x) + (east_end l).y.0 * (x - (west_end l).x.0)

unfoldable pub rise : Line → ℤ
rise l = sub_ℕ (east_end l).y.0 (west_end l).y.0

-- over x, l is higher than m, or as high and rises more steeply
unfoldable pub higher : ℕ → Line → Line → Bool
higher x l m =
    ltb (height_over x m * run l) (height_over x l * run m)
    || eqb (height_over x m * run l) (height_over x l * run m)
    && is_positive (rise l *ℤ pos (run m) -ℤ rise m *ℤ pos (run l))

-- over x, l is lower than m, or as low and rises less steeply
unfoldable pub lower : ℕ → Line → Line → Bool
lower x l m = higher x m l

-- of l and more lines, the one that goes before the others
unfoldable pub foremost : (Line → Line → Bool) → Line → List Line → Line
foremost before l [] = l
foremost before l (m ∷ ms) = foremost before (if before m l then m else l) ms

-- left if x1 < x2, else right
unfoldable pub upper_label : List ℕ → ℕ → ℕ
upper_label lines s = if ltb (x1 lines s) (x2 lines s) then left_label lines s else right_label lines s

-- right if x1 < x2, else left
unfoldable pub lower_label : List ℕ → ℕ → ℕ
lower_label lines s = if ltb (x1 lines s) (x2 lines s) then right_label lines s else left_label lines s

-- what answers to a point: a line through it, by its slot; a line below it; a line above it; or none
pub data Answering : Type 0 where
  on_line : ℕ → Answering
  from_below : ℕ → Answering
  from_above : ℕ → Answering
  no_line : Answering

-- on a live line, the lowest such slot; else the highest line below; else the lowest line above; else none
unfoldable pub answering : List ℕ → Point → Answering
answering lines p =
    elim (those (on p) (live_lines lines)) [
      | l ∷ more ↦ on_line l.slot
      | [] ↦
          elim (those (below p) (live_lines lines)) [
            | l ∷ more ↦ from_below (foremost (higher p.x.0) l more).slot
            | [] ↦
                elim (those (above p) (live_lines lines)) [
                  | l ∷ more ↦ from_above (foremost (lower p.x.0) l more).slot
                  | [] ↦ no_line
                ]
          ]
    ]

-- a line below answers by its upper label, a line above by its lower label
unfoldable pub answer_of : List ℕ → Answering → ℕ
answer_of lines (on_line s) = 65536 + s
answer_of lines (from_below s) = upper_label lines s
answer_of lines (from_above s) = lower_label lines s
answer_of lines no_line = 0

unfoldable pub answer_at : List ℕ → Point → ℕ
answer_at lines p = answer_of lines (answering lines p)

unfoldable pub answer_to : List ℕ → ℕ → ℕ → ℕ
answer_to lines x y = if on_grid x && on_grid y then answer_at lines (grid_point x y) else 4294967295

unfoldable pub answers_to : List ℕ → List ℕ → List ℕ
answers_to lines [] = []
answers_to lines (x ∷ []) = []
answers_to lines (x ∷ y ∷ more) = answer_to lines x y ∷ answers_to lines more

-- an answer, and the answer list afterwards
pub record Located : Type 0 where
  pub answer : Answer
  pub answers : List ℕ

-- ---- Show leaf

-- a leaf: its block, where its listings start, and how many they are
pub record Leaf : Type 0 where
  pub place : Block
  pub first : ℕ
  pub lists : ℕ

-- the leaf that holds p, in the tree of a block whose listings start at first
unfoldable pub leaf_at : Point → Tree → Block → ℕ → Leaf
leaf_at p (leaf slots) k first = record { place = k; first = first; lists = length slots }
leaf_at p (divided nw ne sw se) k first =
    let at_ne = first + length (listings_of nw) in
    let at_sw = at_ne + length (listings_of ne) in
    let at_se = at_sw + length (listings_of sw) in
    elim (ltb p.x.0 (k.west + k.side / 2)) [
      | true ↦ elim (ltb p.y.0 (k.south + k.side / 2)) [ true ↦ leaf_at p sw (sw_of k) at_sw | false ↦ leaf_at p nw (nw_of k) first ]
      | false ↦ elim (ltb p.y.0 (k.south + k.side / 2)) [ true ↦ leaf_at p se (se_of k) at_se | false ↦ leaf_at p ne (ne_of k) at_ne ]
    ]

-- what show leaf tells, and the part of the listing table that it hands back: where it starts, and its entries
pub record Showing : Type 0 where
  pub told : Shown
  pub first : ℕ
  pub part : List ℕ

-- on refusal the side and corner are 0 and the part has length 0
abbrev pub not_shown : Answer → Showing
not_shown r = record { told = record { answer = r; side = 0; west = record { 0 = 0 }; south = record { 0 = 0 } }; first = 0; part = [] }

abbrev pub shown_at : Leaf → List ℕ → Showing
shown_at f listings =
    record {
      told = record { answer = Ok 0; side = f.place.side; west = record { 0 = f.place.west }; south = record { 0 = f.place.south } };
      first = f.first;
      part = take f.lists (drop f.first listings);
    }

module _ (rule : Rule) where
  unfoldable pub locate_of : Tables → List ℕ → List ℕ → Located
  locate_of t points answers =
      if not (lengths_fit t && eqb (length points) (2 * length answers)) then record { answer = (Err Lengths); answers = answers } else
      if not (sound rule t) then record { answer = (Err Damaged); answers = answers } else
      record { answer = Ok 0; answers = answers_to t.lines points }

  unfoldable pub leaf_over : Tables → ℕ → ℕ → Leaf
  leaf_over t x y = leaf_at (grid_point x y) (tree rule (live_lines t.lines)) whole_map 0

  unfoldable pub show_of : Tables → ℕ → ℕ → Showing
  show_of t x y =
      if not (lengths_fit t) then not_shown (Err Lengths) else
      if not (sound rule t) then not_shown (Err Damaged) else
      if not (on_grid x && on_grid y) then not_shown (Err OffGrid) else
      shown_at (leaf_over t x y) t.listings
