-- The lent tables, the lines that they hold, and when a map is sound.
use Rattle.std.specs.Prelude.{Bool, not, ◌&&◌, ◌||◌, List, map, ℕ, ◌+◌, ◌*◌, ◌/◌, ◌%◌, length, get_or, leb, eqb}
use Rattle.algebra.specs.Words.{those, every, up_from, same_list, padded}
use Rattle.definitions.specs.Shape.{Line, grid_point, conflict}
use Rattle.definitions.specs.Tree.{Rule, tree, nodes_of, listings_of}

pub record Tables : Type 0 where
  pub lines : List ℕ
  pub nodes : List ℕ
  pub listings : List ℕ

-- S slots of 8 entries, S from 1 to 1,024; node table 1 to 16,384; listing table 0 to 16,384
unfoldable pub lengths_fit : Tables → Bool
lengths_fit t =
    eqb (length t.lines % 8) 0 && leb 8 (length t.lines) && leb (length t.lines) 8192
    && leb 1 (length t.nodes) && leb (length t.nodes) 16384 && leb (length t.listings) 16384

-- one of the 8 entries of slot s
abbrev pub entry : List ℕ → ℕ → ℕ → ℕ
entry lines s k = get_or lines (8 * s + k) 0

abbrev pub live : List ℕ → ℕ → ℕ
live lines s = entry lines s 0

abbrev pub generation : List ℕ → ℕ → ℕ
generation lines s = entry lines s 1

abbrev pub x1 : List ℕ → ℕ → ℕ
x1 lines s = entry lines s 2

abbrev pub y1 : List ℕ → ℕ → ℕ
y1 lines s = entry lines s 3

abbrev pub x2 : List ℕ → ℕ → ℕ
x2 lines s = entry lines s 4

abbrev pub y2 : List ℕ → ℕ → ℕ
y2 lines s = entry lines s 5

abbrev pub left_label : List ℕ → ℕ → ℕ
left_label lines s = entry lines s 6

abbrev pub right_label : List ℕ → ℕ → ℕ
right_label lines s = entry lines s 7

unfoldable pub slots_of : List ℕ → List ℕ
slots_of lines = up_from 0 (length lines / 8)

unfoldable pub is_live : List ℕ → ℕ → Bool
is_live lines s = eqb (live lines s) 1

unfoldable pub line_at : List ℕ → ℕ → Line
line_at lines s = record { slot = s; a = grid_point (x1 lines s) (y1 lines s); b = grid_point (x2 lines s) (y2 lines s) }

-- the slots of the live lines, and the lines, by rising slot
unfoldable pub live_slots : List ℕ → List ℕ
live_slots lines = those (is_live lines) (slots_of lines)

unfoldable pub live_lines : List ℕ → List Line
live_lines lines = map (line_at lines) (live_slots lines)

abbrev pub on_grid : ℕ → Bool
on_grid g = leb g 16383

-- a live slot has generation at least 1, ends on the grid and distinct
unfoldable pub live_sound : List ℕ → ℕ → Bool
live_sound lines s =
    leb 1 (generation lines s)
    && on_grid (x1 lines s) && on_grid (y1 lines s) && on_grid (x2 lines s) && on_grid (y2 lines s)
    && not (eqb (x1 lines s) (x2 lines s) && eqb (y1 lines s) (y2 lines s))

-- a slot that isn't live keeps its generation and has 0 in the other seven
unfoldable pub empty_sound : List ℕ → ℕ → Bool
empty_sound lines s =
    eqb (live lines s) 0 && eqb (x1 lines s) 0 && eqb (y1 lines s) 0 && eqb (x2 lines s) 0 && eqb (y2 lines s) 0
    && eqb (left_label lines s) 0 && eqb (right_label lines s) 0

unfoldable pub slot_sound : List ℕ → ℕ → Bool
slot_sound lines s = is_live lines s && live_sound lines s || empty_sound lines s

-- no two live lines conflict
unfoldable pub none_conflict : List ℕ → Bool
none_conflict lines =
    every (λ s. every (λ u. eqb s u || not (conflict (line_at lines s) (line_at lines u))) (live_slots lines)) (live_slots lines)

module _ (rule : Rule) where
  -- the node and listing tables of the live lines, n long
  unfoldable pub node_table : ℕ → List ℕ → List ℕ
  node_table n lines = padded n (nodes_of (tree rule (live_lines lines)))

  unfoldable pub listing_table : ℕ → List ℕ → List ℕ
  listing_table n lines = padded n (listings_of (tree rule (live_lines lines)))

  unfoldable pub sound : Tables → Bool
  sound t =
      every (slot_sound t.lines) (slots_of t.lines)
      && none_conflict t.lines
      && same_list t.nodes (node_table (length t.nodes) t.lines)
      && same_list t.listings (listing_table (length t.listings) t.lines)
