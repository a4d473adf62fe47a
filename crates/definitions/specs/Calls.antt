-- What start, insert and delete answer, and the tables afterwards.
use Rattle.std.specs.Prelude.{Bool, not, ◌&&◌, List, [], ◌∷◌, ◌++◌, ℕ, ◌+◌, ◌*◌, ◌/◌, ◌%◌, length, replicate, take, drop, leb, ltb, eqb, if◌then◌else◌, Ok, Err}
use Rattle.algebra.specs.Words.{those}
use Rattle.definitions.specs.Answer.{Answer}
use Rattle.definitions.specs.declared.Refusal.TheVariants.{Lengths, Damaged, OffGrid, NoLength, Conflict, NoSlot, NoRoom, UnknownHandle, BadWindow, ListShort}
use Rattle.definitions.specs.declared.Given.{Given}
use Rattle.definitions.specs.declared.Kind.{Kind}
use Rattle.definitions.specs.declared.Kind.TheVariants.{Crossing, Touching, Overlap, Same}
use Rattle.definitions.specs.Shape.{Line, grid_point, conflict, kind_of}
use Rattle.definitions.specs.Tree.{Rule, tree, nodes_of, listings_of}
use Rattle.definitions.specs.Tables.{Tables, lengths_fit, sound, generation, is_live, slots_of, line_at, live_lines, on_grid, node_table, listing_table}

-- the paper's number and detail for each answer
abbrev pub refusal_of : Answer → ℕ
refusal_of (Ok d) = 0
refusal_of (Err Lengths) = 1
refusal_of (Err Damaged) = 2
refusal_of (Err OffGrid) = 3
refusal_of (Err NoLength) = 4
refusal_of (Err (Conflict d)) = 5
refusal_of (Err NoSlot) = 6
refusal_of (Err NoRoom) = 7
refusal_of (Err UnknownHandle) = 8
refusal_of (Err BadWindow) = 9
refusal_of (Err ListShort) = 10

abbrev pub detail_of : Answer → ℕ
detail_of (Ok d) = d
detail_of (Err Lengths) = 0
detail_of (Err Damaged) = 0
detail_of (Err OffGrid) = 0
detail_of (Err NoLength) = 0
detail_of (Err (Conflict d)) = d
detail_of (Err NoSlot) = 0
detail_of (Err NoRoom) = 0
detail_of (Err UnknownHandle) = 0
detail_of (Err BadWindow) = 0
detail_of (Err ListShort) = 0

-- the one 64-bit number that the host gets
abbrev pub number_of : Answer → ℕ
number_of r = refusal_of r * 4294967296 + detail_of r

-- an answer, and all tables afterwards
pub record Reply : Type 0 where
  pub answer : Answer
  pub after : Tables

abbrev pub reply : Answer → Tables → Reply
reply r t = record { answer = r; after = t }

-- the 8 entries of slot s put in their place
unfoldable pub with_slot : List ℕ → ℕ → List ℕ → List ℕ
with_slot lines s new = take (8 * s) lines ++ new ++ drop (8 * s + 8) lines

-- ---- Start: all 0

unfoldable pub cleared : Tables → Tables
cleared t =
    record { lines = replicate (length t.lines) 0; nodes = replicate (length t.nodes) 0; listings = replicate (length t.listings) 0 }

unfoldable pub start_of : Tables → Reply
start_of t = if lengths_fit t then reply (Ok 0) (cleared t) else reply (Err Lengths) t

-- ---- Insert

unfoldable pub given_line : Given → Line
given_line g = record { slot = 0; a = grid_point g.x1 g.y1; b = grid_point g.x2 g.y2 }

unfoldable pub all_on_grid : Given → Bool
all_on_grid g = on_grid g.x1 && on_grid g.y1 && on_grid g.x2 && on_grid g.y2

unfoldable pub no_length : Given → Bool
no_length g = eqb g.x1 g.x2 && eqb g.y1 g.y2

-- the live slots whose line conflicts, rising
unfoldable pub conflicting : List ℕ → Given → List ℕ
conflicting lines g = those (λ s. is_live lines s && conflict (line_at lines s) (given_line g)) (slots_of lines)

-- the paper's number for each kind
abbrev pub kind_number : Kind → ℕ
kind_number Crossing = 1
kind_number Touching = 2
kind_number Overlap = 3
kind_number Same = 4

-- the detail of 5: how the line of slot s conflicts with the given one, and the slot
unfoldable pub conflict_detail : List ℕ → ℕ → Given → ℕ
conflict_detail lines s g = kind_number (kind_of (line_at lines s) (given_line g)) * 65536 + s

-- the slots that are neither live nor retired, rising
unfoldable pub free_slots : List ℕ → List ℕ
free_slots lines = those (λ s. not (is_live lines s) && ltb (generation lines s) 65535) (slots_of lines)

-- the line put into slot s, its generation raised by 1
unfoldable pub placed : List ℕ → ℕ → Given → List ℕ
placed lines s g =
    with_slot lines s (1 ∷ (generation lines s + 1) ∷ g.x1 ∷ g.y1 ∷ g.x2 ∷ g.y2 ∷ g.left ∷ g.right ∷ [])

-- ---- Delete

-- the slot is below S and live, and the generation is its own
unfoldable pub known : List ℕ → ℕ → Bool
known lines h =
    ltb (h / 65536) (length lines / 8) && is_live lines (h / 65536) && eqb (generation lines (h / 65536)) (h % 65536)

-- slot s emptied, its generation kept
unfoldable pub freed : List ℕ → ℕ → List ℕ
freed lines s = with_slot lines s (0 ∷ generation lines s ∷ 0 ∷ 0 ∷ 0 ∷ 0 ∷ 0 ∷ 0 ∷ [])

-- ---- The calls, the first refusal that applies

module _ (rule : Rule) where
  -- the tables of these lines, at the lengths lent
  unfoldable pub rebuilt : Tables → List ℕ → Tables
  rebuilt t lines =
      record { lines = lines; nodes = node_table rule (length t.nodes) lines; listings = listing_table rule (length t.listings) lines }

  -- the tree of these lines fits the lengths lent
  unfoldable pub room_for : Tables → List ℕ → Bool
  room_for t lines =
      leb (length (nodes_of (tree rule (live_lines lines)))) (length t.nodes)
      && leb (length (listings_of (tree rule (live_lines lines)))) (length t.listings)

  unfoldable pub insert_of : Tables → Given → Reply
  insert_of t g =
      if not (lengths_fit t) then reply (Err Lengths) t else
      if not (sound rule t) then reply (Err Damaged) t else
      if not (all_on_grid g) then reply (Err OffGrid) t else
      if no_length g then reply (Err NoLength) t else
      elim (conflicting t.lines g) [
        | s ∷ more ↦ reply (Err (Conflict (conflict_detail t.lines s g))) t
        | [] ↦
            elim (free_slots t.lines) [
              | [] ↦ reply (Err NoSlot) t
              | s ∷ more ↦
                  if not (room_for t (placed t.lines s g)) then reply (Err NoRoom) t else
                  reply (Ok (s * 65536 + (generation t.lines s + 1))) (rebuilt t (placed t.lines s g))
            ]
      ]

  unfoldable pub delete_of : Tables → ℕ → Reply
  delete_of t h =
      if not (lengths_fit t) then reply (Err Lengths) t else
      if not (sound rule t) then reply (Err Damaged) t else
      if not (known t.lines h) then reply (Err UnknownHandle) t else
      reply (Ok 0) (rebuilt t (freed t.lines (h / 65536)))
