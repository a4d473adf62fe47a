-- The refusal table, call by call: an answer is given exactly if its condition holds and that of no earlier test. `Exact` has the proofs.
use Rattle.std.specs.Prelude.{◌≡◌, ◌⊎◌, ◌↔◌, List, [], ◌∷◌, ℕ, zero, suc, ◌+◌, ◌*◌, ◌/◌, ◌%◌, ◌≤◌, ◌<◌, length, take, get_or, Ok, Err}
use Rattle.definitions.specs.Answer.{Answer}
use Rattle.definitions.specs.declared.Refusal.TheVariants.{Lengths, Damaged, OffGrid, NoLength, Conflict, NoSlot, NoRoom, UnknownHandle, BadWindow, ListShort}
use Rattle.definitions.specs.declared.Given.{Given}
use Rattle.definitions.specs.declared.Kind.{Kind}
use Rattle.definitions.specs.declared.Window.{Window}
use Rattle.definitions.specs.Shape.{Line, Block}
use Rattle.definitions.specs.Tree.{Rule, tree, nodes_of, listings_of}
use Rattle.definitions.specs.Tables.{Tables, entry, live, generation, x1, y1, x2, y2, left_label, right_label, line_at, live_lines}
use Rattle.definitions.specs.Calls.{refusal_of, kind_number, start_of, insert_of, delete_of, given_line, placed}
use Rattle.definitions.specs.Lookup.{Showing, locate_of, show_of}
use Rattle.definitions.specs.Window.{window_of}
use Rattle.meaning.specs.Fair.{Fair}
use Rattle.meaning.specs.Show.{ShowsLeaf}
use Rattle.definitions.specs.Meaning.{Live, EmptySlot, Conflicts, KindIs, Zeros, Tabled, SoundMap, AnswersTo, InWindow}

-- none of the first n tests applies
abbrev pub None : ℕ → List (Type 0) → Type 0
None zero tests = Unit {0}
None (suc n) [] = Unit {0}
None (suc n) (c ∷ more) = (¬ c) × None n more

abbrev pub Some : (ℕ → Type 0) → Type 0
Some P = (s : ℕ) × P s

pub record Lowest (P : ℕ → Type 0) (s : ℕ) : Type 0 where
  pub holds : P s
  pub least : (u : ℕ) → P u → s ≤ u

-- ---- 1 Lengths

-- S slots of 8 entries, S from 1 to 1,024; node table 1 to 16,384; listing table 0 to 16,384
pub record FitLengths (t : Tables) : Type 0 where
  pub lines : Some (λ S. (length t.lines ≡ 8 * S) × (1 ≤ S) × (S ≤ 1024))
  pub nodes : (1 ≤ length t.nodes) × (length t.nodes ≤ 16384)
  pub listings : length t.listings ≤ 16384

abbrev pub WrongLengths : Tables → Type 0
WrongLengths t = ¬ FitLengths t

-- locate: a table's length, the point list is odd, or the answer list is not half of it
pub data WrongLists (t : Tables) (points answers : List ℕ) : Type 0 where
  tables : WrongLengths t → WrongLists t points answers
  odd : length points % 2 ≡ 1 → WrongLists t points answers
  not_half : ¬ (length answers ≡ length points / 2) → WrongLists t points answers

-- ---- 2 Damaged
abbrev pub Unsound : Rule → Tables → Type 0
Unsound rule t = ¬ SoundMap rule t

-- ---- 3 Off grid
abbrev pub AboveGrid : Given → Type 0
AboveGrid g = (16383 < g.x1) ⊎ (16383 < g.y1) ⊎ (16383 < g.x2) ⊎ (16383 < g.y2)

-- ---- 4 No length
abbrev pub EndsEqual : Given → Type 0
EndsEqual g = (g.x1 ≡ g.x2) × (g.y1 ≡ g.y2)

-- ---- 5 Conflict: the slot's line is live and conflicts with the given one
pub record InTheWay (lines : List ℕ) (g : Given) (s : ℕ) : Type 0 where
  pub lives : Live lines s
  pub conflicts : Conflicts (line_at lines s) (given_line g)

-- kind × 65,536 + slot: the lowest slot in the way, and how its line conflicts with the given one
abbrev pub Named : List ℕ → Given → ℕ → Type 0
Named lines g d = (s : ℕ) × (k : Kind) × Lowest (InTheWay lines g) s × KindIs (line_at lines s) (given_line g) k × (d ≡ kind_number k * 65536 + s)

-- ---- 6 No slot

-- no generation is left; an entry has 16 bits, so it is 65,535 (`no_slot_16`)
abbrev pub Retired : List ℕ → ℕ → Type 0
Retired lines s = 65535 ≤ generation lines s

abbrev pub AllTaken : List ℕ → Type 0
AllTaken lines = (s : ℕ) → s < length lines / 8 → Live lines s ⊎ Retired lines s

-- a slot that is not live and has generation below 65,535
pub record Vacant (lines : List ℕ) (s : ℕ) : Type 0 where
  pub there : s < length lines / 8
  pub dead : ¬ Live lines s
  pub young : generation lines s < 65535

-- slot × 65,536 + generation, raised by 1, of the lowest such slot
abbrev pub Handle : List ℕ → ℕ → Type 0
Handle lines h = (s : ℕ) × Lowest (Vacant lines) s × (h ≡ s * 65536 + (generation lines s + 1))

-- ---- 7 No room

-- the tree of these lines needs more node or listing entries than lent
abbrev pub NeedsMore : Rule → Tables → List Line → Type 0
NeedsMore rule t ls = (length t.nodes < length (nodes_of (tree rule ls))) ⊎ (length t.listings < length (listings_of (tree rule ls)))

-- the live lines and the new one, in the slot that it would take; over a fair rule the slot plays no part (`no_room_exact`)
pub record TooLarge (rule : Rule) (t : Tables) (g : Given) : Type 0 where
  pub slot : ℕ
  pub takes : Lowest (Vacant t.lines) slot
  pub more : NeedsMore rule t (live_lines (placed t.lines slot g))

-- ---- 8 Unknown handle
pub data Unknown (lines : List ℕ) (h : ℕ) : Type 0 where
  beyond : length lines / 8 ≤ h / 65536 → Unknown lines h
  not_live : ¬ (live lines (h / 65536) ≡ 1) → Unknown lines h
  other_generation : ¬ (generation lines (h / 65536) ≡ h % 65536) → Unknown lines h

-- ---- 9 Bad window: a coordinate off the grid, or an inverted rectangle
pub data WrongWindow (w : Window) : Type 0 where
  off_grid : (16383 < w.west) ⊎ (16383 < w.south) ⊎ (16383 < w.east) ⊎ (16383 < w.north) → WrongWindow w
  inverted_x : w.east < w.west → WrongWindow w
  inverted_y : w.north < w.south → WrongWindow w

-- ---- 10 List short

-- how many live lines meet the window
abbrev pub Number : List ℕ → Window → ℕ → Type 0
Number lines w n = (slots : List ℕ) × InWindow lines w slots × (n ≡ length slots)

-- the list is shorter than their number
abbrev pub TooShort : List ℕ → Window → List ℕ → Type 0
TooShort lines w list = (n : ℕ) × Number lines w n × (length list < n)

-- ---- What an accepted call leaves

-- the tables are as long as before
pub record AsLong (t after : Tables) : Type 0 where
  pub lines : length after.lines ≡ length t.lines
  pub nodes : length after.nodes ≡ length t.nodes
  pub listings : length after.listings ≡ length t.listings

-- start: every entry is 0
pub record All0 (t after : Tables) : Type 0 where
  pub long : AsLong t after
  pub lines : Zeros after.lines
  pub nodes : Zeros after.nodes
  pub listings : Zeros after.listings

-- every slot but s is as it was, and the tree tables are those of the live lines
pub record OnlySlot (rule : Rule) (t : Tables) (s : ℕ) (after : Tables) : Type 0 where
  pub long : AsLong t after
  pub others : (u k : ℕ) → ¬ (u ≡ s) → k < 8 → entry after.lines u k ≡ entry t.lines u k
  pub tables : Tabled (tree rule (live_lines after.lines)) after.nodes after.listings

-- insert: the line stands in slot s, live, the generation raised by 1
pub record PutIn (rule : Rule) (t : Tables) (g : Given) (s : ℕ) (after : Tables) : Type 0 where
  pub lives : live after.lines s ≡ 1
  pub raised : generation after.lines s ≡ generation t.lines s + 1
  pub end1 : (x1 after.lines s ≡ g.x1) × (y1 after.lines s ≡ g.y1)
  pub end2 : (x2 after.lines s ≡ g.x2) × (y2 after.lines s ≡ g.y2)
  pub labels : (left_label after.lines s ≡ g.left) × (right_label after.lines s ≡ g.right)
  pub rest : OnlySlot rule t s after

-- delete: slot s keeps its generation, and its other seven entries are 0
pub record TakenOut (rule : Rule) (t : Tables) (s : ℕ) (after : Tables) : Type 0 where
  pub kept : generation after.lines s ≡ generation t.lines s
  pub empty : EmptySlot after.lines s
  pub rest : OnlySlot rule t s after

-- locate: the answer list is as long as before, and its entry i answers to the point list's pair i
pub record AnswersAll (lines points answers after : List ℕ) : Type 0 where
  pub long : length after ≡ length answers
  pub each : (i : ℕ) → i < length answers → AnswersTo lines (get_or points (2 * i) 0) (get_or points (2 * i + 1) 0) (get_or after i 0)

-- window: the first n entries are the slots of the live lines that meet it; the list is as long as before, and its later entries stay
pub record FrontShows (lines : List ℕ) (w : Window) (n : ℕ) (list after : List ℕ) : Type 0 where
  pub long : length after ≡ length list
  pub front : InWindow lines w (take n after)
  pub later : (i : ℕ) → n ≤ i → get_or after i 0 ≡ get_or list i 0

-- ---- The calls

module _ (t : Tables) where
  abbrev pub started : Answer
  started = (start_of t).answer

  pub record StartExact : Type 0 where
    pub lengths : (started ≡ Err Lengths) ↔ WrongLengths t
    pub done : (d : ℕ) → (started ≡ Ok d) ↔ (d ≡ 0) × None 1 (WrongLengths t ∷ [])
    pub all0 : (d : ℕ) → started ≡ Ok d → All0 t (start_of t).after
    pub kept : 0 < refusal_of started → (start_of t).after ≡ t

module _ (rule : Rule) (t : Tables) (g : Given) where
  abbrev pub insert_tests : List (Type 0)
  insert_tests = WrongLengths t ∷ Unsound rule t ∷ AboveGrid g ∷ EndsEqual g ∷ Some (InTheWay t.lines g) ∷ AllTaken t.lines ∷ TooLarge rule t g ∷ []

  abbrev pub inserted : Answer
  inserted = (insert_of rule t g).answer

  pub record InsertExact : Type 0 where
    pub lengths : (inserted ≡ Err Lengths) ↔ WrongLengths t
    pub damaged : (inserted ≡ Err Damaged) ↔ Unsound rule t × None 1 insert_tests
    pub off_grid : (inserted ≡ Err OffGrid) ↔ AboveGrid g × None 2 insert_tests
    pub no_length : (inserted ≡ Err NoLength) ↔ EndsEqual g × None 3 insert_tests
    pub conflict : (d : ℕ) → (inserted ≡ Err (Conflict d)) ↔ Named t.lines g d × None 4 insert_tests
    pub no_slot : (inserted ≡ Err NoSlot) ↔ AllTaken t.lines × None 5 insert_tests
    pub no_room : (inserted ≡ Err NoRoom) ↔ TooLarge rule t g × None 6 insert_tests
    pub done : (h : ℕ) → (inserted ≡ Ok h) ↔ Handle t.lines h × None 7 insert_tests
    pub put : (h s : ℕ) → inserted ≡ Ok h → Lowest (Vacant t.lines) s → PutIn rule t g s (insert_of rule t g).after
    pub kept : 0 < refusal_of inserted → (insert_of rule t g).after ≡ t

module _ (rule : Rule) (t : Tables) (h : ℕ) where
  abbrev pub delete_tests : List (Type 0)
  delete_tests = WrongLengths t ∷ Unsound rule t ∷ Unknown t.lines h ∷ []

  abbrev pub deleted : Answer
  deleted = (delete_of rule t h).answer

  pub record DeleteExact : Type 0 where
    pub lengths : (deleted ≡ Err Lengths) ↔ WrongLengths t
    pub damaged : (deleted ≡ Err Damaged) ↔ Unsound rule t × None 1 delete_tests
    pub unknown : (deleted ≡ Err UnknownHandle) ↔ Unknown t.lines h × None 2 delete_tests
    pub done : (d : ℕ) → (deleted ≡ Ok d) ↔ (d ≡ 0) × None 3 delete_tests
    -- over a fair rule, so that the smaller tree has room
    pub emptied : Fair rule → (d : ℕ) → deleted ≡ Ok d → TakenOut rule t (h / 65536) (delete_of rule t h).after
    pub kept : 0 < refusal_of deleted → (delete_of rule t h).after ≡ t

module _ (rule : Rule) (t : Tables) (points answers : List ℕ) where
  abbrev pub locate_tests : List (Type 0)
  locate_tests = WrongLists t points answers ∷ Unsound rule t ∷ []

  abbrev pub located : Answer
  located = (locate_of rule t points answers).answer

  pub record LocateExact : Type 0 where
    pub lengths : (located ≡ Err Lengths) ↔ WrongLists t points answers
    pub damaged : (located ≡ Err Damaged) ↔ Unsound rule t × None 1 locate_tests
    pub done : (d : ℕ) → (located ≡ Ok d) ↔ (d ≡ 0) × None 2 locate_tests
    pub answered : (d : ℕ) → located ≡ Ok d → AnswersAll t.lines points answers (locate_of rule t points answers).answers
    pub kept : 0 < refusal_of located → (locate_of rule t points answers).answers ≡ answers

-- the side and corner are 0, and the part has length 0, at the listing table's start
pub record Nothing (r : Showing) : Type 0 where
  pub side : r.told.side ≡ 0
  pub west : r.told.west.0 ≡ 0
  pub south : r.told.south.0 ≡ 0
  pub first : r.first ≡ 0
  pub part : r.part ≡ []

module _ (rule : Rule) (t : Tables) (x y : ℕ) where
  abbrev pub show_tests : List (Type 0)
  show_tests = WrongLengths t ∷ Unsound rule t ∷ ((16383 < x) ⊎ (16383 < y)) ∷ []

  abbrev pub shown : Answer
  shown = (show_of rule t x y).told.answer

  pub record ShowExact : Type 0 where
    pub lengths : (shown ≡ Err Lengths) ↔ WrongLengths t
    pub damaged : (shown ≡ Err Damaged) ↔ Unsound rule t × None 1 show_tests
    pub off_grid : (shown ≡ Err OffGrid) ↔ ((16383 < x) ⊎ (16383 < y)) × None 2 show_tests
    pub done : (d : ℕ) → (shown ≡ Ok d) ↔ (d ≡ 0) × None 3 show_tests
    -- the leaf that holds the point, and its part of the listing table
    pub leaf : (d : ℕ) → shown ≡ Ok d → (place : Block) × ShowsLeaf rule t x y place (show_of rule t x y)
    pub nothing : 0 < refusal_of shown → Nothing (show_of rule t x y)

module _ (rule : Rule) (t : Tables) (w : Window) (list : List ℕ) where
  abbrev pub window_tests : List (Type 0)
  window_tests = WrongLengths t ∷ Unsound rule t ∷ WrongWindow w ∷ TooShort t.lines w list ∷ []

  abbrev pub viewed : Answer
  viewed = (window_of rule t w list).answer

  pub record WindowExact : Type 0 where
    pub lengths : (viewed ≡ Err Lengths) ↔ WrongLengths t
    pub damaged : (viewed ≡ Err Damaged) ↔ Unsound rule t × None 1 window_tests
    pub bad_window : (viewed ≡ Err BadWindow) ↔ WrongWindow w × None 2 window_tests
    pub list_short : (viewed ≡ Err ListShort) ↔ TooShort t.lines w list × None 3 window_tests
    pub done : (n : ℕ) → (viewed ≡ Ok n) ↔ Number t.lines w n × None 4 window_tests
    pub shows : (n : ℕ) → viewed ≡ Ok n → FrontShows t.lines w n list (window_of rule t w list).slots
    pub kept : 0 < refusal_of viewed → (window_of rule t w list).slots ≡ list
