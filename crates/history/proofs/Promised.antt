-- The promised statements: every theorem that docs/PROMISES.md rests on and this crate sees, its whole type written out once more and given by
-- the theorem. Nothing depends on this file; a theorem or record that is weakened elsewhere is refused here.
use Rattle.std.specs.Prelude.{◌≡◌, refl, ◌⊎◌, ◌↔◌, true, not, ℕ, ◌+◌, ◌*◌, ◌/◌, ◌%◌, ◌≤◌, ◌<◌, eqb, length, take, get_or, replicate, Ok, Err}
use mathlib.Core.List.{List, [], ◌∷◌, ◌++◌, Memᴰ}
use Rattle.std.proofs.Common.{arith}
use Rattle.algebra.specs.Words.{Rising, those, every, padded}
use Rattle.definitions.specs.Answer.{Answer}
use Rattle.definitions.specs.declared.Refusal.TheVariants.{Lengths, Damaged, OffGrid, NoLength, Conflict, NoSlot, NoRoom, UnknownHandle, BadWindow, ListShort}
use Rattle.definitions.specs.declared.Given.{Given}
use Rattle.definitions.specs.declared.Kind.{Kind}
use Rattle.definitions.specs.declared.Kind.TheVariants.{Crossing, Touching, Overlap, Same}
use Rattle.definitions.specs.declared.Point.{Point}
use Rattle.definitions.specs.declared.Window.{Window}
use Rattle.definitions.specs.Shape.{Line, Area, Block, whole_map, grid_point, meets_area, meets, conflict, kind_of}
use Rattle.definitions.specs.Tree.{Rule, Tree, simple, base_rule, tree, listed, nodes_of, listings_of}
use Rattle.definitions.specs.Tables.{Tables, lengths_fit, generation, slots_of, line_at, live_slots, live_lines, slot_sound, none_conflict, sound}
use Rattle.definitions.specs.Calls.{number_of, refusal_of, detail_of, kind_number, cleared, start_of, insert_of, delete_of, given_line, known}
use Rattle.definitions.specs.Lookup.{Answering, answering, answer_of, answer_to, locate_of, show_of}
use Rattle.definitions.specs.Window.{area_in, slots_in, window_of}
use Rattle.definitions.specs.History.{Call, after_all}
use Rattle.definitions.specs.Meaning.{Spot, OnLine, AtEnd, InArea, InBlock, In, MeetsArea, Meets, MeetsWindow, InWindow, Conflicts, OnlyShared, TwoShared, SameEnds, KindIs, Criteria, IsTree, LeafAt, ListedFrom, Stored, Tabled, Live, SoundMap, Answers, Tells, AnswersTo}
use Rattle.plane.specs.Crossing.{Proper, conflict_iff}
use Rattle.plane.specs.Kinds.{kind_iff, one_kind}
use Rattle.plane.proofs.OneOfFour.{conflict_kinds}
use Rattle.plane.specs.Meeting.{meets_area_iff}
use Rattle.plane.proofs.Meeting.{meets_iff}
use Rattle.plane.specs.Whole.{MeetsWhole, ConflictsWhole, nothing_lost}
use Rattle.meaning.specs.Apart.{leaf_lists, leaves_exact}
use Rattle.meaning.specs.Everywhere.{in_a_leaf}
use Rattle.meaning.specs.Fair.{Fair, Sub}
use Rattle.meaning.specs.Leaves.{LeafApart, share_a_leaf}
use Rattle.meaning.specs.Answering.{tells_iff, answering_iff}
use Rattle.meaning.specs.Means.{BySlot, simple_means, tree_is, tree_only}
use Rattle.meaning.specs.OneLeaf.{one_leaf}
use Rattle.meaning.specs.Plain.{plain, plain_answers, locate_iff}
use Rattle.meaning.specs.Rules.{base_fair, fewer}
use Rattle.meaning.specs.SoundMeans.{sound_means}
use Rattle.meaning.specs.Window.{window_iff}
use Rattle.meaning.specs.Stored.{stored_lists, lists_stored, tabled_iff}
use Rattle.history.specs.Demand.{Held, Distinct, given_by, heard, Stands, live_held, SameLines, Alike}
use Rattle.history.proofs.Exact.{start_exact, insert_exact, delete_exact, locate_exact, show_exact, no_slot_16}
use Rattle.history.proofs.Grown.{grown, grown_sound, grown_held, grown_known}
use Rattle.history.proofs.Holds.{demand_3}
use Rattle.history.specs.Refusals.{None, Some, Lowest, WrongLengths, WrongLists, Unsound, AboveGrid, EndsEqual, InTheWay, AllTaken, Vacant, NeedsMore, TooLarge, Unknown, WrongWindow, TooShort, All0, PutIn, TakenOut, AnswersAll}
use Rattle.history.proofs.Remains.{delete_tree}
use Rattle.history.proofs.Room.{no_room_exact}
use Rattle.history.proofs.Window.{window_exact}
use Rattle.history.proofs.Accepted.{start_accepted, insert_accepted, delete_accepted, number_tells}

-- ---- The one number: refusal × 2^32 + detail

number_done : (d : ℕ) → number_of (Ok d) ≡ d
number_done d = omega arith

number_refused : (number_of (Err Lengths) ≡ 1 * 4294967296) × (number_of (Err Damaged) ≡ 2 * 4294967296) × (number_of (Err OffGrid) ≡ 3 * 4294967296) × (number_of (Err NoLength) ≡ 4 * 4294967296)
    × ((d : ℕ) → number_of (Err (Conflict d)) ≡ 5 * 4294967296 + d) × (number_of (Err NoSlot) ≡ 6 * 4294967296) × (number_of (Err NoRoom) ≡ 7 * 4294967296) × (number_of (Err UnknownHandle) ≡ 8 * 4294967296)
    × (number_of (Err BadWindow) ≡ 9 * 4294967296) × (number_of (Err ListShort) ≡ 10 * 4294967296)
number_refused = (refl, refl, refl, refl, λ d. refl, refl, refl, refl, refl, refl)

kinds_numbered : (kind_number Crossing ≡ 1) × (kind_number Touching ≡ 2) × (kind_number Overlap ≡ 3) × (kind_number Same ≡ 4)
kinds_numbered = (refl, refl, refl, refl)

number_whole : (a b : Answer) → detail_of a < 4294967296 → detail_of b < 4294967296 → number_of a ≡ number_of b → a ≡ b
number_whole = number_tells

-- ---- Demand 1: the refusal table, the first that applies; a refusal changes no entry

module _ (t : Tables) where
  start_lengths : ((start_of t).answer ≡ Err Lengths) ↔ WrongLengths t
  start_lengths = (start_exact t).lengths

  start_done : (d : ℕ) → ((start_of t).answer ≡ Ok d) ↔ (d ≡ 0) × None 1 (WrongLengths t ∷ [])
  start_done = (start_exact t).done

  start_all0 : (d : ℕ) → (start_of t).answer ≡ Ok d → All0 t (start_of t).after
  start_all0 = (start_exact t).all0

  start_kept : 0 < refusal_of (start_of t).answer → (start_of t).after ≡ t
  start_kept = (start_exact t).kept

module _ (rule : Rule) (t : Tables) (g : Given) where
  abbrev insert_tests : List (Type 0)
  insert_tests = WrongLengths t ∷ Unsound rule t ∷ AboveGrid g ∷ EndsEqual g ∷ Some (InTheWay t.lines g) ∷ AllTaken t.lines ∷ TooLarge rule t g ∷ []

  insert_lengths : ((insert_of rule t g).answer ≡ Err Lengths) ↔ WrongLengths t
  insert_lengths = (insert_exact rule t g).lengths

  insert_damaged : ((insert_of rule t g).answer ≡ Err Damaged) ↔ Unsound rule t × None 1 insert_tests
  insert_damaged = (insert_exact rule t g).damaged

  insert_off_grid : ((insert_of rule t g).answer ≡ Err OffGrid) ↔ AboveGrid g × None 2 insert_tests
  insert_off_grid = (insert_exact rule t g).off_grid

  insert_no_length : ((insert_of rule t g).answer ≡ Err NoLength) ↔ EndsEqual g × None 3 insert_tests
  insert_no_length = (insert_exact rule t g).no_length

  insert_conflict : (d : ℕ) → ((insert_of rule t g).answer ≡ Err (Conflict d))
      ↔ ((s : ℕ) × (k : Kind) × Lowest (InTheWay t.lines g) s × KindIs (line_at t.lines s) (given_line g) k × (d ≡ kind_number k * 65536 + s)) × None 4 insert_tests
  insert_conflict = (insert_exact rule t g).conflict

  insert_no_slot : ((insert_of rule t g).answer ≡ Err NoSlot) ↔ AllTaken t.lines × None 5 insert_tests
  insert_no_slot = (insert_exact rule t g).no_slot

  insert_no_slot_16 : ((s : ℕ) → generation t.lines s ≤ 65535)
      → ((insert_of rule t g).answer ≡ Err NoSlot) ↔ ((s : ℕ) → s < length t.lines / 8 → Live t.lines s ⊎ (generation t.lines s ≡ 65535)) × None 5 insert_tests
  insert_no_slot_16 = no_slot_16 rule t g

  insert_no_room : ((insert_of rule t g).answer ≡ Err NoRoom) ↔ TooLarge rule t g × None 6 insert_tests
  insert_no_room = (insert_exact rule t g).no_room

  insert_no_room_exact : Fair rule → ((insert_of rule t g).answer ≡ Err NoRoom) ↔ NeedsMore rule t (given_line g ∷ live_lines t.lines) × None 6 insert_tests
  insert_no_room_exact fair = no_room_exact rule fair t g

  insert_done : (h : ℕ) → ((insert_of rule t g).answer ≡ Ok h) ↔ ((s : ℕ) × Lowest (Vacant t.lines) s × (h ≡ s * 65536 + (generation t.lines s + 1))) × None 7 insert_tests
  insert_done = (insert_exact rule t g).done

  insert_put : (h s : ℕ) → (insert_of rule t g).answer ≡ Ok h → Lowest (Vacant t.lines) s → PutIn rule t g s (insert_of rule t g).after
  insert_put = (insert_exact rule t g).put

  insert_kept : 0 < refusal_of (insert_of rule t g).answer → (insert_of rule t g).after ≡ t
  insert_kept = (insert_exact rule t g).kept

module _ (rule : Rule) (t : Tables) (h : ℕ) where
  abbrev delete_tests : List (Type 0)
  delete_tests = WrongLengths t ∷ Unsound rule t ∷ Unknown t.lines h ∷ []

  delete_lengths : ((delete_of rule t h).answer ≡ Err Lengths) ↔ WrongLengths t
  delete_lengths = (delete_exact rule t h).lengths

  delete_damaged : ((delete_of rule t h).answer ≡ Err Damaged) ↔ Unsound rule t × None 1 delete_tests
  delete_damaged = (delete_exact rule t h).damaged

  delete_unknown : ((delete_of rule t h).answer ≡ Err UnknownHandle) ↔ Unknown t.lines h × None 2 delete_tests
  delete_unknown = (delete_exact rule t h).unknown

  delete_done : (d : ℕ) → ((delete_of rule t h).answer ≡ Ok d) ↔ (d ≡ 0) × None 3 delete_tests
  delete_done = (delete_exact rule t h).done

  delete_emptied : Fair rule → (d : ℕ) → (delete_of rule t h).answer ≡ Ok d → TakenOut rule t (h / 65536) (delete_of rule t h).after
  delete_emptied = (delete_exact rule t h).emptied

  delete_kept : 0 < refusal_of (delete_of rule t h).answer → (delete_of rule t h).after ≡ t
  delete_kept = (delete_exact rule t h).kept

module _ (rule : Rule) (t : Tables) (points answers : List ℕ) where
  abbrev locate_tests : List (Type 0)
  locate_tests = WrongLists t points answers ∷ Unsound rule t ∷ []

  locate_lengths : ((locate_of rule t points answers).answer ≡ Err Lengths) ↔ WrongLists t points answers
  locate_lengths = (locate_exact rule t points answers).lengths

  locate_damaged : ((locate_of rule t points answers).answer ≡ Err Damaged) ↔ Unsound rule t × None 1 locate_tests
  locate_damaged = (locate_exact rule t points answers).damaged

  locate_done : (d : ℕ) → ((locate_of rule t points answers).answer ≡ Ok d) ↔ (d ≡ 0) × None 2 locate_tests
  locate_done = (locate_exact rule t points answers).done

  locate_answered : (d : ℕ) → (locate_of rule t points answers).answer ≡ Ok d → AnswersAll t.lines points answers (locate_of rule t points answers).answers
  locate_answered = (locate_exact rule t points answers).answered

  locate_kept : 0 < refusal_of (locate_of rule t points answers).answer → (locate_of rule t points answers).answers ≡ answers
  locate_kept = (locate_exact rule t points answers).kept

module _ (rule : Rule) (t : Tables) (x y : ℕ) where
  abbrev show_tests : List (Type 0)
  show_tests = WrongLengths t ∷ Unsound rule t ∷ ((16383 < x) ⊎ (16383 < y)) ∷ []

  show_lengths : ((show_of rule t x y).told.answer ≡ Err Lengths) ↔ WrongLengths t
  show_lengths = (show_exact rule t x y).lengths

  show_damaged : ((show_of rule t x y).told.answer ≡ Err Damaged) ↔ Unsound rule t × None 1 show_tests
  show_damaged = (show_exact rule t x y).damaged

  show_off_grid : ((show_of rule t x y).told.answer ≡ Err OffGrid) ↔ ((16383 < x) ⊎ (16383 < y)) × None 2 show_tests
  show_off_grid = (show_exact rule t x y).off_grid

  show_done : (d : ℕ) → ((show_of rule t x y).told.answer ≡ Ok d) ↔ (d ≡ 0) × None 3 show_tests
  show_done = (show_exact rule t x y).done

  -- the leaf that holds the point: told by its block, its lines, and where they stand
  show_block : (d : ℕ) → (show_of rule t x y).told.answer ≡ Ok d
      → (k : Block) × ((show_of rule t x y).told ≡ record { answer = Ok 0; side = k.side; west = record { 0 = k.west }; south = record { 0 = k.south } }) × In k (grid_point x y)
      × LeafAt whole_map (tree rule (live_lines t.lines)) k (show_of rule t x y).part × ListedFrom whole_map (tree rule (live_lines t.lines)) k (show_of rule t x y).first
  show_block d e = let l = (show_exact rule t x y).leaf d e in (l.0, l.1.tells, l.1.holds, l.1.is_leaf, l.1.from)

  show_nothing : 0 < refusal_of (show_of rule t x y).told.answer
      → ((show_of rule t x y).told.side ≡ 0) × ((show_of rule t x y).told.west.0 ≡ 0) × ((show_of rule t x y).told.south.0 ≡ 0) × ((show_of rule t x y).first ≡ 0) × ((show_of rule t x y).part ≡ [])
  show_nothing h = let n = (show_exact rule t x y).nothing h in (n.side, n.west, n.south, n.first, n.part)

module _ (rule : Rule) (t : Tables) (w : Window) (list : List ℕ) where
  abbrev window_tests : List (Type 0)
  window_tests = WrongLengths t ∷ Unsound rule t ∷ WrongWindow w ∷ TooShort t.lines w list ∷ []

  window_lengths : ((window_of rule t w list).answer ≡ Err Lengths) ↔ WrongLengths t
  window_lengths = (window_exact rule t w list).lengths

  window_damaged : ((window_of rule t w list).answer ≡ Err Damaged) ↔ Unsound rule t × None 1 window_tests
  window_damaged = (window_exact rule t w list).damaged

  window_bad : ((window_of rule t w list).answer ≡ Err BadWindow) ↔ WrongWindow w × None 2 window_tests
  window_bad = (window_exact rule t w list).bad_window

  window_short : ((window_of rule t w list).answer ≡ Err ListShort) ↔ TooShort t.lines w list × None 3 window_tests
  window_short = (window_exact rule t w list).list_short

  window_done : (n : ℕ) → ((window_of rule t w list).answer ≡ Ok n) ↔ ((slots : List ℕ) × InWindow t.lines w slots × (n ≡ length slots)) × None 4 window_tests
  window_done = (window_exact rule t w list).done

  -- the first n entries: the slots of the live lines with a point in the closed rectangle, each once, rising
  window_shows : (n : ℕ) → (window_of rule t w list).answer ≡ Ok n
      → Rising (take n (window_of rule t w list).slots) × ((s : ℕ) → Memᴰ s (take n (window_of rule t w list).slots) ↔ (Live t.lines s × MeetsWindow w (line_at t.lines s)))
  window_shows n e = let f = ((window_exact rule t w list).shows n e).front in (f.rising, f.exactly)

  -- the later ones stay, and no entry is added
  window_later : (n : ℕ) → (window_of rule t w list).answer ≡ Ok n
      → (length (window_of rule t w list).slots ≡ length list) × ((i : ℕ) → n ≤ i → get_or (window_of rule t w list).slots i 0 ≡ get_or list i 0)
  window_later n e = let f = (window_exact rule t w list).shows n e in (f.long, f.later)

  window_kept : 0 < refusal_of (window_of rule t w list).answer → (window_of rule t w list).slots ≡ list
  window_kept = (window_exact rule t w list).kept

-- what is accepted leaves a sound map
module _ (rule : Rule) (fair : Fair rule) (t : Tables) where
  start_sound : {d : ℕ} → (start_of t).answer ≡ Ok d → SoundMap rule (start_of t).after
  start_sound = start_accepted rule fair t

  insert_sound : (g : Given) {h : ℕ} → (insert_of rule t g).answer ≡ Ok h → SoundMap rule (insert_of rule t g).after
  insert_sound = insert_accepted rule fair t

  delete_sound : (h : ℕ) {d : ℕ} → (delete_of rule t h).answer ≡ Ok d → SoundMap rule (delete_of rule t h).after
  delete_sound = delete_accepted rule fair t

-- ---- Demand 2

block_meets : (k : Block) (l : Line) → (meets k l ≡ true) ↔ Meets k l
block_meets = meets_iff

area_meets : (k : Area) → k.west ≤ k.east → k.south ≤ k.north → (l : Line) → (meets_area k l ≡ true) ↔ ((p : Spot) × OnLine p l × InArea p k)
area_meets = meets_area_iff

the_window : (lines : List ℕ) (w : Window) → w.west ≤ w.east → w.south ≤ w.north → (slots : List ℕ) → (slots ≡ slots_in lines (area_in w)) ↔ InWindow lines w slots
the_window = window_iff

-- a point of the line in the closed rectangle of grid numbers
meets_window : (w : Window) (l : Line) → MeetsWindow w l
    ↔ ((p : Spot) × OnLine p l × ((2 * w.west + 1) * p.Z ≤ p.X) × (p.X ≤ (2 * w.east + 1) * p.Z) × ((2 * w.south + 1) * p.Z ≤ p.Y) × (p.Y ≤ (2 * w.north + 1) * p.Z))
meets_window w l = (λ (p, o, i). (p, o, i.from_west, i.to_east, i.from_south, i.to_north), λ (p, o, a, b, c, d). (p, o, record { from_west = a; to_east = b; from_south = c; to_north = d }))

nothing_is_lost : ((k : Area) (l : Line) → MeetsWhole k l ↔ MeetsArea k l) × ((l m : Line) → ConflictsWhole l m ↔ Conflicts l m)
nothing_is_lost = (nothing_lost.meeting, nothing_lost.crossing)

lines_conflict : (l m : Line) → Proper l → Proper m → (conflict l m ≡ true) ↔ Conflicts l m
lines_conflict = conflict_iff

module _ (l m : Line) (pl : Proper l) (pm : Proper m) where
  module _ (clash : conflict l m ≡ true) where
    told_crossing : (kind_of l m ≡ Crossing) ↔ ((s : Spot) × OnlyShared s l m × ¬ AtEnd s l × ¬ AtEnd s m)
    told_crossing = kind_iff l m pl pm clash Crossing

    told_touching : (kind_of l m ≡ Touching) ↔ ((s : Spot) × OnlyShared s l m × ((AtEnd s l × ¬ AtEnd s m) ⊎ (¬ AtEnd s l × AtEnd s m)))
    told_touching = kind_iff l m pl pm clash Touching

    told_overlap : (kind_of l m ≡ Overlap) ↔ (TwoShared l m × ¬ SameEnds l m)
    told_overlap = kind_iff l m pl pm clash Overlap

    told_same : (kind_of l m ≡ Same) ↔ SameEnds l m
    told_same = kind_iff l m pl pm clash Same

  in_one_way : Conflicts l m ↔ ((k : Kind) × KindIs l m k)
  in_one_way = conflict_kinds l m pl pm

  and_no_other : (j k : Kind) → KindIs l m j → KindIs l m k → j ≡ k
  and_no_other = one_kind l m

block_simple : (lines : List Line) (k : Block) → BySlot lines → (simple lines k ≡ true) ↔ Criteria lines k
block_simple = simple_means

the_tree : (lines : List ℕ) → IsTree (Criteria (live_lines lines)) (live_lines lines) whole_map (tree base_rule (live_lines lines))
the_tree = tree_is

the_only_tree : (lines : List ℕ) {t : Tree} → IsTree (Criteria (live_lines lines)) (live_lines lines) whole_map t → t ≡ tree base_rule (live_lines lines)
the_only_tree = tree_only

a_leaf_lists : (rule : Rule) (ls : List Line) (j : Block) (list : List ℕ) → LeafAt whole_map (tree rule ls) j list → list ≡ listed ls j
unfolding tree
a_leaf_lists rule ls j list = leaf_lists rule ls j list 14 0 0

in_the_tables : (t : Tree) (nodes listings : List ℕ) → ((nodes ≡ padded (length nodes) (nodes_of t)) × (listings ≡ padded (length listings) (listings_of t))) ↔ Tabled t nodes listings
in_the_tables = tabled_iff

in_the_lists : {t : Tree} {nodes listings n l : List ℕ} → Stored t nodes listings n l → (nodes ≡ nodes_of t ++ n) × (listings ≡ listings_of t ++ l)
in_the_lists = stored_lists

out_of_the_lists : (t : Tree) {nodes listings : List ℕ} (n l : List ℕ) → nodes ≡ nodes_of t ++ n → listings ≡ listings_of t ++ l → Stored t nodes listings n l
out_of_the_lists = lists_stored

one_leaf_for_two : (rule : Rule) (lines : List ℕ) → every (slot_sound lines) (slots_of lines) ≡ true → (x y : ℕ) → Memᴰ x (live_slots lines) → Memᴰ y (live_slots lines)
    → (p : Spot) → OnLine p (line_at lines x) → OnLine p (line_at lines y)
    → (j : Block) × (list : List ℕ) × LeafAt whole_map (tree rule (live_lines lines)) j list × Memᴰ x list × Memᴰ y list
one_leaf_for_two rule lines ok x y mx my p ox oy = let s = share_a_leaf rule lines ok x y mx my p ox oy in (s.place, s.list, s.is_leaf, s.first, s.second)

by_leaves : (rule : Rule) (lines : List ℕ) → every (slot_sound lines) (slots_of lines) ≡ true → LeafApart lines (tree rule (live_lines lines)) ↔ (none_conflict lines ≡ true)
by_leaves = leaves_exact

the_tree_remains : (rule : Rule) (t : Tables) (h : ℕ) → (delete_of rule t h).answer ≡ Ok 0
    → ((delete_of rule t h).after.nodes ≡ padded (length t.nodes) (nodes_of (tree rule (those (λ l. not (eqb l.slot (h / 65536))) (live_lines t.lines)))))
    × ((delete_of rule t h).after.listings ≡ padded (length t.listings) (listings_of (tree rule (those (λ l. not (eqb l.slot (h / 65536))) (live_lines t.lines)))))
the_tree_remains rule t h e = let r = delete_tree rule t h e in (r.nodes, r.listings)

fewer_fit : (rule : Rule) → Fair rule → {ls ms : List Line} → Sub ls ms
    → (length (nodes_of (tree rule ls)) ≤ length (nodes_of (tree rule ms))) × (length (listings_of (tree rule ls)) ≤ length (listings_of (tree rule ms)))
fewer_fit rule fair sub = let s = fewer rule fair sub in (s.nodes, s.listings)

the_rule_is_fair : Fair base_rule
the_rule_is_fair = base_fair

the_answer : (rule : Rule) (t : Tables) → sound rule t ≡ true → (x y n : ℕ) → (n ≡ answer_to t.lines x y) ↔ AnswersTo t.lines x y n
the_answer = locate_iff

the_line : (lines : List ℕ) (p : Point) → none_conflict lines ≡ true → (a : Answering) → (a ≡ answering lines p) ↔ Answers lines p a
the_line = answering_iff

the_number : (lines : List ℕ) (a : Answering) (n : ℕ) → (n ≡ answer_of lines a) ↔ Tells lines a n
the_number = tells_iff

the_search : (lines : List ℕ) (p : Point) → none_conflict lines ≡ true → answering lines p ≡ plain lines p
the_search = plain_answers

every_point : (rule : Rule) (lines : List Line) (p : Spot) → InBlock p whole_map → (j : Block) × (list : List ℕ) × LeafAt whole_map (tree rule lines) j list × InBlock p j
every_point rule lines p b = let h = in_a_leaf rule lines p b in (h.place, h.list, h.is_leaf, h.holds)

only_one_leaf : (rule : Rule) (ls : List Line) (x y : ℕ) {j k : Block} {list more : List ℕ} → In j (grid_point x y) → In k (grid_point x y)
    → LeafAt whole_map (tree rule ls) j list → LeafAt whole_map (tree rule ls) k more → (j ≡ k) × (list ≡ more)
only_one_leaf = one_leaf

a_sound_map : (rule : Rule) (t : Tables) → (sound rule t ≡ true) ↔ SoundMap rule t
a_sound_map = sound_means

-- ---- Demand 3

module _ (rule : Rule) (fair : Fair rule) (t : Tables) (fit : lengths_fit t ≡ true) (cs : List Call) where
  abbrev reached : Tables
  reached = after_all rule (cleared t) cs

  never_twice : Distinct (given_by rule (cleared t) cs)
  never_twice = (demand_3 rule fair t fit cs).distinct

  refused_after : (h : ℕ) → (delete_of rule reached h).answer ≡ Ok 0 → (ds : List Call) → (delete_of rule (after_all rule (delete_of rule reached h).after ds) h).answer ≡ Err UnknownHandle
  refused_after = (demand_3 rule fair t fit cs).refused

  live_exactly : (i : Held) → Memᴰ i (live_held reached.lines) ↔ Stands i (heard rule (cleared t) cs)
  live_exactly = (demand_3 rule fair t fit cs).live

  always_sound : sound rule reached ≡ true
  always_sound = (demand_3 rule fair t fit cs).shown

  fixed_by_lines : (u : Tables) → lengths_fit u ≡ true → (ds : List Call) → SameLines reached.lines (after_all rule (cleared u) ds).lines
      → Alike reached.lines (after_all rule (cleared u) ds).lines (tree rule (live_lines reached.lines)) (tree rule (live_lines (after_all rule (cleared u) ds).lines))
  fixed_by_lines = (demand_3 rule fair t fit cs).fixed

  restored_at_once : (g : Given) (h : ℕ) → (insert_of rule reached g).answer ≡ Ok h
      → ((delete_of rule (insert_of rule reached g).after h).answer ≡ Ok 0)
      × ((delete_of rule (insert_of rule reached g).after h).after.nodes ≡ reached.nodes) × ((delete_of rule (insert_of rule reached g).after h).after.listings ≡ reached.listings)
  restored_at_once g h e = let r = (demand_3 rule fair t fit cs).restored g h e in (r.done, r.nodes, r.listings)

-- ---- A map lent longer: so many slots, node and listing entries more, all 0
module _ (rule : Rule) (t : Tables) (a n m : ℕ) (whole : length t.lines % 8 ≡ 0) where
  abbrev longer : Tables
  longer = record { lines = t.lines ++ replicate (8 * a) 0; nodes = t.nodes ++ replicate n 0; listings = t.listings ++ replicate m 0 }

  longer_sound : SoundMap rule t → SoundMap rule longer
  unfolding grown
  longer_sound = grown_sound rule t a n m whole

  longer_holds : live_held longer.lines ≡ live_held t.lines
  unfolding grown
  longer_holds = grown_held t a n m whole

  longer_knows : (h : ℕ) → known longer.lines h ≡ known t.lines h
  unfolding grown
  longer_knows h = grown_known t a n m h whole
