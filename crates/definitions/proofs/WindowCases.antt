-- Numbers of our own for window, on a map of three lines and an empty slot. Each side computes.
use mathlib.Core.Path.{◌≡◌, refl}
use mathlib.Core.List.{List, [], ◌∷◌}
use Prim.Native.Nat.{ℕ}
use Rattle.algebra.specs.Words.{those, every, up_from, same_list, padded}
use Rattle.definitions.specs.declared.Window.{Window}
use Rattle.definitions.specs.Shape.{turn, left_of, right_of, corners, meets_area, meets, inside, same_point, is_end, on, within, parts, conflict, in_line_of, kind_of}
use Rattle.definitions.specs.Tree.{base_rule, tree_by, ends_of, simple_with, simple, listed, tree, nodes_of, listings_of}
use Rattle.definitions.specs.Tables.{Tables, lengths_fit, slots_of, is_live, line_at, live_slots, live_lines, live_sound, empty_sound, slot_sound, none_conflict, node_table, listing_table, sound}
use Rattle.definitions.specs.Calls.{number_of, rebuilt, with_slot, cleared, start_of, given_line, all_on_grid, no_length, conflicting, conflict_detail, free_slots, placed, room_for, insert_of, known, freed, delete_of}
use Rattle.definitions.specs.Window.{window_fits, slots_in, listed_in, window_of}
use Rattle.definitions.specs.History.{delete, window, reply_to, after_all, numbers}
use Rattle.definitions.proofs.Cases.{fresh, line, refusal}

-- slot 0 rises by 1 over 2, slot 1 is empty, slot 2 is upright, slot 3 is drawn westward
abbrev drawn : Tables
drawn = after_all base_rule (fresh 4 29 15) (line 4000 4000 12000 8000 ∷ line 0 16000 16000 16000 ∷ line 8000 9000 8000 12000 ∷ line 16383 2000 0 1000 ∷ delete 65537 ∷ [])

abbrev window4 : ℕ → ℕ → ℕ → ℕ → Window
window4 west south east north = record { west = west; south = south; east = east; north = north }

-- the number that the host gets, and the list afterwards
abbrev asked : ℕ → ℕ → ℕ → ℕ → List ℕ → ℕ × List ℕ
asked west south east north list = let r = window_of base_rule drawn (window4 west south east north) list in (number_of r.answer, r.slots)

-- with a list of two
abbrev seen : ℕ → ℕ → ℕ → ℕ → ℕ × List ℕ
seen west south east north = asked west south east north (9 ∷ 9 ∷ [])

abbrev none : ℕ × List ℕ
none = (0, 9 ∷ 9 ∷ [])

abbrev one : ℕ → ℕ × List ℕ
one slot = (1, slot ∷ 9 ∷ [])

abbrev refused : ℕ × List ℕ
refused = (refusal 9 0, 9 ∷ 9 ∷ [])

pub record WindowCases : Type 0 where
  -- the whole map; lists of the exact length, longer, one shorter, and none
  pub whole : asked 0 0 16383 16383 (9 ∷ 8 ∷ 7 ∷ []) ∷ asked 0 0 16383 16383 (9 ∷ 8 ∷ 7 ∷ 6 ∷ 5 ∷ []) ∷ asked 0 0 16383 16383 (9 ∷ 8 ∷ []) ∷ asked 0 0 16383 16383 [] ∷ [] ≡ (3, 0 ∷ 2 ∷ 3 ∷ []) ∷ (3, 0 ∷ 2 ∷ 3 ∷ 6 ∷ 5 ∷ []) ∷ (refusal 10 0, 9 ∷ 8 ∷ []) ∷ (refusal 10 0, []) ∷ []
  -- no line: the list stays, and none will do; a deleted line is not seen
  pub empty : seen 0 0 0 0 ∷ asked 0 0 0 0 [] ∷ seen 0 16000 16000 16000 ∷ [] ≡ none ∷ (0, []) ∷ none ∷ []
  -- a corner at an end, and a step off each way
  pub at_end : seen 8000 12000 9000 13000 ∷ seen 8001 12000 9000 13000 ∷ seen 8000 12001 9000 13000 ∷ [] ≡ one 2 ∷ none ∷ none ∷ []
  -- each of the four corners on the rising line: two only touch it, and a step off
  pub at_corner : seen 8000 5000 9000 6000 ∷ seen 8001 5000 9000 6000 ∷ seen 7000 6000 8000 7000 ∷ seen 7000 6000 7999 7000 ∷ seen 7000 5000 8000 6000 ∷ seen 8000 6000 9000 7000 ∷ [] ≡ one 0 ∷ none ∷ one 0 ∷ none ∷ one 0 ∷ one 0 ∷ []
  -- an end on the south, north, west, east side
  pub on_side : seen 7000 12000 9000 13000 ∷ seen 7000 8500 9000 9000 ∷ seen 12000 7000 13000 9000 ∷ seen 3000 3500 4000 4500 ∷ [] ≡ one 2 ∷ one 2 ∷ one 0 ∷ one 0 ∷ []
  -- one point: on a line, and a step off; at an end, also of the line drawn westward
  pub point : seen 8000 10000 8000 10000 ∷ seen 8001 10000 8001 10000 ∷ seen 8000 6000 8000 6000 ∷ seen 8000 6001 8000 6001 ∷ seen 12000 8000 12000 8000 ∷ seen 0 1000 0 1000 ∷ [] ≡ one 2 ∷ none ∷ one 0 ∷ none ∷ one 0 ∷ one 3 ∷ []
  -- one segment: level, upright and along a line, and beside it
  pub segment : seen 0 10000 16383 10000 ∷ asked 8000 0 8000 16383 (9 ∷ 9 ∷ 9 ∷ []) ∷ seen 7999 9000 7999 12000 ∷ [] ≡ one 2 ∷ (3, 0 ∷ 2 ∷ 3 ∷ []) ∷ none ∷ []
  -- the line passes the rectangle that its own smallest rectangle touches
  pub beside : seen 5000 6000 6000 7000 ∷ seen 10000 4500 11000 6500 ∷ [] ≡ none ∷ none ∷ []
  -- the line drawn westward passes a corner by less than half a step, south-east and north-west; and a step on
  pub near : seen 0 1001 16 1500 ∷ seen 0 1001 17 1500 ∷ seen 33 900 100 1002 ∷ seen 32 900 100 1002 ∷ [] ≡ none ∷ one 3 ∷ none ∷ one 3 ∷ []
  -- inverted either way, off the grid in each number; before the list is asked for
  pub bad : seen 9 0 8 16383 ∷ seen 0 9 16383 8 ∷ seen 16384 0 16384 16383 ∷ seen 0 16384 16383 16384 ∷ asked 0 0 16384 16383 [] ∷ asked 0 0 16383 16384 [] ∷ [] ≡ refused ∷ refused ∷ refused ∷ refused ∷ (refusal 9 0, []) ∷ (refusal 9 0, []) ∷ []
  -- the lengths first, then damage
  pub lengths : numbers base_rule (fresh 1 0 0) (window (window4 9 9 8 8) [] ∷ []) ≡ refusal 1 0 ∷ []
  pub damaged : numbers base_rule (record { lines = drawn.lines; nodes = drawn.nodes; listings = 0 ∷ [] }) (window (window4 9 9 8 8) [] ∷ []) ≡ refusal 2 0 ∷ []
  -- a call among others
  pub between : numbers base_rule drawn (delete 131073 ∷ window (window4 0 0 16383 16383) (0 ∷ 0 ∷ []) ∷ delete 1 ∷ window (window4 0 0 16383 16383) (0 ∷ 0 ∷ []) ∷ []) ≡ 0 ∷ 2 ∷ 0 ∷ 1 ∷ []

pub window_cases : WindowCases
unfolding those every up_from same_list turn left_of right_of corners meets_area meets inside same_point is_end on within parts conflict in_line_of kind_of ends_of simple_with simple listed tree nodes_of listings_of padded lengths_fit slots_of is_live line_at live_slots live_lines live_sound empty_sound slot_sound none_conflict node_table listing_table sound rebuilt with_slot cleared start_of given_line all_on_grid no_length conflicting conflict_detail free_slots placed room_for insert_of known freed delete_of window_fits slots_in listed_in window_of reply_to after_all numbers base_rule tree_by
window_cases =
    record { whole = refl; empty = refl; at_end = refl; at_corner = refl; on_side = refl; point = refl; segment = refl; beside = refl; near = refl; bad = refl; lengths = refl; damaged = refl; between = refl }
