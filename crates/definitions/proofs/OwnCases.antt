-- Numbers of our own, beside the paper's: what P1 to P11 leave open, on short tables. Each side computes.
use Rattle.std.specs.Prelude.{Ok, Err}
use mathlib.Core.Path.{◌≡◌, refl}
use mathlib.Core.List.{List, [], ◌∷◌, ◌++◌}
use Prim.Native.Nat.{ℕ}
use Rattle.algebra.specs.Words.{those, every, up_from, same_list, padded}
use Rattle.definitions.specs.declared.Refusal.TheVariants.{Lengths, Damaged, OffGrid, NoLength, Conflict, NoSlot, NoRoom, UnknownHandle, BadWindow, ListShort}
use Rattle.definitions.specs.declared.Kind.TheVariants.{Crossing, Touching, Overlap, Same}
use Rattle.definitions.specs.Shape.{turn, left_of, right_of, corners, meets_area, meets, inside, same_point, is_end, on, within, parts, conflict, in_line_of, kind_of}
use Rattle.definitions.specs.Tree.{base_rule, tree_by, ends_of, simple_with, simple, listed, tree, nodes_of, listings_of}
use Rattle.definitions.specs.Tables.{Tables, lengths_fit, slots_of, is_live, line_at, live_slots, live_lines, live_sound, empty_sound, slot_sound, none_conflict, node_table, listing_table, sound}
use Rattle.definitions.specs.Calls.{number_of, kind_number, reply, rebuilt, with_slot, cleared, start_of, given_line, all_on_grid, no_length, conflicting, conflict_detail, free_slots, placed, room_for, insert_of, known, freed, delete_of}
use Rattle.definitions.specs.Lookup.{Showing, below, above, run, height_over, rise, higher, lower, foremost, upper_label, lower_label, answering, answer_of, answer_at, answer_to, answers_to, locate_of, leaf_at, leaf_over, show_of}
use Rattle.definitions.specs.History.{delete, locate, show, reply_to, after_all, numbers}
use Rattle.definitions.proofs.Cases.{zeros, fresh, labelled, line, refusal}

-- what show leaf gives: side, west, south; where its part starts, and the part
abbrev shows : ℕ → ℕ → ℕ → ℕ → List ℕ → Showing
shows side west south first part = record { told = record { answer = Ok 0; side = side; west = record { 0 = west }; south = record { 0 = south } }; first = first; part = part }

-- three lines from one corner of the map: the leaf at that corner lists all three
abbrev fan : Tables
fan = after_all base_rule (fresh 3 14 11) (line 0 0 0 16383 ∷ line 0 0 16383 16383 ∷ line 0 0 16383 0 ∷ [])

-- slots: three sides of the map, and one that has been used so many times
abbrev west : List ℕ
west = 1 ∷ 2 ∷ 0 ∷ 0 ∷ 0 ∷ 16383 ∷ 11 ∷ 12 ∷ []

abbrev east : List ℕ
east = 1 ∷ 7 ∷ 16383 ∷ 0 ∷ 16383 ∷ 16383 ∷ 13 ∷ 14 ∷ []

abbrev south : List ℕ
south = 1 ∷ 5 ∷ 0 ∷ 0 ∷ 16383 ∷ 0 ∷ 21 ∷ 22 ∷ []

abbrev used : ℕ → List ℕ
used times = 0 ∷ times ∷ 0 ∷ 0 ∷ 0 ∷ 0 ∷ 0 ∷ 0 ∷ []

abbrev two_sides : ℕ → Tables
two_sides times = record { lines = west ++ used times ++ east; nodes = 65535 ∷ 1 ∷ 1 ∷ 1 ∷ 1 ∷ 0 ∷ []; listings = 0 ∷ 2 ∷ 0 ∷ 2 ∷ 0 ∷ 0 ∷ 0 ∷ [] }

abbrev three_sides : Tables
three_sides = record { lines = west ++ south ++ east; nodes = 65535 ∷ 1 ∷ 1 ∷ 2 ∷ 2 ∷ 0 ∷ []; listings = 0 ∷ 2 ∷ 0 ∷ 1 ∷ 1 ∷ 2 ∷ 0 ∷ [] }

-- one line drawn westward, one eastward, one upright
abbrev three_ways : Tables
three_ways = after_all base_rule (fresh 3 20 20) (labelled 16383 0 0 0 3 4 ∷ labelled 0 8192 16383 8192 5 6 ∷ labelled 0 0 0 4000 7 8 ∷ [])

pub record OwnCases : Type 0 where
  -- start on tables in any state: all 0, generations too
  pub start : start_of (record { lines = 1 ∷ 5 ∷ 0 ∷ 0 ∷ 10 ∷ 0 ∷ 7 ∷ 9 ∷ 3 ∷ 65535 ∷ 0 ∷ 0 ∷ 0 ∷ 0 ∷ 0 ∷ 6 ∷ []; nodes = 65535 ∷ 3 ∷ []; listings = 4 ∷ [] }) ≡ reply (Ok 0) (record { lines = zeros 16; nodes = 0 ∷ 0 ∷ []; listings = 0 ∷ [] })
  -- an upright line on the west side: the sons in the order NW, NE, SW, SE
  pub upright : reply_to base_rule (fresh 1 6 3) (line 0 0 0 16383) ≡ reply (Ok 1) (record { lines = 1 ∷ 1 ∷ 0 ∷ 0 ∷ 0 ∷ 16383 ∷ 0 ∷ 0 ∷ []; nodes = 65535 ∷ 1 ∷ 0 ∷ 1 ∷ 0 ∷ 0 ∷ []; listings = 0 ∷ 0 ∷ 0 ∷ [] })
  -- the fan: each leaf's count is that of its lines, its slots rise, and 0 comes after the last
  pub fan_nodes : fan.nodes ≡ 65535 ∷ 65535 ∷ 1 ∷ 0 ∷ 1 ∷ 1 ∷ 1 ∷ 3 ∷ 65535 ∷ 1 ∷ 0 ∷ 1 ∷ 1 ∷ 0 ∷ []
  pub fan_listings : fan.listings ≡ 0 ∷ 0 ∷ 1 ∷ 1 ∷ 0 ∷ 1 ∷ 2 ∷ 1 ∷ 2 ∷ 2 ∷ 0 ∷ []
  -- a leaf in each of the four sons
  pub leaf_nw : show_of base_rule fan 0 16383 ≡ shows 8192 0 24576 0 (0 ∷ [])
  pub leaf_ne : show_of base_rule fan 16383 8192 ≡ shows 16384 16384 16384 3 (1 ∷ [])
  pub leaf_sw : show_of base_rule fan 8191 0 ≡ shows 16384 0 0 4 (0 ∷ 1 ∷ 2 ∷ [])
  pub leaf_se : show_of base_rule fan 16383 0 ≡ shows 8192 24576 0 9 (2 ∷ [])
  pub leaf_empty : show_of base_rule fan 16383 8191 ≡ shows 8192 24576 8192 8 []
  -- a line put between two live ones, and taken away again: its generation stays
  pub between : reply_to base_rule (two_sides 4) (labelled 0 0 16383 0 21 22) ≡ reply (Ok 65541) three_sides
  pub emptied : reply_to base_rule three_sides (delete 65541) ≡ reply (Ok 0) (two_sides 5)
  -- the upper side of a line drawn westward is its right, of one drawn eastward its left; an upright line is never below; seven points
  pub seven : locate_of base_rule three_ways (0 ∷ 5000 ∷ 0 ∷ 9000 ∷ 0 ∷ 8192 ∷ 0 ∷ 2000 ∷ 0 ∷ 0 ∷ 16383 ∷ 5000 ∷ 16384 ∷ 0 ∷ []) (9 ∷ 9 ∷ 9 ∷ 9 ∷ 9 ∷ 9 ∷ 9 ∷ []) ≡ record { answer = Ok 0; answers = 4 ∷ 5 ∷ 65537 ∷ 65538 ∷ 65536 ∷ 0 ∷ 4294967295 ∷ [] }
  -- every refusal by its number and detail: as the paper has them, and of calls
  pub refusals : number_of (Err Lengths) ∷ number_of (Err Damaged) ∷ number_of (Err OffGrid) ∷ number_of (Err NoLength) ∷ number_of (Err (Conflict 1023)) ∷ number_of (Err NoSlot) ∷ number_of (Err NoRoom) ∷ number_of (Err UnknownHandle) ∷ number_of (Err BadWindow) ∷ number_of (Err ListShort) ∷ [] ≡ 4294967296 ∷ 8589934592 ∷ 12884901888 ∷ 17179869184 ∷ 21474837503 ∷ 25769803776 ∷ 30064771072 ∷ 34359738368 ∷ 38654705664 ∷ 42949672960 ∷ []
  pub lengths : numbers base_rule (fresh 1 0 0) (line 0 0 1 1 ∷ delete 1 ∷ locate [] [] ∷ show 0 0 ∷ []) ≡ refusal 1 0 ∷ refusal 1 0 ∷ refusal 1 0 ∷ refusal 1 0 ∷ []
  pub start_lengths : number_of (start_of (fresh 1 0 0)).answer ≡ refusal 1 0
  pub lists : numbers base_rule (fresh 1 1 0) (locate (0 ∷ []) [] ∷ locate (0 ∷ 0 ∷ []) [] ∷ locate [] [] ∷ []) ≡ refusal 1 0 ∷ refusal 1 0 ∷ 0 ∷ []
  pub damaged : numbers base_rule (record { lines = zeros 8; nodes = 0 ∷ 1 ∷ []; listings = [] }) (line 0 0 1 1 ∷ delete 1 ∷ locate [] [] ∷ show 0 0 ∷ []) ≡ refusal 2 0 ∷ refusal 2 0 ∷ refusal 2 0 ∷ refusal 2 0 ∷ []
  pub off_grid : numbers base_rule (two_sides 4) (line 16384 0 0 0 ∷ line 16384 0 16384 0 ∷ show 0 16384 ∷ []) ≡ refusal 3 0 ∷ refusal 3 0 ∷ refusal 3 0 ∷ []
  pub no_length : numbers base_rule (two_sides 4) (line 5 5 5 5 ∷ line 0 5 0 5 ∷ []) ≡ refusal 4 0 ∷ refusal 4 0 ∷ []
  pub conflicts : numbers base_rule (two_sides 4) (line 16383 9 0 9 ∷ line 16382 9 16383 9 ∷ []) ≡ refusal 5 131072 ∷ refusal 5 131074 ∷ []
  -- the kinds in their order
  pub kinds : kind_number Crossing ∷ kind_number Touching ∷ kind_number Overlap ∷ kind_number Same ∷ [] ≡ 1 ∷ 2 ∷ 3 ∷ 4 ∷ []
  -- 5 with its kind and slot, on a map of three lines: crossing, also drawn back
  pub crossed : numbers base_rule three_ways (line 5000 8000 6000 9000 ∷ line 6000 9000 5001 8000 ∷ []) ≡ refusal 5 65537 ∷ refusal 5 65537 ∷ []
  -- touching: the given line's first end, a live line's end, the given line's second end
  pub touched : numbers base_rule three_ways (line 5000 8192 6000 9000 ∷ line 0 8000 0 9000 ∷ line 700 9 0 1 ∷ []) ≡ refusal 5 131073 ∷ refusal 5 131073 ∷ refusal 5 131074 ∷ []
  -- overlap: a part, a part from a common end, past an end; and of two lines in the way the lower slot's kind, which is touching, though the other is overlapped
  pub overlapped : numbers base_rule three_ways (line 5000 8192 6000 8192 ∷ line 0 8192 1 8192 ∷ line 0 4001 0 1 ∷ line 0 16383 0 0 ∷ []) ≡ refusal 5 196609 ∷ refusal 5 196609 ∷ refusal 5 196610 ∷ refusal 5 131073 ∷ []
  -- same, also reversed
  pub sames : numbers base_rule three_ways (line 0 0 16383 0 ∷ line 16383 0 0 0 ∷ line 0 8192 16383 8192 ∷ line 0 4000 0 0 ∷ []) ≡ refusal 5 262144 ∷ refusal 5 262144 ∷ refusal 5 262145 ∷ refusal 5 262146 ∷ []
  pub no_slot : numbers base_rule three_sides (line 5 5 6 6 ∷ line 0 5 6 6 ∷ []) ≡ refusal 6 0 ∷ refusal 5 131072 ∷ []
  pub no_room : numbers base_rule (two_sides 4) (line 5 5 6 6 ∷ []) ≡ refusal 7 0 ∷ []
  pub unknown : numbers base_rule (two_sides 4) (delete 1 ∷ delete 65540 ∷ delete 196609 ∷ delete 131079 ∷ []) ≡ refusal 8 0 ∷ refusal 8 0 ∷ refusal 8 0 ∷ 0 ∷ []
  -- seven calls, each on what the one before left
  pub seven_calls : numbers base_rule (fresh 1 6 3) (line 0 0 0 16383 ∷ delete 1 ∷ line 0 0 0 16383 ∷ delete 2 ∷ line 0 0 0 16383 ∷ delete 3 ∷ line 0 0 0 16383 ∷ []) ≡ 1 ∷ 0 ∷ 2 ∷ 0 ∷ 3 ∷ 0 ∷ 4 ∷ []
  pub seven_left : after_all base_rule (fresh 1 6 3) (line 0 0 0 16383 ∷ delete 1 ∷ line 0 0 0 16383 ∷ delete 2 ∷ line 0 0 0 16383 ∷ delete 3 ∷ line 0 0 0 16383 ∷ []) ≡ record { lines = 1 ∷ 4 ∷ 0 ∷ 0 ∷ 0 ∷ 16383 ∷ 0 ∷ 0 ∷ []; nodes = 65535 ∷ 1 ∷ 0 ∷ 1 ∷ 0 ∷ 0 ∷ []; listings = 0 ∷ 0 ∷ 0 ∷ [] }
  -- the paper's run-only case, on short tables
  pub run_only : show_of base_rule (after_all base_rule (fresh 4 200 200) (line 0 0 8 8 ∷ line 0 0 8 7 ∷ line 4 7 5 7 ∷ delete 131073 ∷ [])) 0 0 ≡ shows 16 0 0 2 (0 ∷ 1 ∷ [])

pub own_cases : OwnCases
unfolding those every up_from same_list turn left_of right_of corners meets_area meets inside same_point is_end on within parts conflict in_line_of kind_of ends_of simple_with simple listed tree nodes_of listings_of padded lengths_fit slots_of is_live line_at live_slots live_lines live_sound empty_sound slot_sound none_conflict node_table listing_table sound rebuilt with_slot cleared start_of given_line all_on_grid no_length conflicting conflict_detail free_slots placed room_for insert_of known freed delete_of below above run height_over rise higher lower foremost upper_label lower_label answering answer_of answer_at answer_to answers_to locate_of leaf_at leaf_over show_of reply_to after_all numbers base_rule tree_by
own_cases =
    record { start = refl; upright = refl; fan_nodes = refl; fan_listings = refl; leaf_nw = refl; leaf_ne = refl; leaf_sw = refl; leaf_se = refl; leaf_empty = refl; between = refl; emptied = refl; seven = refl; refusals = refl; lengths = refl; start_lengths = refl; lists = refl; damaged = refl; off_grid = refl; no_length = refl; conflicts = refl; kinds = refl; crossed = refl; touched = refl; overlapped = refl; sames = refl; no_slot = refl; no_room = refl; unknown = refl; seven_calls = refl; seven_left = refl; run_only = refl }
