-- Numbers on both sides: the paper's cases P1 to P11, of the definitions, as one statement. Each side computes.
use Rattle.std.specs.Prelude.{Ok}
use mathlib.Core.Path.{◌≡◌, refl}
use mathlib.Core.Bool.{true}
use mathlib.Core.List.{List, [], ◌∷◌}
use Prim.Native.Nat.{ℕ, ◌+◌, ◌*◌}
use lib.ListN.{replicate}
use Rattle.algebra.specs.Words.{those, every, up_from, same_list, padded}
use Rattle.definitions.specs.Shape.{turn, left_of, right_of, corners, meets_area, meets, inside, same_point, is_end, on, within, parts, conflict, in_line_of, kind_of}
use Rattle.definitions.specs.Tree.{base_rule, tree_by, ends_of, simple_with, simple, listed, tree, nodes_of, listings_of}
use Rattle.definitions.specs.Tables.{Tables, lengths_fit, slots_of, is_live, line_at, live_slots, live_lines, live_sound, empty_sound, slot_sound, none_conflict, node_table, listing_table, sound}
use Rattle.definitions.specs.Calls.{reply, rebuilt, with_slot, cleared, start_of, given_line, all_on_grid, no_length, conflicting, conflict_detail, free_slots, placed, room_for, insert_of, known, freed, delete_of}
use Rattle.definitions.specs.Lookup.{below, above, run, height_over, rise, higher, lower, foremost, upper_label, lower_label, answering, answer_of, answer_at, answer_to, answers_to, locate_of, leaf_at, leaf_over, show_of}
use Rattle.definitions.specs.History.{Call, insert, delete, reply_to, after_all, numbers}

abbrev pub zeros : ℕ → List ℕ
zeros n = replicate n 0

-- a fresh map of s slots, with node and listing tables of these lengths
abbrev pub fresh : ℕ → ℕ → ℕ → Tables
fresh s nodes listings = record { lines = zeros (8 * s); nodes = zeros nodes; listings = zeros listings }

-- "S = 4, node and listing tables 16,384 long, unless said"
abbrev pub large : ℕ → Tables
large s = fresh s 16384 16384

abbrev pub labelled : ℕ → ℕ → ℕ → ℕ → ℕ → ℕ → Call
labelled x1 y1 x2 y2 left right = insert (record { x1 = x1; y1 = y1; x2 = x2; y2 = y2; left = left; right = right })

abbrev pub line : ℕ → ℕ → ℕ → ℕ → Call
line x1 y1 x2 y2 = labelled x1 y1 x2 y2 0 0

abbrev pub refusal : ℕ → ℕ → ℕ
refusal n detail = n * 4294967296 + detail

-- one slot, live at generation 65535
abbrev pub worn_lines : List ℕ
worn_lines = 1 ∷ 65535 ∷ 0 ∷ 0 ∷ 10 ∷ 0 ∷ 0 ∷ 0 ∷ []

abbrev pub worn : Tables
worn = record { lines = worn_lines; nodes = node_table base_rule 16384 worn_lines; listings = listing_table base_rule 16384 worn_lines }

pub record PaperCases : Type 0 where
  pub P1 : (sound base_rule (fresh 4 1 16384) ≡ true) × (node_table base_rule 1 (zeros 32) ≡ 0 ∷ [])
  pub P2 : reply_to base_rule (large 4) (line 0 0 16383 16383) ≡ reply (Ok 1) (record { lines = 1 ∷ 1 ∷ 0 ∷ 0 ∷ 16383 ∷ 16383 ∷ 0 ∷ 0 ∷ zeros 24; nodes = padded 16384 (65535 ∷ 1 ∷ 1 ∷ 1 ∷ 1 ∷ []); listings = padded 16384 (0 ∷ 0 ∷ 0 ∷ 0 ∷ []) })
  pub P3 : reply_to base_rule (large 4) (line 0 0 16383 0) ≡ reply (Ok 1) (record { lines = 1 ∷ 1 ∷ 0 ∷ 0 ∷ 16383 ∷ 0 ∷ 0 ∷ 0 ∷ zeros 24; nodes = padded 16384 (65535 ∷ 0 ∷ 0 ∷ 1 ∷ 1 ∷ []); listings = padded 16384 (0 ∷ 0 ∷ []) })
  pub P4 : numbers base_rule (fresh 4 57 2) (line 0 0 0 1 ∷ []) ≡ 1 ∷ []
  pub P5 : (numbers base_rule (fresh 4 56 2) (line 0 0 0 1 ∷ []) ≡ refusal 7 0 ∷ []) × (numbers base_rule (fresh 4 57 1) (line 0 0 0 1 ∷ []) ≡ refusal 7 0 ∷ [])
  pub P6 : numbers base_rule (large 4) (line 0 0 10 0 ∷ line 5 0 5 5 ∷ line 10 0 0 0 ∷ []) ≡ 1 ∷ refusal 5 131072 ∷ refusal 5 262144 ∷ []
  pub P7 : (numbers base_rule (large 4) (line 0 0 10 0 ∷ line 10 0 10 5 ∷ []) ≡ 1 ∷ 65537 ∷ []) × (numbers base_rule (large 4) (line 0 0 10 0 ∷ line 10 0 20 0 ∷ []) ≡ 1 ∷ 65537 ∷ [])
  pub P8 : numbers base_rule (large 1) (line 0 0 10 0 ∷ delete 1 ∷ line 0 0 10 0 ∷ delete 1 ∷ []) ≡ 1 ∷ 0 ∷ 2 ∷ refusal 8 0 ∷ []
  pub P9 : (sound base_rule worn ≡ true) × (numbers base_rule worn (delete 65535 ∷ line 0 0 10 0 ∷ []) ≡ 0 ∷ refusal 6 0 ∷ [])
  pub P10 : locate_of base_rule (after_all base_rule (large 4) (labelled 0 8000 16383 8000 7 9 ∷ [])) (5 ∷ 9000 ∷ 5 ∷ 8000 ∷ 5 ∷ 7999 ∷ 16384 ∷ 0 ∷ 16383 ∷ 9000 ∷ []) (zeros 5) ≡ record { answer = Ok 0; answers = 7 ∷ 65536 ∷ 9 ∷ 4294967295 ∷ 0 ∷ [] }
  pub P11 : locate_of base_rule (after_all base_rule (large 4) (labelled 0 0 10 0 1 0 ∷ labelled 0 0 10 10 2 0 ∷ [])) (0 ∷ 5 ∷ []) (zeros 1) ≡ record { answer = Ok 0; answers = 2 ∷ [] }

pub paper_cases : PaperCases
unfolding those every up_from same_list turn left_of right_of corners meets_area meets inside same_point is_end on within parts conflict in_line_of kind_of ends_of simple_with simple listed tree nodes_of listings_of padded lengths_fit slots_of is_live line_at live_slots live_lines live_sound empty_sound slot_sound none_conflict node_table listing_table sound rebuilt with_slot cleared start_of given_line all_on_grid no_length conflicting conflict_detail free_slots placed room_for insert_of known freed delete_of below above run height_over rise higher lower foremost upper_label lower_label answering answer_of answer_at answer_to answers_to locate_of leaf_at leaf_over show_of reply_to after_all numbers base_rule tree_by
paper_cases =
    record { P1 = (refl, refl); P2 = refl; P3 = refl; P4 = refl; P5 = (refl, refl); P6 = refl; P7 = (refl, refl); P8 = refl; P9 = (refl, refl); P10 = refl; P11 = refl }

-- "Run only"
pub run_only : show_of base_rule (after_all base_rule (large 4) (line 0 0 8 8 ∷ line 0 0 8 7 ∷ line 4 7 5 7 ∷ delete 131073 ∷ [])) 0 0 ≡ record { told = record { answer = Ok 0; side = 16; west = record { 0 = 0 }; south = record { 0 = 0 } }; first = 2; part = 0 ∷ 1 ∷ [] }
unfolding those every up_from same_list turn left_of right_of corners meets_area meets inside same_point is_end on within parts conflict in_line_of kind_of ends_of simple_with simple listed tree nodes_of listings_of padded lengths_fit slots_of is_live line_at live_slots live_lines live_sound empty_sound slot_sound none_conflict node_table listing_table sound rebuilt with_slot cleared start_of given_line all_on_grid no_length conflicting conflict_detail free_slots placed room_for insert_of known freed delete_of below above run height_over rise higher lower foremost upper_label lower_label answering answer_of answer_at answer_to answers_to locate_of leaf_at leaf_over show_of reply_to after_all numbers base_rule tree_by
run_only = refl
