-- Numbers of our own for points with no line below: which line answers, and its label. Each side computes.
use mathlib.Core.Path.{◌≡◌, refl}
use mathlib.Core.List.{List, [], ◌∷◌, ◌++◌}
use Prim.Native.Nat.{ℕ}
use Rattle.algebra.specs.Words.{those, up_from}
use Rattle.definitions.specs.Shape.{grid_point, turn, left_of, right_of, inside, same_point, is_end, on, within}
use Rattle.definitions.specs.Tables.{slots_of, is_live, line_at, live_slots, live_lines}
use Rattle.definitions.specs.Lookup.{below, above, run, height_over, rise, higher, lower, foremost, upper_label, lower_label, Answering, on_line, from_below, from_above, no_line, answering, answer_of, answer_at, answer_to}

-- a live slot, and one that is not
abbrev row : ℕ → ℕ → ℕ → ℕ → ℕ → ℕ → List ℕ
row x1 y1 x2 y2 left right = 1 ∷ 1 ∷ x1 ∷ y1 ∷ x2 ∷ y2 ∷ left ∷ right ∷ []

abbrev empty : List ℕ
empty = 0 ∷ 1 ∷ 0 ∷ 0 ∷ 0 ∷ 0 ∷ 0 ∷ 0 ∷ []

-- what answers to the grid pair x, y, and its number
abbrev asked : List ℕ → ℕ → ℕ → Answering × ℕ
asked lines x y = (answering lines (grid_point x y), answer_to lines x y)

-- P10's line, over the whole sheet
abbrev ditch : List ℕ
ditch = row 0 8000 16383 8000 7 9

-- three lines above one another, the lowest drawn westward, and an upright one below them all
abbrev upon3 : List ℕ
upon3 = row 100 900 300 700 11 12 ++ row 400 500 0 400 13 14 ++ empty ++ row 0 600 400 600 15 16 ++ row 200 100 200 300 17 18

-- from one west end at (10, 50): level, rising, falling
abbrev level : List ℕ
level = row 10 50 90 50 1 2

abbrev rising : List ℕ
rising = row 10 50 90 70 3 4

abbrev falling : List ℕ
falling = row 90 20 10 50 5 6

-- the same at the east end
abbrev meeting : List ℕ
meeting = row 10 50 90 50 1 2 ++ row 10 20 90 50 3 4

pub record AboveCases : Type 0 where
  -- south of the only line: its lower label, also one step below it and at its west end
  pub south : asked ditch 5 7999 ∷ asked ditch 5 0 ∷ asked ditch 0 7999 ∷ asked ditch 16382 7999 ∷ [] ≡ (from_above 0, 9) ∷ (from_above 0, 9) ∷ (from_above 0, 9) ∷ (from_above 0, 9) ∷ []
  -- not at its east end; north of it and on it as ever
  pub east_end : asked ditch 16383 7999 ∷ asked ditch 16383 9000 ∷ asked ditch 16383 8000 ∷ asked ditch 0 8001 ∷ [] ≡ (no_line, 0) ∷ (no_line, 0) ∷ (on_line 0, 65536) ∷ (from_below 0, 7) ∷ []
  -- the lowest of three, whatever its slot; drawn westward its lower side is its left; a line below goes before
  pub lowest : asked upon3 150 0 ∷ asked upon3 399 499 ∷ asked upon3 399 500 ∷ asked upon3 150 438 ∷ asked upon3 150 437 ∷ [] ≡ (from_above 1, 13) ∷ (from_above 1, 13) ∷ (from_below 1, 14) ∷ (from_below 1, 14) ∷ (from_above 1, 13) ∷ []
  -- an upright line is never above; a point on it is on it
  pub upright : asked upon3 200 50 ∷ asked upon3 200 100 ∷ asked upon3 200 350 ∷ asked (row 200 100 200 300 17 18) 200 50 ∷ [] ≡ (from_above 1, 13) ∷ (on_line 4, 65540) ∷ (from_above 1, 13) ∷ (no_line, 0) ∷ []
  -- P11's mirror: at equal height the less steeply rising one, in each order of slots
  pub less_steep : asked (level ++ rising) 10 49 ∷ asked (rising ++ level) 10 49 ∷ asked (level ++ falling) 10 0 ∷ asked (falling ++ level) 10 0 ∷ asked (rising ++ falling) 10 9 ∷ asked (rising ++ level ++ falling) 10 9 ∷ [] ≡
      (from_above 0, 2) ∷ (from_above 1, 2) ∷ (from_above 1, 5) ∷ (from_above 0, 5) ∷ (from_above 1, 5) ∷ (from_above 2, 5) ∷ []
  -- P11 itself: at equal height below, the steeper
  pub steeper : asked (level ++ rising) 10 51 ∷ asked (rising ++ level) 10 51 ∷ asked (falling ++ level) 10 51 ∷ [] ≡ (from_below 1, 3) ∷ (from_below 0, 3) ∷ (from_below 1, 1) ∷ []
  -- at a common east end neither counts, one step west of it the lower does
  pub eastward : asked meeting 90 0 ∷ asked meeting 89 0 ∷ asked meeting 9 0 ∷ [] ≡ (no_line, 0) ∷ (from_above 1, 4) ∷ (no_line, 0) ∷ []
  -- a line below whose upper label is 0 answers: the line above is not asked
  pub label_zero : asked (row 0 10 40 10 0 5 ++ row 0 30 40 30 6 9) 20 20 ∷ asked (row 0 10 40 10 0 5 ++ row 0 30 40 30 6 9) 20 9 ∷ asked (row 0 30 40 30 6 0) 20 20 ∷ [] ≡ (from_below 0, 0) ∷ (from_above 0, 5) ∷ (from_above 0, 0) ∷ []
  -- nothing either way: no line, lines beside the point, a slot that is not live
  pub neither : asked [] 5 5 ∷ asked empty 0 0 ∷ asked (row 0 10 4 10 1 2 ++ row 6 10 9 10 3 4) 5 5 ∷ asked ditch 16384 0 ∷ [] ≡ (no_line, 0) ∷ (no_line, 0) ∷ (no_line, 0) ∷ (no_line, 4294967295) ∷ []

pub above_cases : AboveCases
unfolding those up_from turn left_of right_of inside same_point is_end on within slots_of is_live line_at live_slots live_lines below above run height_over rise higher lower foremost upper_label lower_label answering answer_of answer_at answer_to
above_cases = record { south = refl; east_end = refl; lowest = refl; upright = refl; less_steep = refl; steeper = refl; eastward = refl; label_zero = refl; neither = refl }
