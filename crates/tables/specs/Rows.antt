-- The row of a slot by value, and its eight entries.
use Rattle.std.specs.Prelude.{◌≡◌, Bool, not, ◌&&◌, List, [], ◌∷◌, ℕ, ◌+◌, ◌*◌, ◌/◌, ◌≤◌, ◌<◌, ltb, length}
use Rattle.std.proofs.Math.Path.{ap}
use Rattle.std.proofs.Common.{ap₂, ◌∙◌}
use Rattle.std.proofs.Math.Dec.{eqb}
use Rattle.definitions.specs.declared.Given.{Given}
use Rattle.definitions.specs.Tables.{live, generation, x1, y1, x2, y2, left_label, right_label, is_live, live_sound, empty_sound, slot_sound, line_at}
use Rattle.definitions.specs.Lookup.{upper_label, lower_label}
use Rattle.definitions.specs.Calls.{with_slot, placed, freed}
use Rattle.geometry.specs.declared.Line as code
use Rattle.geometry.specs.Means.{line_of, line_from}
use Rattle.geometry.specs.Range.{LineEnds, grid_end}
use Rattle.tables.specs.declared.Row.{Row}

abbrev pub row_at : List ℕ → ℕ → Row
row_at lines s =
    record {
      live = live lines s;
      generation = generation lines s;
      x1 = x1 lines s;
      y1 = y1 lines s;
      x2 = x2 lines s;
      y2 = y2 lines s;
      left = left_label lines s;
      right = right_label lines s;
    }

-- the row's numbers, in the order of a slot's entries: a table of one slot
unfoldable pub entries_of : Row → List ℕ
entries_of r = r.live ∷ r.generation ∷ r.x1 ∷ r.y1 ∷ r.x2 ∷ r.y2 ∷ r.left ∷ r.right ∷ []

-- neither live nor retired
abbrev pub is_free : List ℕ → ℕ → Bool
is_free lines s = not (is_live lines s) && ltb (generation lines s) 65535

-- the row of a line given, and of a slot that is live no more
abbrev pub row_of : Given → ℕ → Row
row_of g n =
    record {
      live = 1;
      generation = n;
      x1 = g.x1;
      y1 = g.y1;
      x2 = g.x2;
      y2 = g.y2;
      left = g.left;
      right = g.right;
    }

abbrev pub emptied_row : Row → Row
emptied_row r =
    record {
      live = 0;
      generation = r.generation;
      x1 = 0;
      y1 = 0;
      x2 = 0;
      y2 = 0;
      left = 0;
      right = 0;
    }

-- ---- the row of a slot says what its slot says
module _ (lines : List ℕ) (s : ℕ) {r : Row} (e : r ≡ row_at lines s) where
  pub live_at : eqb r.live 1 ≡ is_live lines s
  unfolding is_live
  live_at = ap (λ (w : Row). eqb w.live 1) e

  pub free_at : is_free (entries_of r) 0 ≡ is_free lines s
  unfolding entries_of is_live
  free_at = ap (λ (w : Row). is_free (entries_of w) 0) e

  pub upper_label_at : upper_label (entries_of r) 0 ≡ upper_label lines s
  unfolding entries_of upper_label
  upper_label_at = ap (λ (w : Row). upper_label (entries_of w) 0) e

  pub lower_label_at : lower_label (entries_of r) 0 ≡ lower_label lines s
  unfolding entries_of lower_label
  lower_label_at = ap (λ (w : Row). lower_label (entries_of w) 0) e

  pub slot_sound_at : slot_sound (entries_of r) 0 ≡ slot_sound lines s
  unfolding entries_of slot_sound is_live live_sound empty_sound
  slot_sound_at = ap (λ (w : Row). slot_sound (entries_of w) 0) e

  -- ---- the rows that insert and delete put in its place
  pub placed_is : (g : Given) {w : Row} → w ≡ row_of g (r.generation + 1) → with_slot lines s (entries_of w) ≡ placed lines s g
  unfolding entries_of placed
  placed_is g f = ap (λ (z : Row). with_slot lines s (entries_of z)) (f ∙ ap (λ (z : Row). row_of g (z.generation + 1)) e)

  pub freed_is : {w : Row} → w ≡ emptied_row r → with_slot lines s (entries_of w) ≡ freed lines s
  unfolding entries_of freed
  freed_is f = ap (λ (z : Row). with_slot lines s (entries_of z)) (f ∙ ap emptied_row e)

-- ---- a test of rows, in code: it may be asked of the row of each slot, and what it answers there is what p says of the slot
abbrev pub Asked : (Row → Type 0) → List ℕ → Type 0
Asked may lines = (s : ℕ) (r : Row) → s < length lines / 8 → r ≡ row_at lines s → may r

abbrev pub Tells : (Row → Bool → Type 0) → List ℕ → (ℕ → Bool) → Type 0
Tells answers lines p = (s : ℕ) (r : Row) (b : Bool) → s < length lines / 8 → r ≡ row_at lines s → answers r b → b ≡ p s

-- the slot is in the table, and its line on the grid
pub record OnMap (lines : List ℕ) (s : ℕ) : Type 0 where
  pub there : 8 * s + 8 ≤ length lines
  pub grid_x1 : x1 lines s ≤ 16383
  pub grid_y1 : y1 lines s ≤ 16383
  pub grid_x2 : x2 lines s ≤ 16383
  pub grid_y2 : y2 lines s ≤ 16383

-- r has the ends of the line of slot s
pub record IsLine (lines : List ℕ) (s : ℕ) (r : code.Line) : Type 0 where
  pub a_is : r.a ≡ (line_at lines s).a
  pub b_is : r.b ≡ (line_at lines s).b

-- its ends are line ends
pub map_ends : {lines : List ℕ} {s : ℕ} → OnMap lines s → LineEnds (line_at lines s)
unfolding line_at
map_ends m = record { first = grid_end m.grid_x1 m.grid_y1; second = grid_end m.grid_x2 m.grid_y2 }

pub line_ends : {lines : List ℕ} {s : ℕ} {r : code.Line} → OnMap lines s → IsLine lines s r → LineEnds (line_of r)
line_ends m e = record { first = rw e.a_is (map_ends m).first; second = rw e.b_is (map_ends m).second }

-- the same as one equation, since no test reads a line's slot
pub line_is : {lines : List ℕ} {s : ℕ} {r : code.Line} → IsLine lines s r → line_of r ≡ line_from (line_at lines s).a (line_at lines s).b
line_is e = ap₂ line_from e.a_is e.b_is
