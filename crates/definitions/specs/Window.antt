-- What window answers: the slots of the live lines that meet a closed rectangle of grid numbers.
use Rattle.std.specs.Prelude.{Bool, not, ◌&&◌, List, ◌++◌, ℕ, length, drop, leb, ltb, if◌then◌else◌, Ok, Err}
use Rattle.algebra.specs.Words.{those}
use Rattle.definitions.specs.Answer.{Answer}
use Rattle.definitions.specs.declared.Refusal.TheVariants.{Lengths, Damaged, BadWindow, ListShort}
use Rattle.definitions.specs.declared.Window.{Window}
use Rattle.definitions.specs.Shape.{Area, half, meets_area}
use Rattle.definitions.specs.Tree.{Rule}
use Rattle.definitions.specs.Tables.{Tables, lengths_fit, is_live, slots_of, line_at, on_grid, sound}

-- every coordinate on the grid, and the rectangle not inverted; it may be a segment or one point
unfoldable pub window_fits : Window → Bool
window_fits w =
    on_grid w.west && on_grid w.south && on_grid w.east && on_grid w.north
    && leb w.west w.east && leb w.south w.north

-- the rectangle in half-steps
abbrev pub area_in : Window → Area
area_in w =
    record {
      west = (half (record { 0 = w.west })).0;
      south = (half (record { 0 = w.south })).0;
      east = (half (record { 0 = w.east })).0;
      north = (half (record { 0 = w.north })).0;
    }

-- the live slots whose line meets the rectangle, rising
unfoldable pub slots_in : List ℕ → Area → List ℕ
slots_in lines k = those (λ s. is_live lines s && meets_area k (line_at lines s)) (slots_of lines)

-- an answer, and the list of slots afterwards
pub record Windowed : Type 0 where
  pub answer : Answer
  pub slots : List ℕ

abbrev pub windowed : Answer → List ℕ → Windowed
windowed r slots = record { answer = r; slots = slots }

-- the slots at the front of a list that is long enough, and how many; later entries stay
unfoldable pub listed_in : List ℕ → List ℕ → Windowed
listed_in slots list =
    if ltb (length list) (length slots) then windowed (Err ListShort) list else
    windowed (Ok (length slots)) (slots ++ drop (length slots) list)

module _ (rule : Rule) where
  unfoldable pub window_of : Tables → Window → List ℕ → Windowed
  window_of t w list =
      if not (lengths_fit t) then windowed (Err Lengths) list else
      if not (sound rule t) then windowed (Err Damaged) list else
      if not (window_fits w) then windowed (Err BadWindow) list else
      listed_in (slots_in t.lines (area_in w)) list
