-- What the functions of a scan ask, and what their answers say. South (true) or north is the way from the point.
use Rattle.std.specs.Prelude.{◌≡◌, Bool, true, false, ℕ}
use mathlib.Core.List.{List, [], Memᴰ}
use Rattle.algebra.specs.Words.{those, every}
use Rattle.definitions.specs.declared.Point.{Point}
use Rattle.definitions.specs.Shape.{on}
use Rattle.definitions.specs.Tables.{slots_of, slot_sound, line_at, live_slots, live_lines, none_conflict}
use Rattle.definitions.specs.Lookup.{upper_label, lower_label, on_line, answering}
use Rattle.geometry.specs.declared.Line as code
use Rattle.geometry.specs.Range.{End}
use Rattle.meaning.specs.Found.{Found}
use Rattle.std.specs.Prelude.{None, Some}
use Rattle.meaning.specs.Ahead.{counts, ahead_by_turns}
use Rattle.meaning.specs.Best.{better, scan}
use Rattle.meaning.specs.Column.{BestOf}
use Rattle.meaning.specs.Locate.{first_on}
use Rattle.tables.specs.Rows.{OnMap, IsLine}
use Rattle.scan.specs.declared.Scan.{Scan}
use Rattle.scan.specs.declared.Scan.TheVariants.{On, Best}

-- ---- A scan of slots

-- no line, or one in the table that counts on the way from p
pub data OnWay (lines : List ℕ) (d : Bool) (p : Point) : Found → Type 0 where
  none : OnWay lines d p None
  one : {s : ℕ} → OnMap lines s → counts d p (line_at lines s) ≡ true → OnWay lines d p (Some s)

-- both lines count from one point, and l is the second
pub record Compared (lines : List ℕ) (d : Bool) (best : Found) (s : ℕ) (l : code.Line) : Type 0 where
  pub point : Point
  pub first : OnWay lines d point best
  pub second : OnWay lines d point (Some s)
  pub is_line : IsLine lines s l

-- of lines that count, the one that comes first
abbrev pub first_of : List ℕ → Bool → Found → ℕ → Found
first_of lines d best s = better lines (λ l. true) (ahead_by_turns d) best s

pub record Scannable (lines slots : List ℕ) (d : Bool) (p : Point) (c : Found) : Type 0 where
  pub point : End p
  pub on_map : (s : ℕ) → Memᴰ s slots → OnMap lines s
  pub on_way : OnWay lines d p c

-- no line goes through p, and e is the best line of c and the slots
pub record NoneOn (lines : List ℕ) (d : Bool) (p : Point) (c : Found) (slots : List ℕ) (e : Found) : Type 0 where
  pub none_on : first_on lines p slots ≡ None
  pub best : e ≡ scan lines (counts d p) (ahead_by_turns d) c slots
  pub on_way : OnWay lines d p e

abbrev pub ScanIs : List ℕ → Bool → Point → Found → List ℕ → Scan → Type 0
ScanIs lines d p c slots (On s) = first_on lines p slots ≡ Some s
ScanIs lines d p c slots (Best e) = NoneOn lines d p c slots e

-- the label by which a line answers: the upper of one below the point, the lower of one above
abbrev pub label_by : List ℕ → Bool → ℕ → ℕ
label_by lines true s = upper_label lines s
label_by lines false s = lower_label lines s

-- ---- A plain search

-- the slots are sound, no two lines conflict, and live has the live slots
pub record Plain (lines live : List ℕ) : Type 0 where
  pub slots : every (slot_sound lines) (slots_of lines) ≡ true
  pub apart : none_conflict lines ≡ true
  pub all : live ≡ live_slots lines

-- no line goes through p, and c is the best of all live lines
pub record BestOn (lines : List ℕ) (d : Bool) (p : Point) (c : Found) : Type 0 where
  pub none_on : those (on p) (live_lines lines) ≡ []
  pub best : BestOf lines d p c
  pub on_way : OnWay lines d p c

abbrev pub SearchIs : List ℕ → Bool → Point → Scan → Type 0
SearchIs lines d p (On s) = on_line s ≡ answering lines p
SearchIs lines d p (Best c) = BestOn lines d p c
