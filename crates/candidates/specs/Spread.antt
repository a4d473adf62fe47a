-- The candidates of the four sons: what a spread asks, and what it leaves.
use Rattle.std.specs.Prelude.{◌≡◌, Bool, true, ℕ, ◌+◌, ◌*◌, ◌-◌, ◌/◌, ◌≤◌, length, take}
use mathlib.Core.List.{List, Memᴰ}
use Rattle.std.proofs.Math.Seq.{slice}
use Rattle.algebra.specs.Words.{those}
use Rattle.definitions.specs.Shape.{Block, nw_of, ne_of, sw_of, se_of, meets}
use Rattle.definitions.specs.Tables.{line_at}
use Rattle.tables.specs.Rows.{OnMap}
use Rattle.candidates.specs.declared.Span.{Span}
use Rattle.geometry.specs.declared.Sons.{Sons}

unfoldable pub meets_at : List ℕ → Block → ℕ → Bool
meets_at lines k s = meets k (line_at lines s)

pub record Spreadable (lines slots : List ℕ) (c : Span) (k : Block) : Type 0 where
  pub on_map : (s : ℕ) → Memᴰ s (slice c.from c.to slots) → OnMap lines s
  pub met : (s : ℕ) → Memᴰ s (slice c.from c.to slots) → meets k (line_at lines s) ≡ true
  pub span : c.from ≤ c.to
  pub below : c.to ≤ c.free
  pub work : c.free + 4 * (c.to - c.from) ≤ length slots
  pub wide : k.west + k.side ≤ 32768
  pub tall : k.south + k.side ≤ 32768
  pub even : k.side ≡ 2 * (k.side / 2)

-- one son's span: above free, at most m long, and what it holds
pub record Son (free m : ℕ) (want slots : List ℕ) (c : Span) : Type 0 where
  pub span : c.from ≤ c.to
  pub few : c.to ≤ c.from + m
  pub below : c.to ≤ c.free
  pub next : c.free ≡ free + 4 * m
  pub holds : slice c.from c.to slots ≡ want

abbrev pub SonOf : List ℕ → Block → Span → List ℕ → List ℕ → Span → Type 0
SonOf lines k c slots slots' r = Son c.free (c.to - c.from) (those (meets_at lines k) (slice c.from c.to slots)) slots' r

pub record Spread (lines : List ℕ) (k : Block) (c : Span) (slots slots' : List ℕ) (r : Sons Span) : Type 0 where
  pub below : take c.free slots' ≡ take c.free slots
  pub nw : SonOf lines (nw_of k) c slots slots' r.nw
  pub ne : SonOf lines (ne_of k) c slots slots' r.ne
  pub sw : SonOf lines (sw_of k) c slots slots' r.sw
  pub se : SonOf lines (se_of k) c slots slots' r.se
