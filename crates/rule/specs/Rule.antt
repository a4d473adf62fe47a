-- What is asked of candidates, and the rule of division by an end.
use Rattle.std.specs.Prelude.{◌≡◌, Bool, true, false, not, ◌&&◌, ℕ, zero, suc}
use mathlib.Core.List.{List, Memᴰ}
use Rattle.definitions.specs.declared.Point.{Point}
use Rattle.definitions.specs.Shape.{Line, Block, meets, inside, same_point}
use Rattle.definitions.specs.Tables.{line_at}
use Rattle.tables.specs.Rows.{OnMap}

-- the slot is in the table, its line on the grid and of some length
pub record Good (lines : List ℕ) (s : ℕ) : Type 0 where
  pub on_map : OnMap lines s
  pub proper : same_point (line_at lines s).a (line_at lines s).b ≡ false

pub record Candidate (lines : List ℕ) (k : Block) (s : ℕ) : Type 0 where
  pub good : Good lines s
  pub met : meets k (line_at lines s) ≡ true

abbrev pub Candidates : List ℕ → Block → List ℕ → Type 0
Candidates lines k slots = (s : ℕ) → Memᴰ s slots → Candidate lines k s

-- ---- an end that all lines share

-- v is an end of the line, and the other end lies outside the block
unfoldable pub hangs : Block → Point → Line → Bool
hangs k v l = elim (same_point l.a v) [ true ↦ not (inside k l.b) | false ↦ same_point l.b v && not (inside k l.a) ]

unfoldable pub hangs_at : List ℕ → Block → Point → ℕ → Bool
hangs_at lines k v s = hangs k v (line_at lines s)

-- level 0 is never divided
abbrev pub left_whole : ℕ → Bool → Bool
left_whole zero simple = true
left_whole (suc n) simple = simple
