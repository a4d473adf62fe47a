-- What show leaf is told of the leaf asked for.
use Rattle.std.specs.Prelude.{◌≡◌, ℕ, ◌+◌, ◌≤◌, length, Result, Ok, Err}
use Rattle.definitions.specs.declared.Refusal.{Refusal}
use Rattle.definitions.specs.Tables.{Tables}
use Rattle.definitions.specs.Tree.{Rule}
use Rattle.definitions.specs.Lookup.{not_shown, shown_at, show_of}
use Rattle.walk.specs.declared.Leaf.{Leaf}
use Rattle.walk.specs.Index.{leaf_of}

-- a refusal, or the leaf that is shown
abbrev pub AskedIs : Rule → Tables → ℕ → ℕ → Result Leaf Refusal → Type 0
AskedIs rule t x y (Err r) = show_of rule t x y ≡ not_shown (Err r)
AskedIs rule t x y (Ok f) = (show_of rule t x y ≡ shown_at (leaf_of f) t.listings) × (f.first + f.count ≤ length t.listings)
