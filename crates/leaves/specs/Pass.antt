-- What the pass over the leaves tests, and what it asks of the tables.
use Rattle.std.specs.Prelude.{◌≡◌, Bool, true, false, not, ◌&&◌, ℕ, ◌≤◌, length}
use mathlib.Core.List.{List, [], ◌∷◌, Memᴰ}
use Rattle.algebra.specs.Words.{every}
use Rattle.definitions.specs.Shape.{Line, same_point, conflict}
use Rattle.definitions.specs.Tables.{line_at, live_lines, slot_sound, slots_of, node_table, listing_table}
use Rattle.definitions.specs.Tree.{Rule, tree, nodes_of}
use Rattle.tables.specs.Rows.{OnMap}

-- l conflicts with none of the slots' lines
unfoldable pub clear_of : List ℕ → Line → List ℕ → Bool
clear_of lines l slots = every (λ s. not (conflict l (line_at lines s))) slots

-- no two of the slots' lines conflict
unfoldable pub leaf_apart : List ℕ → List ℕ → Bool
leaf_apart lines [] = true
leaf_apart lines (s ∷ more) = clear_of lines (line_at lines s) more && leaf_apart lines more

-- the slot is in the table, its line on the grid, with distinct ends
pub record GoodSlot (lines : List ℕ) (s : ℕ) : Type 0 where
  pub on_map : OnMap lines s
  pub proper : same_point (line_at lines s).a (line_at lines s).b ≡ false

abbrev pub Good : List ℕ → List ℕ → Type 0
Good lines slots = (s : ℕ) → Memᴰ s slots → GoodSlot lines s

-- sound slots, and the node and listing tables of their lines, by whatever rule the blocks are divided;
-- so short that no leaf's count is 65,535, the mark of a divided block
pub record TreeTables (lines nodes listings : List ℕ) : Type 0 where
  pub rule : Rule
  pub slots : every (slot_sound lines) (slots_of lines) ≡ true
  pub nodes_are : nodes ≡ node_table rule (length nodes) lines
  pub listings_are : listings ≡ listing_table rule (length listings) lines
  pub short : length listings ≤ 16384

-- the tree takes the first `used` entries of the node table
pub record TreeUsed (lines nodes listings : List ℕ) (used : ℕ) : Type 0 where
  pub tables : TreeTables lines nodes listings
  pub count : used ≡ length (nodes_of (tree tables.rule (live_lines lines)))
