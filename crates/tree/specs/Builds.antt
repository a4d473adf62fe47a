-- What a build asks, and what it leaves in the tables.
use Rattle.std.specs.Prelude.{◌≡◌, ◌⊎◌, ℕ, suc, ◌+◌, ◌*◌, ◌-◌, ◌^◌, ◌≤◌, ◌<◌, length, take, Option, Some, None}
use mathlib.Core.List.{List, ◌++◌, map, Memᴰ}
use Rattle.std.proofs.Math.Seq.{slice}
use Rattle.algebra.specs.Words.{over}
use Rattle.definitions.specs.Shape.{Block, nw_of, ne_of, sw_of, se_of}
use Rattle.definitions.specs.Tables.{line_at, live_slots, live_lines}
use Rattle.definitions.specs.Tree.{Tree, tree_by, tree, base_rule, nodes_of, listings_of}
use Rattle.tables.specs.declared.Place.{Place}
use Rattle.candidates.specs.declared.Span.{Span}
use Rattle.rule.specs.Rule.{Good, Candidates}

-- ---- what is built

-- the tree of a block at this level, of the lines of these slots
unfoldable pub tree_for : List ℕ → List ℕ → ℕ → Block → Tree
tree_for lines slots level k = tree_by base_rule (map (line_at lines) slots) level k.west k.south

unfoldable pub block_nodes : List ℕ → List ℕ → ℕ → Block → List ℕ
block_nodes lines slots level k = nodes_of (tree_for lines slots level k)

unfoldable pub block_listings : List ℕ → List ℕ → ℕ → Block → List ℕ
block_listings lines slots level k = listings_of (tree_for lines slots level k)

abbrev pub four : (Block → List ℕ) → Block → List ℕ
four f k = f (nw_of k) ++ f (ne_of k) ++ f (sw_of k) ++ f (se_of k)

unfoldable pub sons_nodes : List ℕ → List ℕ → ℕ → Block → List ℕ
sons_nodes lines slots level k = four (block_nodes lines slots level) k

unfoldable pub sons_listings : List ℕ → List ℕ → ℕ → Block → List ℕ
sons_listings lines slots level k = four (block_listings lines slots level) k

-- ---- both lists stand at their places, or there is no room for one of them

pub record Grew (ns ls : List ℕ) (at next : Place) (nodes listings nodes' listings' : List ℕ) : Type 0 where
  pub next_node : next.node ≡ at.node + length ns
  pub next_listing : next.listing ≡ at.listing + length ls
  pub nodes_fit : next.node ≤ length nodes
  pub listings_fit : next.listing ≤ length listings
  pub nodes_are : nodes' ≡ over at.node ns nodes
  pub listings_are : listings' ≡ over at.listing ls listings

abbrev pub Full : List ℕ → List ℕ → Place → List ℕ → List ℕ → Type 0
Full ns ls at nodes listings = (length nodes < at.node + length ns) ⊎ (length listings < at.listing + length ls)

abbrev pub BuiltIs : List ℕ → List ℕ → Place → List ℕ → List ℕ → List ℕ → List ℕ → Option Place → Type 0
BuiltIs ns ls at nodes listings nodes' listings' (Some p) = Grew ns ls at p nodes listings nodes' listings'
BuiltIs ns ls at nodes listings nodes' listings' None = Full ns ls at nodes listings

-- and the list of slots is as it was below free
pub record Grown (ns ls : List ℕ) (at : Place) (nodes listings nodes' listings' : List ℕ) (free : ℕ) (slots slots' : List ℕ) (r : Option Place) : Type 0 where
  pub built : BuiltIs ns ls at nodes listings nodes' listings' r
  pub below : take free slots' ≡ take free slots

-- ---- what the walk asks

-- a block of the tree: by its level, and on the map
pub record OfTree (k : Block) (level : ℕ) : Type 0 where
  pub side : k.side ≡ 2 ^ suc level
  pub east : k.west + k.side ≤ 32768
  pub north : k.south + k.side ≤ 32768

-- each level below takes the lists of four sons
pub record Ready (lines slots : List ℕ) (c : Span) (k : Block) (level : ℕ) (at : Place) (nodes listings : ℕ) : Type 0 where
  pub candidates : Candidates lines k (slice c.from c.to slots)
  pub span : c.from ≤ c.to
  pub below : c.to ≤ c.free
  pub few : c.to ≤ c.from + 1024
  pub work : c.free + 4 * ((c.to - c.from) * level) ≤ length slots
  pub of_tree : OfTree k level
  pub node : at.node ≤ nodes
  pub listing : at.listing ≤ listings

-- ---- the whole build

-- at most 1,024 slots, the live ones good
pub record GoodTable (lines : List ℕ) : Type 0 where
  pub short : length lines ≤ 8192
  pub good : (s : ℕ) → Memᴰ s (live_slots lines) → Good lines s

abbrev pub origin : Place
origin = record { node = 0; listing = 0 }

-- the two lists of the tree of the live lines stand at the start of the tables, or one of them is longer than its table
pub record TreeBuilt (lines nodes listings nodes' listings' : List ℕ) (r : Option Place) : Type 0 where
  pub built : BuiltIs (nodes_of (tree base_rule (live_lines lines))) (listings_of (tree base_rule (live_lines lines))) origin nodes listings nodes' listings' r
