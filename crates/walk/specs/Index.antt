-- A tree in the node table, the index of the table, and what the walks over both ask and do.
use Rattle.std.specs.Prelude.{◌≡◌, List, ℕ, ◌+◌, ◌*◌, ◌≤◌, ◌<◌, length, get_or}
use Rattle.definitions.specs.declared.Point.{Point}
use Rattle.definitions.specs.Shape.{whole_map}
use Rattle.definitions.specs.Tree.{Tree, leaf, divided, nodes_of, listings_of}
use Rattle.definitions.specs.Lookup.{Leaf as LeafOfMap, leaf_at}
use Rattle.walk.specs.declared.Leaf.{Leaf}

-- the code's leaf as the definitions have it
abbrev pub leaf_of : Leaf → LeafOfMap
leaf_of f = record { place = record { west = f.west.0; south = f.south.0; side = f.side }; first = f.first; lists = f.count }

-- ---- The node table

-- the places after a tree whose nodes start at n, whose listings start at f
abbrev pub after_nodes : Tree → ℕ → ℕ
after_nodes t n = n + length (nodes_of t)

abbrev pub after_listings : Tree → ℕ → ℕ
after_listings t f = f + length (listings_of t)

-- where the sons of a divided block at n stand, and their listings: NW at n + 1 and f, and each other after the one before
abbrev pub ne_at : ℕ → Tree → ℕ
ne_at n nw = after_nodes nw (n + 1)

abbrev pub sw_at : ℕ → Tree → Tree → ℕ
sw_at n nw ne = after_nodes ne (ne_at n nw)

abbrev pub se_at : ℕ → Tree → Tree → Tree → ℕ
se_at n nw ne sw = after_nodes sw (sw_at n nw ne)

abbrev pub ne_first : ℕ → Tree → ℕ
ne_first f nw = after_listings nw f

abbrev pub sw_first : ℕ → Tree → Tree → ℕ
sw_first f nw ne = after_listings ne (ne_first f nw)

abbrev pub se_first : ℕ → Tree → Tree → Tree → ℕ
se_first f nw ne sw = after_listings sw (sw_first f nw ne)

-- every leaf lists fewer than 65,535, so that its entry does not read as that of a divided block
unfoldable pub Short : Tree → Type 0
Short (leaf slots) = length slots < 65535
Short (divided nw ne sw se) = Short nw × Short ne × Short sw × Short se

-- the nodes of the tree stand in the table from n on, and no leaf's entry reads as that of a divided block
pub data Stands (nodes : List ℕ) : Tree → ℕ → Type 0 where
  leaf_stands : {slots : List ℕ} {n : ℕ} → get_or nodes n 0 ≡ length slots → length slots < 65535 → Stands nodes (leaf slots) n
  sons_stand : {nw ne sw se : Tree} {n : ℕ} → get_or nodes n 0 ≡ 65535 →
      Stands nodes nw (n + 1) →
      Stands nodes ne (ne_at n nw) →
      Stands nodes sw (sw_at n nw ne) →
      Stands nodes se (se_at n nw ne sw) →
      Stands nodes (divided nw ne sw se) n

-- the tree stands at n, with its listings from f on, and ends within both tables
pub record Standing (nodes : List ℕ) (t : Tree) (n f : ℕ) : Type 0 where
  pub stands : Stands nodes t n
  pub nodes_fit : after_nodes t n ≤ length nodes
  pub listings_fit : after_listings t f ≤ 16384

-- ---- The index

-- the four entries of place n; in the index: the nodes of the sons NW, NE, SW and SE of node n
pub record Entries (table : List ℕ) (n a b c d : ℕ) : Type 0 where
  pub first : get_or table (4 * n) 0 ≡ a
  pub second : get_or table (4 * n + 1) 0 ≡ b
  pub third : get_or table (4 * n + 2) 0 ≡ c
  pub fourth : get_or table (4 * n + 3) 0 ≡ d

-- the index of the tree at n: the nodes of a divided block's sons, and where a leaf's listings start
pub data Indexed (index : List ℕ) : Tree → ℕ → ℕ → Type 0 where
  leaf_indexed : {slots : List ℕ} {n f : ℕ} → get_or index (4 * n) 0 ≡ f → Indexed index (leaf slots) n f
  sons_indexed : {nw ne sw se : Tree} {n f : ℕ} →
      Entries index n (n + 1) (ne_at n nw) (sw_at n nw ne) (se_at n nw ne sw) →
      Indexed index nw (n + 1) f →
      Indexed index ne (ne_at n nw) (ne_first f nw) →
      Indexed index sw (sw_at n nw ne) (sw_first f nw ne) →
      Indexed index se (se_at n nw ne sw) (se_first f nw ne sw) →
      Indexed index (divided nw ne sw se) n f

-- ---- What the walks ask and do

-- some tree stands at n and f, and the index has room for every node
pub record Walkable (nodes : List ℕ) (entries n f : ℕ) : Type 0 where
  pub tree : Tree
  pub standing : Standing nodes tree n f
  pub few : length nodes ≤ 16384
  pub room : 4 * length nodes ≤ entries

-- and that tree is a divided block
pub record Divided (nodes : List ℕ) (entries n f : ℕ) : Type 0 where
  pub walkable : Walkable nodes entries n f
  pub mark : get_or nodes n 0 ≡ 65535

-- the table s became s': the entries of place n are these, and all others as they were
pub record Put (n a b c d : ℕ) (s s' : List ℕ) : Type 0 where
  pub entries : Entries s' n a b c d
  pub below : (k : ℕ) → k < 4 * n → get_or s' k 0 ≡ get_or s k 0
  pub above : (k : ℕ) → 4 * n + 4 ≤ k → get_or s' k 0 ≡ get_or s k 0

-- the index s became s': the tree is indexed, the entries of earlier nodes are as they were, and the next places are those after the tree
pub record Filled (t : Tree) (n f n' f' : ℕ) (s s' : List ℕ) : Type 0 where
  pub next_node : n' ≡ after_nodes t n
  pub next_listing : f' ≡ after_listings t f
  pub below : (k : ℕ) → k < 4 * n → get_or s' k 0 ≡ get_or s k 0
  pub indexed : Indexed s' t n f

-- the son that holds p, of a block with this corner and sons of this side: its number and its corner
pub data SonOver (p : Point) (west south side : ℕ) : ℕ → ℕ → ℕ → Type 0 where
  in_nw : p.x.0 < west + side → south + side ≤ p.y.0 → SonOver p west south side 0 west (south + side)
  in_ne : west + side ≤ p.x.0 → south + side ≤ p.y.0 → SonOver p west south side 1 (west + side) (south + side)
  in_sw : p.x.0 < west + side → p.y.0 < south + side → SonOver p west south side 2 west south
  in_se : west + side ≤ p.x.0 → p.y.0 < south + side → SonOver p west south side 3 (west + side) south

-- some tree stands in the table, and the index is its index
pub record Searchable (nodes index : List ℕ) : Type 0 where
  pub walkable : Walkable nodes (length index) 0 0
  pub indexed : Indexed index walkable.tree 0 0

-- r is the leaf that holds p, and its listings lie among those of the tree
pub record LeafOver (p : Point) (t : Tree) (r : Leaf) : Type 0 where
  pub leaf_is : leaf_of r ≡ leaf_at p t whole_map 0
  pub within : r.first + r.count ≤ length (listings_of t)
