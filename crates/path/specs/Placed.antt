-- The tree of a sound map in its tables: where the tree over a block stands, and that the block lies over a point.
use Rattle.std.specs.Prelude.{◌≡◌, refl, List, [], ◌++◌, ℕ, suc, ◌-◌, ◌*◌, ◌^◌, ◌≤◌, ◌<◌, length, replicate}
use Rattle.std.proofs.Common.{arith}
use Rattle.algebra.specs.Words.{padded}
use Rattle.definitions.specs.declared.Point.{Point}
use Rattle.definitions.specs.Shape.{Block, east, north, whole_map}
use Rattle.definitions.specs.Tree.{Rule, Tree, tree, tree_by, listings_of}
use Rattle.definitions.specs.Tables.{live_lines, listing_table}
use Rattle.meaning.specs.Sound.{Sound}
use Rattle.walk.specs.Index.{Standing, Indexed}
use Rattle.walk.specs.Placing.{there, map_standing}

-- a sound map whose lengths fit, by some rule of division
pub record Mapped (lines nodes listings : List ℕ) : Type 0 where
  pub rule : Rule
  pub sound : Sound rule (record { lines = lines; nodes = nodes; listings = listings })
  pub few_lines : length lines ≤ 8192
  pub few_nodes : length nodes ≤ 16384
  pub few_listings : length listings ≤ 16384

-- with the index of its tree
pub record Charted (lines nodes listings index : List ℕ) : Type 0 where
  pub map : Mapped lines nodes listings
  pub room : 4 * length nodes ≤ length index
  pub indexed : Indexed index (tree map.rule (live_lines lines)) 0 0

-- a part of a table, from f on
pub record Part (table : List ℕ) (f : ℕ) (part : List ℕ) : Type 0 where
  pub before : List ℕ
  pub after : List ℕ
  pub whole : table ≡ before ++ (part ++ after)
  pub first : length before ≡ f

-- a tree in the tables: its nodes from n on, its listings from f on
pub record Seat (nodes listings index : List ℕ) (t : Tree) (n f : ℕ) : Type 0 where
  pub standing : Standing nodes t n f
  pub indexed : Indexed index t n f
  pub listed_at : Part listings f (listings_of t)

-- the tree over block k stands in the tables at this node, and the block lies over p
pub record Placed (lines nodes listings index : List ℕ) (p : Point) (node : ℕ) (k : Block) : Type 0 where
  pub chart : Charted lines nodes listings index
  pub level : ℕ
  pub first : ℕ
  pub side_is : k.side ≡ 2 ^ suc level
  pub seat : Seat nodes listings index (tree_by chart.map.rule (live_lines lines) level k.west k.south) node first
  pub from_west : k.west ≤ p.x.0
  pub to_east : p.x.0 ≤ east k
  pub east_in : east k ≤ 32768
  pub north_in : north k ≤ 32768

-- ---- The whole map

pub placed_there : {lines nodes listings index : List ℕ} {p : Point} {node : ℕ} {k : Block} → Placed lines nodes listings index p node k → node < length nodes
placed_there h = there h.seat.standing

pub mapped_standing : {lines nodes listings : List ℕ} (m : Mapped lines nodes listings) → Standing nodes (tree m.rule (live_lines lines)) 0 0
mapped_standing {lines} {nodes} {listings} m = map_standing m.rule lines nodes listings m.few_lines m.few_listings m.sound.nodes m.sound.listings

pub map_placed : {lines nodes listings index : List ℕ} {p : Point} → Charted lines nodes listings index → p.x.0 ≤ 32767 → Placed lines nodes listings index p 0 whole_map
unfolding tree listing_table padded
map_placed {lines} {nodes} {listings} {index} {p} h x = record {
  chart = h;
  level = 14;
  first = 0;
  side_is = refl;
  seat = record {
    standing = mapped_standing h.map;
    indexed = h.indexed;
    listed_at = record { before = []; after = replicate (length listings - length (listings_of (tree h.map.rule (live_lines lines)))) 0; whole = h.map.sound.listings; first = refl };
  };
  from_west = omega arith;
  to_east = omega arith;
  east_in = omega arith;
  north_in = omega arith;
}

pub map_level : {lines nodes listings index : List ℕ} (p : Point) (h : Charted lines nodes listings index) (x : p.x.0 ≤ 32767) → (map_placed {p = p} h x).level ≡ 14
unfolding map_placed
map_level p h x = refl
