-- What the functions of the path ask, and what their answers say.
use Rattle.std.specs.Prelude.{◌≡◌, Bool, true, false, not, List, ℕ, Option, None, Some, suc, ◌+◌, ◌-◌, ◌*◌, ◌/◌, ◌≤◌, ◌<◌, ltb, length, get_or, slice_set}
use Rattle.definitions.specs.declared.Point.{Point}
use Rattle.definitions.specs.Shape.{Block, nw_of, ne_of, sw_of, se_of, north, whole_map}
use Rattle.geometry.specs.declared.Block as code
use Rattle.geometry.specs.Means.{block_of}
use Rattle.geometry.specs.Range.{End}
use Rattle.path.specs.declared.Fork.{Fork}
use Rattle.path.specs.declared.Spot.{Spot}
use Rattle.path.specs.declared.TheConstants.{NO_FORK}
use Rattle.path.specs.Placed.{Charted, Placed}

-- ---- The sons over a point

-- the half of a block over p, by its number and its two sons
pub data StripOver (p : Point) (k : Block) : ℕ → Block → Block → Type 0 where
  in_west : {a b : Block} → p.x.0 < k.west + k.side / 2 → a ≡ nw_of k → b ≡ sw_of k → StripOver p k 0 a b
  in_east : {a b : Block} → k.west + k.side / 2 ≤ p.x.0 → a ≡ ne_of k → b ≡ se_of k → StripOver p k 1 a b

-- the entry of the upper or the lower son over p
pub data SonEntry (entry : ℕ) : Bool → ℕ → Type 0 where
  of_upper : {son : ℕ} → son ≡ entry → SonEntry entry true son
  of_lower : {son : ℕ} → son ≡ entry + 2 → SonEntry entry false son

-- and its block
pub data SonIs (above below : Block) : Bool → Block → Type 0 where
  is_upper : {k : Block} → k ≡ above → SonIs above below true k
  is_lower : {k : Block} → k ≡ below → SonIs above below false k

-- ---- A step of the path

-- what going into a block reads is there, and so is what it writes, in a table of so many places
pub record Entered (index : List ℕ) (places : ℕ) (at : Spot) : Type 0 where
  pub entries : 4 * at.node + 4 ≤ length index
  pub room : at.by < places
  pub few_nodes : at.node < 16384
  pub east_in : at.block.west.0 + at.block.side < 65536
  pub north_in : at.block.south.0 + at.block.side < 65536

-- the block gone into is told by its upper son over p; that son is gone to if it reaches south of p, else the lower
pub record GoneIn (index : List ℕ) (p : Point) (at : Spot) (path path' : List Fork) (r : Spot) : Type 0 where
  pub which : ℕ
  pub above : code.Block
  pub below : Block
  pub strip : StripOver p (block_of at.block) which (block_of above) below
  pub room : at.by < length path
  pub put : path' ≡ slice_set path at.by (record { entry = 4 * at.node + which; above = above })
  pub son : ℕ
  pub entry : SonEntry (4 * at.node + which) (ltb above.south.0 p.y.0) son
  pub node_is : r.node ≡ get_or index son 0
  pub block_is : SonIs (block_of above) below (ltb above.south.0 p.y.0) (block_of r.block)
  pub by_is : r.by ≡ suc at.by

-- ---- The path

abbrev pub fork_at : List Fork → ℕ → Fork
fork_at path level = get_or path level NO_FORK

-- two sons of j over p, b south of a
pub record Stacked (j a b : Block) : Type 0 where
  pub same_west : b.west ≡ a.west
  pub same_side : b.side ≡ a.side
  pub top : north a ≡ north j
  pub seam : north b ≡ a.south
  pub bottom : b.south ≡ j.south

-- so many blocks were gone into, from the whole map on; the last of their sons is k
pub data PathTo (lines nodes listings index : List ℕ) (path : List Fork) (p : Point) : ℕ → Block → Type 0 where
  top : PathTo lines nodes listings index path p 0 whole_map
  step : {i : ℕ} {f : Fork} {j b k : Block} → fork_at path i ≡ f
      → (q : Placed lines nodes listings index p (get_or index f.entry 0) (block_of f.above)) → (r : Placed lines nodes listings index p (get_or index (f.entry + 2) 0) b)
      → (q.level ≤ 13) × (r.level ≤ 13) × (f.entry + 2 < length index) × (f.entry < 65536) → Stacked j (block_of f.above) b → SonIs (block_of f.above) b (ltb f.above.south.0 p.y.0) k
      → PathTo lines nodes listings index path p i j → PathTo lines nodes listings index path p (suc i) k

-- a block that holds p, at the end of a path
pub record Held (lines nodes listings index : List ℕ) (path : List Fork) (p : Point) (at : Spot) : Type 0 where
  pub placed : Placed lines nodes listings index p at.node (block_of at.block)
  pub few : placed.level + at.by ≤ 14
  pub path_to : PathTo lines nodes listings index path p at.by (block_of at.block)
  pub from_south : at.block.south.0 < p.y.0
  pub to_north : p.y.0 ≤ at.block.south.0 + at.block.side

-- the index is that of some map
pub record PathAsked (nodes index : List ℕ) (path : List Fork) (p : Point) : Type 0 where
  pub lines : List ℕ
  pub listings : List ℕ
  pub chart : Charted lines nodes listings index
  pub point : End p
  pub room : length path ≡ 16

-- so it is of any map with this index
pub record Holding (nodes index : List ℕ) (path : List Fork) (p : Point) (at : Spot) : Type 0 where
  pub held : {lines listings : List ℕ} → Charted lines nodes listings index → Held lines nodes listings index path p at

-- the leaf that holds p
pub record OwnIs (nodes index : List ℕ) (path : List Fork) (p : Point) (r : Spot) : Type 0 where
  pub holding : Holding nodes index path p r
  pub whole : get_or nodes r.node 0 ≡ 65535 → ⊥

-- ---- Beside the path

-- at this level the path went to the upper son
unfoldable pub went_up : List Fork → Point → ℕ → Bool
went_up path p level = ltb (fork_at path level).above.south.0 p.y.0

-- the levels that are left where a path is turned off at this one; none where it is nowhere
abbrev pub left_at : Option ℕ → ℕ
left_at None = 0
left_at (Some level) = suc level

-- the first level, from so many on up, whose other son lies on the way
pub record TurnedOff (path : List Fork) (p : Point) (south : Bool) (from : ℕ) (r : Option ℕ) : Type 0 where
  pub most : left_at r ≤ from
  pub passed : (i : ℕ) → left_at r ≤ i → i < from → went_up path p i ≡ not south
  pub found : (i : ℕ) → r ≡ Some i → went_up path p i ≡ south

-- what is read beside the path is there
pub record TurnsOff (index : List ℕ) (path : List Fork) (level : ℕ) : Type 0 where
  pub here : level < length path
  pub entries : (fork_at path level).entry + 2 < length index
  pub fits : (fork_at path level).entry < 65536
  pub deep : (fork_at path level).above.side ≤ (fork_at path level).above.south.0

-- the other son of a fork: the lower on the way south, the upper on the way north
pub data OtherSon (f : Fork) : Bool → Block → Type 0 where
  lower_one : {k : Block} → k ≡ record { west = f.above.west.0; south = f.above.south.0 - f.above.side; side = f.above.side } → OtherSon f true k
  upper_one : {k : Block} → k ≡ block_of f.above → OtherSon f false k

pub record Beside (index : List ℕ) (path : List Fork) (level : ℕ) (south : Bool) (r : Spot) : Type 0 where
  pub son : ℕ
  pub entry : SonEntry (fork_at path level).entry (not south) son
  pub node_is : r.node ≡ get_or index son 0
  pub block_is : OtherSon (fork_at path level) south (block_of r.block)
  pub by_is : r.by ≡ 0
