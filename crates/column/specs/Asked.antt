-- What the functions of the walk of a column ask, and what their answers say. South (true) or north is the way from the point.
use Rattle.std.specs.Prelude.{◌≡◌, ◌⊎◌, Bool, true, not, List, [], ℕ, suc, ◌+◌, ◌*◌, ◌≤◌, ◌<◌, length, get_or, slice_set}
use Rattle.algebra.specs.Words.{those}
use Rattle.definitions.specs.declared.Point.{Point}
use Rattle.definitions.specs.Shape.{Block, north, inside, on}
use Rattle.definitions.specs.Tree.{listed}
use Rattle.definitions.specs.Tables.{live_lines}
use Rattle.geometry.specs.declared.Block as code
use Rattle.geometry.specs.Means.{block_of}
use Rattle.geometry.specs.Range.{End}
use Rattle.meaning.specs.Found.{Found}
use Rattle.meaning.specs.Column.{near, far, Seen}
use Rattle.scan.specs.declared.Scan.{Scan}
use Rattle.scan.specs.Asked.{OnWay, ScanIs}
use Rattle.path.specs.declared.Spot.{Spot}
use Rattle.path.specs.Placed.{Placed}
use Rattle.path.specs.Asked.{StripOver, SonEntry, SonIs}
use Rattle.column.specs.declared.Later.{Later}
use Rattle.column.specs.declared.TheConstants.{NO_BLOCK}

-- ---- A leaf

-- a leaf over p, and c the best line of what was seen before it; it holds p, or no line goes through p
pub record AtLeaf (lines nodes listings index : List ℕ) (d : Bool) (p : Point) (at : Spot) (c : Found) : Type 0 where
  pub placed : Placed lines nodes listings index p at.node (block_of at.block)
  pub whole : get_or nodes at.node 0 ≡ 65535 → ⊥
  pub seen : Seen lines d p (near d (block_of at.block)) c
  pub here : (inside (block_of at.block) p ≡ true) ⊎ (those (on p) (live_lines lines) ≡ [])
  pub on_way : OnWay lines d p c
  pub point : End p

-- after it: c is the best line of what was seen as far as S
pub record Down (lines : List ℕ) (d : Bool) (p : Point) (S : ℕ) (c : Found) : Type 0 where
  pub seen : Seen lines d p S c
  pub none_on : those (on p) (live_lines lines) ≡ []
  pub on_way : OnWay lines d p c

pub record LeafAsked (lines nodes listings index : List ℕ) (p : Point) (node : ℕ) (c : Found) (d : Bool) : Type 0 where
  pub block : Block
  pub placed : Placed lines nodes listings index p node block
  pub whole : get_or nodes node 0 ≡ 65535 → ⊥
  pub on_way : OnWay lines d p c
  pub point : End p

-- what is told of the leaf's list
pub record LeafTold (lines nodes listings index : List ℕ) (p : Point) (node : ℕ) (c : Found) (d : Bool) (r : Scan) : Type 0 where
  pub told : {k : Block} → Placed lines nodes listings index p node k → ScanIs lines d p c (listed (live_lines lines) k) r

pub record Settling (lines : List ℕ) (p : Point) (k : Block) (best : Found) (d : Bool) : Type 0 where
  pub on_way : OnWay lines d p best
  pub point : End p
  pub north_in : north k ≤ 32768

-- ---- Where a walk stands

abbrev pub later_at : List Later → ℕ → Later
later_at later i = get_or later i NO_BLOCK

-- so many blocks are put by, each over p: the first begins at side S, each other where the one before it ends, and the last ends at side T
pub data PutBy (lines nodes listings index : List ℕ) (later : List Later) (d : Bool) (p : Point) : ℕ → ℕ → ℕ → Type 0 where
  ground : {S T : ℕ} → S ≡ T → PutBy lines nodes listings index later d p 0 S T
  next : {i S T : ℕ} {l : Later} → later_at later i ≡ l → (q : Placed lines nodes listings index p l.node (block_of l.block)) → q.level + i ≤ 14 → near d (block_of l.block) ≡ S →
      PutBy lines nodes listings index later d p i (far d (block_of l.block)) T → PutBy lines nodes listings index later d p (suc i) S T

-- a block over p with its node, and the blocks put by as far as T
pub record Column (lines nodes listings index : List ℕ) (later : List Later) (d : Bool) (p : Point) (at : Spot) (T : ℕ) : Type 0 where
  pub placed : Placed lines nodes listings index p at.node (block_of at.block)
  pub few : placed.level + at.by ≤ 14
  pub put_by : PutBy lines nodes listings index later d p at.by (far d (block_of at.block)) T

-- ---- A step of the walk

-- to the son that comes first on the way; the other is put by
pub record GoneOn (index : List ℕ) (p : Point) (at : Spot) (d : Bool) (later later' : List Later) (r : Spot) : Type 0 where
  pub which : ℕ
  pub above : Block
  pub below : Block
  pub strip : StripOver p (block_of at.block) which above below
  pub last : code.Block
  pub last_is : SonIs above below (not d) (block_of last)
  pub after : ℕ
  pub after_is : SonEntry (4 * at.node + which) (not d) after
  pub room : at.by < length later
  pub put : later' ≡ slice_set later at.by (record { node = get_or index after 0; block = last })
  pub son : ℕ
  pub entry : SonEntry (4 * at.node + which) d son
  pub node_is : r.node ≡ get_or index son 0
  pub block_is : SonIs above below d (block_of r.block)
  pub by_is : r.by ≡ suc at.by

-- a walk stands here, of some map
pub record Walking (nodes index : List ℕ) (later : List Later) (p : Point) (at : Spot) (d : Bool) : Type 0 where
  pub lines : List ℕ
  pub listings : List ℕ
  pub side : ℕ
  pub column : Column lines nodes listings index later d p at side
  pub room : length later ≡ 16

-- the walk of any map came from one spot to another, which begins at the same side
pub record Came (nodes index : List ℕ) (p : Point) (at : Spot) (d : Bool) (later later' : List Later) (r : Spot) : Type 0 where
  pub stands : {lines listings : List ℕ} {T : ℕ} → Column lines nodes listings index later d p at T → Column lines nodes listings index later' d p r T
  pub near_is : near d (block_of r.block) ≡ near d (block_of at.block)

-- and that is a leaf
pub record GoneDown (nodes index : List ℕ) (p : Point) (at : Spot) (d : Bool) (later later' : List Later) (r : Spot) : Type 0 where
  pub came : Came nodes index p at d later later' r
  pub whole : get_or nodes r.node 0 ≡ 65535 → ⊥

-- the spot put by in place i
pub record TakenUp (later : List Later) (i : ℕ) (r : Spot) : Type 0 where
  pub put : later_at later i ≡ record { node = r.node; block = r.block }
  pub by_is : r.by ≡ i
