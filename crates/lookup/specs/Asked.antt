-- What the functions of the lookup ask, and what their answers say. South (true) or north is the way from the point.
use Rattle.std.specs.Prelude.{◌≡◌, Option, None, Some, Bool, true, false, List, ℕ, get_or}
use Rattle.definitions.specs.declared.Point.{Point}
use Rattle.definitions.specs.Tables.{live_slots}
use Rattle.definitions.specs.Lookup.{answer_at}
use Rattle.geometry.specs.Range.{End}
use Rattle.meaning.specs.Found.{Found}
use Rattle.scan.specs.Asked.{OnWay, label_by, BestOn}
use Rattle.path.specs.declared.Fork.{Fork}
use Rattle.path.specs.declared.Spot.{Spot}
use Rattle.lookup.specs.declared.Map.{Map}
use Rattle.path.specs.Placed.{Charted}
use Rattle.path.specs.Asked.{Held}

-- a charted map, and its live slots
pub record Ready (map : Map) : Type 0 where
  pub chart : Charted map.lines.now map.nodes.now map.listings.now map.index.now
  pub all : map.live.now ≡ live_slots map.lines.now

-- ---- What is found on one way

-- it counts from some point
pub record Counting (lines : List ℕ) (d : Bool) (best : Found) : Type 0 where
  pub point : Point
  pub on_way : OnWay lines d point best

-- the label by which the line answers, if there is one
abbrev pub ToldBy : List ℕ → Bool → Found → Option ℕ → Type 0
ToldBy lines d None answer = answer ≡ None
ToldBy lines d (Some s) answer = answer ≡ Some (label_by lines d s)

-- a way is asked: south at once, north when nothing counts below
pub data Turn (lines : List ℕ) (p : Point) : Bool → Type 0 where
  at_once : Turn lines p true
  none_below : BestOn lines true p None → Turn lines p false

-- a line answers, or nothing goes through p or counts on the way
pub record FoundIs (lines : List ℕ) (d : Bool) (p : Point) (found : Option ℕ) : Type 0 where
  pub answers : {answer : ℕ} → found ≡ Some answer → Turn lines p d → answer ≡ answer_at lines p
  pub nothing : found ≡ None → BestOn lines d p None

-- ---- A walk

pub record WalkAsked (map : Map) (p : Point) (path : List Fork) (own : Spot) : Type 0 where
  pub ready : Ready map
  pub point : End p
  pub held : Held map.lines.now map.nodes.now map.listings.now map.index.now path p own
  pub whole : get_or map.nodes.now own.node 0 ≡ 65535 → ⊥

-- a way is asked from this leaf by a walk, or from none by a plain search
pub record AskedFrom (map : Map) (p : Point) (path : List Fork) (own : Option Spot) : Type 0 where
  pub ready : Ready map
  pub point : End p
  pub walk : {leaf : Spot} → own ≡ Some leaf → WalkAsked map p path leaf
