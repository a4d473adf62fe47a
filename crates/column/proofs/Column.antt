-- The laws of a column: to go on into a block keeps what a walk stands on.
use mathlib.Core.Path.{◌≡◌, refl, sym, ap, ◌∙◌, subst}
use mathlib.Core.Bool.{Bool, true, false, not}
use mathlib.Core.List.{List}
use Prim.Native.Nat.{ℕ, ◌+◌, ◌-◌, ◌*◌, ◌≤◌, ◌<◌}
use native.Mathlib.Omega.{arith}
use lib.ListN.{length, get_or, set, take, drop}
use Rattle.std.proofs.lemmas.List.{get_or-set_same, get_or-set_other}
use Rattle.definitions.specs.declared.Half.{Half}
use Rattle.definitions.specs.declared.Point.{Point}
use Rattle.definitions.specs.Shape.{Line, Block, north, turn}
use Rattle.definitions.specs.Tree.{listed}
use Rattle.definitions.specs.Tables.{live_lines}
use Rattle.definitions.specs.Lookup.{west_end, east_end}
use Rattle.geometry.specs.declared.Line as code
use Rattle.geometry.specs.Means.{block_of, line_of, point_by}
use Rattle.meaning.specs.Found.{Found}
use Rattle.std.specs.Prelude.{None, Some}
use Rattle.meaning.specs.Ahead.{beyond}
use Rattle.meaning.specs.Column.{near, far, listed→}
use Rattle.meaning.specs.Walk.{reached}
use Rattle.tables.specs.Rows.{IsLine, line_is}
use Rattle.scan.specs.declared.Scan.{Scan}
use Rattle.scan.specs.Asked.{Scannable, ScanIs}
use Rattle.scan.specs.Told.{live_on_map}
use Rattle.path.specs.declared.Spot.{Spot}
use Rattle.path.specs.Asked.{SonIs, is_upper, is_lower, Stacked}
use Rattle.path.specs.Seats.{leaf_cut, Halves, halves, Son, son_at}
use Rattle.column.specs.declared.Later.{Later}
use Rattle.column.specs.declared.TheConstants.{NO_BLOCK}
use Rattle.column.specs.Asked.{PutBy, ground, next, Column, GoneOn, Walking, Came, LeafAsked, LeafTold}

-- ---- What is put by is kept by a write after it

put_kept : {lines nodes listings index : List ℕ} {later : List Later} {d : Bool} {p : Point} {n i S T : ℕ} (l : Later) → PutBy lines nodes listings index later d p i S T → i ≤ n → PutBy lines nodes listings index (set later n l) d p i S T
put_kept l (ground e) h = ground e
put_kept {later = later} {n = n} l (next {i = i} e q f m r) h = next (get_or-set_other later n i l NO_BLOCK (λ x. absurd (omega arith)) ∙ e) q f m (put_kept l r (omega arith))

-- ---- Into a block

-- the first son on the way begins where the block does, the other where the first ends, and it ends where the block does
record Order (d : Bool) (j first last : Block) : Type 0 where
  begins : near d first ≡ near d j
  meets : near d last ≡ far d first
  ends : far d last ≡ far d j

order : (d : Bool) {j a b m n : Block} → Stacked j a b → SonIs a b d m → SonIs a b (not d) n → Order d j m n
order true t (is_upper e) (is_lower f) = record { begins = ap (near true) e ∙ t.top; meets = ap (near true) f ∙ t.seam ∙ sym (ap (far true) e); ends = ap (far true) f ∙ t.bottom }
order false t (is_lower e) (is_upper f) = record { begins = ap (near false) e ∙ t.bottom; meets = ap (near false) f ∙ sym t.seam ∙ sym (ap (far false) e); ends = ap (far false) f ∙ t.top }

module _ {lines nodes listings index : List ℕ} {later : List Later} {d : Bool} {p : Point} {at : Spot} {T : ℕ} (h : Column lines nodes listings index later d p at T) where
  module _ {later' : List Later} {r : Spot} (e : get_or nodes at.node 0 ≡ 65535) (g : GoneOn index p at d later later' r) where
    abbrev two : Halves h.placed g.which g.above g.below
    two = halves h.placed e g.strip

    abbrev first : Son lines nodes listings index p h.placed.level at.block.side r.node (block_of r.block)
    first = son_at two g.entry g.node_is g.block_is

    abbrev other : Son lines nodes listings index p h.placed.level at.block.side (get_or index g.after 0) (block_of g.last)
    other = son_at two g.after_is refl g.last_is

    abbrev way : Order d (block_of at.block) (block_of r.block) (block_of g.last)
    way = order d two.stacked g.block_is g.last_is

    pub into : Column lines nodes listings index later' d p r T
    into = record {
      placed = first.placed;
      few = omega (arith, first.level_is, h.few, g.by_is);
      put_by = rw (g.by_is, g.put) (next {T = T} (get_or-set_same later at.by _ NO_BLOCK g.room) other.placed (omega (arith, other.level_is, h.few)) way.meets (rw way.ends (put_kept _ h.put_by (omega arith))));
    }

    pub begins : near d (block_of r.block) ≡ near d (block_of at.block)
    begins = way.begins

    pub less : r.block.side < at.block.side
    less = first.less

-- ---- From spot to spot

module _ {nodes index : List ℕ} {d : Bool} {p : Point} where
  pub came_here : {later : List Later} {at : Spot} → Came nodes index p at d later later at
  came_here = record { stands = λ h. h; near_is = refl }

  pub came_on : {later₀ later later' : List Later} {at₀ at r : Spot} → Came nodes index p at₀ d later₀ later at → Walking nodes index later p at d → get_or nodes at.node 0 ≡ 65535 → GoneOn index p at d later later' r → Came nodes index p at₀ d later₀ later' r
  came_on c w e g = record { stands = λ h. into (c.stands h) e g; near_is = begins w.column e g ∙ c.near_is }

  pub walking_on : {later later' : List Later} {at r : Spot} (w : Walking nodes index later p at d) → length later' ≡ length later → get_or nodes at.node 0 ≡ 65535 → GoneOn index p at d later later' r → Walking nodes index later' p r d
  walking_on w l e g = record { lines = w.lines; listings = w.listings; side = w.side; column = into w.column e g; room = l ∙ w.room }

-- ---- A leaf's list

-- all of it can be scanned
pub leaf_scannable : {lines nodes listings index slots : List ℕ} {d : Bool} {p : Point} {node : ℕ} {c : Found} (h : LeafAsked lines nodes listings index p node c d) → slots ≡ listed (live_lines lines) h.block → Scannable lines slots d p c
leaf_scannable {lines} h e = record { point = h.point; on_map = λ s m. live_on_map lines s h.placed.chart.map.sound.slots (listed→ lines h.block s (rw e at m)).0; on_way = h.on_way }

-- and what is told of the part that is cut out is told of it
pub leaf_told : (lines nodes listings index : List ℕ) (d : Bool) (p : Point) (node from count : ℕ) (c : Found) {r : Scan} → (get_or nodes node 0 ≡ 65535 → ⊥) → from ≡ get_or index (4 * node) 0 → count ≡ get_or nodes node 0 →
    ScanIs lines d p c (take (from + count - from) (drop from listings)) r → LeafTold lines nodes listings index p node c d r
leaf_told lines nodes listings index d p node from count c {r} w e f h = record { told = λ {k} q. subst (λ (l : List ℕ). ScanIs lines d p c l r) {x = take (from + count - from) (drop from listings)} {y = listed (live_lines lines) k} (rw (e, f) (leaf_cut q w).list_is) h }

-- ---- How far the best line goes

pub far_most : (d : Bool) (k : Block) → north k ≤ 32768 → far d k ≤ 32768
far_most true k h = omega arith
far_most false k h = h

pub none_reached : (lines : List ℕ) (d : Bool) (p : Point) (S : ℕ) → false ≡ reached lines d p S None
unfolding reached
none_reached lines d p S = refl

-- the code's test is that of the definitions
pub reach_is : (lines : List ℕ) (d : Bool) (p : Point) (S : Half) {s T : ℕ} {l : code.Line} {r : Bool} → IsLine lines s l → S.0 ≡ T →
    r ≡ not (beyond d (turn (west_end (line_of l)) (east_end (line_of l)) (point_by p.x S))) → r ≡ reached lines d p T (Some s)
unfolding reached
reach_is lines d p S {s} i t e = e ∙ ap (λ (m : Line). not (beyond d (turn (west_end m) (east_end m) (point_by p.x S)))) (line_is i) ∙ ap (λ (T : ℕ). reached lines d p T (Some s)) t
