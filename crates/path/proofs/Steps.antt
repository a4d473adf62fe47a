-- The laws of the path: to go into a block that holds p keeps it.
use mathlib.Core.Path.{◌≡◌, refl, sym, ap, ◌∙◌}
use mathlib.Core.Bool.{Bool, true, false, not, beq}
use mathlib.Core.List.{List}
use Prim.Native.Nat.{ℕ, ◌+◌, ◌≤◌, ◌<◌}
use native.Mathlib.Omega.{arith}
use lib.Dec.{ltb}
use lib.ListN.{length, get_or, set}
use Rattle.std.proofs.lemmas.List.{get_or-set_same, get_or-set_other}
use borrow.Author.Tests.{ltb-true, ltb-false}
use Rattle.algebra.specs.Tests.{no_path}
use Rattle.definitions.specs.declared.Point.{Point}
use Rattle.definitions.specs.Shape.{Block, north, whole_map}
use Rattle.geometry.specs.Means.{block_of}
use Rattle.geometry.specs.Range.{End}
use Rattle.path.specs.declared.Fork.{Fork}
use Rattle.path.specs.declared.Spot.{Spot}
use Rattle.path.specs.declared.TheConstants.{NO_FORK}
use Rattle.path.specs.Placed.{Charted, Placed, placed_there, map_placed, map_level}
use Rattle.path.specs.Asked.{SonIs, is_upper, is_lower, Entered, GoneIn, PathTo, top, step, Held}
use Rattle.path.specs.Seats.{Halves, halves, above_ground, strip_few, Son, son_at, entered}

-- what the path has is kept by a write after it
path_kept : {lines nodes listings index : List ℕ} {path : List Fork} {p : Point} {n i : ℕ} {k : Block} (f : Fork) → PathTo lines nodes listings index path p i k → i ≤ n → PathTo lines nodes listings index (set path n f) p i k
path_kept f top h = top
path_kept {path = path} {n = n} f (step {i = i} e q r l t g u) h = step (get_or-set_other path n i f NO_FORK (λ x. absurd (omega arith)) ∙ e) q r l t g (path_kept f u (omega arith))

-- the block that a turn goes into is divided: the node that was read is its own
pub divided : (nodes : List ℕ) {read own : ℕ} → read ≡ own → get_or nodes read 0 ≡ 65535 → get_or nodes own 0 ≡ 65535
divided nodes e mark = ap (λ (n : ℕ). get_or nodes n 0) (sym e) ∙ mark

-- the whole map holds p
pub held_top : {lines nodes listings index : List ℕ} {path : List Fork} {p : Point} {r : Spot} → Charted lines nodes listings index → End p → r.node ≡ 0 → block_of r.block ≡ whole_map → r.by ≡ 0 → Held lines nodes listings index path p r
held_top {lines} {nodes} {listings} {index} {p = p} {r = r} h g n e b = record {
  placed = whole.0;
  few = omega (arith, whole.1, b);
  path_to = rw (b, e) top;
  from_south = omega (arith, g.from_south, ap (λ (k : Block). k.south) e);
  to_north = omega (arith, g.to_north, ap north e);
}
  where
    whole : (q : Placed lines nodes listings index p r.node (block_of r.block)) × (q.level ≡ 14)
    whole = rw (n, e) (map_placed h g.to_east, map_level p h g.to_east)

module _ {lines nodes listings index : List ℕ} {path : List Fork} {p : Point} {at : Spot} (h : Held lines nodes listings index path p at) where
  pub enters : get_or nodes at.node 0 ≡ 65535 → length path ≡ 16 → Entered index (length path) at
  enters e l = entered h.placed (omega (arith, h.few, above_ground h.placed e)) l

  module _ {path' : List Fork} {r : Spot} (e : get_or nodes at.node 0 ≡ 65535) (g : GoneIn index p at path path' r) where
    abbrev two : Halves h.placed g.which (block_of g.above) g.below
    two = halves h.placed e g.strip

    abbrev gone : Son lines nodes listings index p h.placed.level at.block.side r.node (block_of r.block)
    gone = son_at two g.entry g.node_is g.block_is

    -- it holds p
    holds : (up : Bool) → ltb g.above.south.0 p.y.0 ≡ up → SonIs (block_of g.above) g.below up (block_of r.block) → (r.block.south.0 < p.y.0) × (p.y.0 ≤ r.block.south.0 + r.block.side)
    holds true t (is_upper y) = (omega (arith, ltb-true g.above.south.0 p.y.0 t, ap (λ (k : Block). k.south) y), omega (arith, h.to_north, two.stacked.top, ap north y))
    holds false t (is_lower y) = (omega (arith, h.from_south, two.stacked.bottom, ap (λ (k : Block). k.south) y), omega (arith, ltb-false g.above.south.0 p.y.0 t, two.stacked.seam, ap north y))

    sides : (r.block.south.0 < p.y.0) × (p.y.0 ≤ r.block.south.0 + r.block.side)
    sides = holds (ltb g.above.south.0 p.y.0) refl g.block_is

    pub held_in : Held lines nodes listings index path' p r
    held_in = record {
      placed = gone.placed;
      few = omega (arith, gone.level_is, h.few, g.by_is);
      path_to = rw (g.by_is, g.put) (step (get_or-set_same path at.by _ NO_FORK g.room) two.upper two.lower
          (omega (arith, two.level.0, h.few), omega (arith, two.level.1, h.few), omega (arith, strip_few g.strip, placed_there h.placed, h.placed.chart.room), omega (arith, strip_few g.strip, placed_there h.placed, h.placed.chart.map.few_nodes))
          two.stacked g.block_is (path_kept _ h.path_to (omega arith)));
      from_south = sides.0;
      to_north = sides.1;
    }

    pub in_less : r.block.side < at.block.side
    in_less = gone.less

-- ---- Whether two tests agree

pub alike : (a b : Bool) → beq a b ≡ true → a ≡ b
alike true true e = refl
alike true false e = no_path e
alike false true e = no_path e
alike false false e = refl

pub unlike : (a b : Bool) → beq a b ≡ false → a ≡ not b
unlike true true e = no_path (sym e)
unlike true false e = refl
unlike false true e = refl
unlike false false e = no_path (sym e)
