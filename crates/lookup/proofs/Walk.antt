-- The laws of a walk: where it stands at a leaf, and the leaf after it.
use Rattle.std.specs.Prelude.{Option, None, Some}
use mathlib.Core.Path.{◌≡◌, refl, sym, ap, ◌∙◌, subst}
use mathlib.Core.Bool.{Bool}
use mathlib.Core.List.{List}
use Prim.Native.Nat.{ℕ, suc, ◌≤◌}
use native.Mathlib.Omega.{arith}
use lib.ListN.{length}
use Rattle.definitions.specs.declared.Point.{Point}
use Rattle.definitions.specs.Shape.{whole_map}
use Rattle.geometry.specs.Means.{block_of}
use Rattle.geometry.specs.Range.{End}
use Rattle.meaning.specs.Found.{Found}
use Rattle.meaning.specs.Column.{near, far}
use Rattle.path.specs.declared.Fork.{Fork}
use Rattle.path.specs.declared.Spot.{Spot}
use Rattle.path.specs.Placed.{Placed}
use Rattle.path.specs.Asked.{left_at, TurnedOff, TurnsOff, Beside}
use Rattle.path.specs.Ways.{OnPath, turned_up, at_top, turned_off, turns_off}
use Rattle.column.specs.declared.Later.{Later}
use Rattle.column.specs.Asked.{AtLeaf, Down, ground, Column, Walking, GoneDown, TakenUp}
use Rattle.column.specs.Walks.{at_own, at_next, grounded, taken, aside_column}
use Rattle.lookup.specs.declared.Map.{Map}
use Rattle.lookup.specs.Asked.{WalkAsked}

-- at a block of the column, with the blocks put by; they go as far as a block of the path
pub record InColumn (map : Map) (path : List Fork) (later : List Later) (d : Bool) (p : Point) (at : Spot) (level : ℕ) : Type 0 where
  pub side : ℕ
  pub column : Column map.lines.now map.nodes.now map.listings.now map.index.now later d p at side
  pub on_path : OnPath map.lines.now map.nodes.now map.listings.now map.index.now path p d level side
  pub low : level ≤ 14

-- a block that begins at side S: from it the walk goes down to the next leaf
pub record Coming (map : Map) (path : List Fork) (later : List Later) (d : Bool) (p : Point) (S : ℕ) (at : Spot) (level : ℕ) : Type 0 where
  pub stands : InColumn map path later d p at level
  pub begins : near d (block_of at.block) ≡ S

-- at a leaf, with the best line of what was seen before it
pub record WalkAt (map : Map) (path : List Fork) (later : List Later) (d : Bool) (p : Point) (at : Spot) (level : ℕ) (best : Found) : Type 0 where
  pub leaf : AtLeaf map.lines.now map.nodes.now map.listings.now map.index.now d p at best
  pub stands : InColumn map path later d p at level

module _ {map : Map} {path : List Fork} {later : List Later} {d : Bool} {p : Point} where
  pub walk_start : {own at : Spot} → WalkAsked map p path own → at.node ≡ own.node → at.block ≡ own.block → at.by ≡ 0 → WalkAt map path later d p at own.by None
  walk_start {own} {at} h e f z = record {
    leaf = at_own h.held h.whole h.point e f;
    stands = record {
      side = far d (block_of own.block);
      column = record { placed = here.0; few = omega (arith, here.1, z); put_by = rw (z, f) (ground refl) };
      on_path = record { block = block_of own.block; path_to = h.held.path_to; far_is = refl };
      low = omega (arith, h.held.few);
    };
  }
    where
      here : (q : Placed map.lines.now map.nodes.now map.listings.now map.index.now p at.node (block_of at.block)) × (q.level ≤ 14)
      here = rw (e, f) (h.held.placed, omega (arith, h.held.few))

  module _ {at : Spot} {level : ℕ} (h : InColumn map path later d p at level) where
    -- the block put by last
    pub next_put : {j : ℕ} {r : Spot} → suc j ≡ at.by → TakenUp later j r → Coming map path later d p (far d (block_of at.block)) r level
    next_put e t = let n = taken h.column.put_by e t in record { stands = record { side = h.side; column = n.0; on_path = h.on_path; low = h.low }; begins = n.1 }

    module _ (z : at.by ≡ 0) {r : Option ℕ} (t : TurnedOff path p d level r) where
      up : OnPath map.lines.now map.nodes.now map.listings.now map.index.now path p d (left_at r) (far d (block_of at.block))
      up = let o = turned_up h.on_path.path_to t in record { block = o.block; path_to = o.path_to; far_is = o.far_is ∙ h.on_path.far_is ∙ sym (grounded h.column.put_by z) }

      -- nothing lies further on
      pub next_none : r ≡ None → far d (block_of at.block) ≡ far d whole_map
      next_none e = sym up.far_is ∙ ap (far d) (at_top up.path_to (ap left_at e))

      -- the block beside the path
      module _ {i : ℕ} (e : r ≡ Some i) where
        there : OnPath map.lines.now map.nodes.now map.listings.now map.index.now path p d (suc i) (far d (block_of at.block))
        there = subst (λ (n : ℕ). OnPath map.lines.now map.nodes.now map.listings.now map.index.now path p d n (far d (block_of at.block))) (ap left_at e) up

        pub next_read : length path ≡ 16 → TurnsOff map.index.now path i
        next_read l = turns_off there.path_to (omega (arith, h.low, t.most, ap left_at e)) l

        pub next_beside : {s : Spot} → Beside map.index.now path i d s → Coming map path later d p (far d (block_of at.block)) s i
        next_beside b =
            let a = turned_off there.path_to (t.found i e) b in
            record {
              stands = record { side = far d a.on_path.block; column = aside_column a b.by_is; on_path = record { block = a.on_path.block; path_to = a.on_path.path_to; far_is = refl }; low = omega (arith, h.low, t.most, ap left_at e) };
              begins = a.near_is ∙ there.far_is;
            }

  module _ {S level : ℕ} {r : Spot} (c : Coming map path later d p S r level) where
    pub coming_walks : length later ≡ 16 → Walking map.nodes.now map.index.now later p r d
    coming_walks l = record { lines = map.lines.now; listings = map.listings.now; side = c.stands.side; column = c.stands.column; room = l }

    -- down to the leaf
    pub walk_next : {later' : List Later} {s : Spot} {best : Found} → Down map.lines.now d p S best → GoneDown map.nodes.now map.index.now p r d later later' s → End p → WalkAt map path later' d p s level best
    walk_next h g e =
        let q = g.came.stands c.stands.column in
        record { leaf = at_next h q (g.came.near_is ∙ c.begins) g.whole e; stands = record { side = c.stands.side; column = q; on_path = c.stands.on_path; low = c.stands.low } }
