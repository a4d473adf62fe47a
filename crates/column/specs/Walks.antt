-- For callers: a walk begins at the leaf that holds the point, each leaf adds to what is seen, the next block begins where that ends, and the
-- last ends at the map's own side.
use Rattle.std.specs.Prelude.{◌≡◌, ◌⊎◌, Bool, true, List, [], ℕ, suc, ◌+◌, ◌≤◌, ltb, get_or, if◌then◌else◌}
use Rattle.std.proofs.Common.{sym, ap, ◌∙◌, subst, inl, inr, arith, le-leb}
use Rattle.std.proofs.Math.Bool.{false}
use Rattle.algebra.specs.Words.{those, every}
use Rattle.algebra.specs.Tests.{both←}
use Rattle.definitions.specs.declared.Point.{Point}
use Rattle.definitions.specs.Shape.{Block, inside, on, whole_map}
use Rattle.definitions.specs.Tree.{listed}
use Rattle.definitions.specs.Tables.{slots_of, slot_sound, line_at, live_lines}
use Rattle.definitions.specs.Lookup.{on_line, answering}
use Rattle.geometry.specs.Means.{block_of}
use Rattle.geometry.specs.Range.{End}
use Rattle.meaning.specs.Found.{Found}
use Rattle.std.specs.Prelude.{None, Some}
use Rattle.meaning.specs.Answering.{through_is, none_through}
use Rattle.meaning.specs.Column.{near, far, Seen, BestOf, SouthOf, listed→, seen_start, seen_foot, seen_head}
use Rattle.meaning.specs.Walk.{reached, reached_best, leaf_seen}
use Rattle.meaning.specs.Locate.{first_on, own_first, first→, answer_first, none_first}
use Rattle.tables.specs.Rows.{OnMap}
use Rattle.scan.specs.declared.Scan.{Scan}
use Rattle.scan.specs.declared.Scan.TheVariants as Scanned
use Rattle.scan.specs.Asked.{none, NoneOn, ScanIs, BestOn}
use Rattle.scan.specs.Told.{live_on_map}
use Rattle.path.specs.declared.Fork.{Fork}
use Rattle.path.specs.declared.Spot.{Spot}
use Rattle.path.specs.Placed.{Placed}
use Rattle.path.specs.Asked.{Held}
use Rattle.path.specs.Ways.{Aside}
use Rattle.column.specs.declared.Later.{Later}
use Rattle.column.specs.Asked.{AtLeaf, Down, LeafTold, later_at, PutBy, ground, next, Column, TakenUp}

-- ---- A leaf

module _ {lines nodes listings index : List ℕ} {d : Bool} {p : Point} {at : Spot} {c : Found} (h : AtLeaf lines nodes listings index d p at c) where
  abbrev k : Block
  k = block_of at.block

  abbrev list : List ℕ
  list = listed (live_lines lines) k

  -- a line through p
  pub leaf_on : {s : ℕ} {r : Scan} → LeafTold lines nodes listings index p at.node c d r → r ≡ Scanned.On s → on_line s ≡ answering lines p
  leaf_on {s} t f = go h.here
    where
      e : first_on lines p list ≡ Some s
      e = subst (λ (x : Scan). ScanIs lines d p c list x) f (t.told h.placed)

      go : (inside k p ≡ true) ⊎ (those (on p) (live_lines lines) ≡ []) → on_line s ≡ answering lines p
      go (inl i) = answer_first lines p (sym (own_first lines p k i) ∙ e)
      go (inr i) = let f = first→ lines p list e in absurd (none_through lines p i s (listed→ lines k s f.0).0 ((through_is p (line_at lines s)).0 f.1))

  -- none: the best line as far as the leaf's other side
  pub leaf_down : {e : Found} {r : Scan} → LeafTold lines nodes listings index p at.node c d r → r ≡ Scanned.Best e → Down lines d p (far d k) e
  leaf_down {e} t f = record {
    seen = subst (λ (x : Found). Seen lines d p (far d k) x) (sym n.best) (leaf_seen lines d p h.placed.chart.map.sound.apart k c h.placed.from_west h.placed.to_east h.seen);
    none_on = go h.here;
    on_way = n.on_way;
  }
    where
      n : NoneOn lines d p c list e
      n = subst (λ (x : Scan). ScanIs lines d p c list x) f (t.told h.placed)

      go : (inside k p ≡ true) ⊎ (those (on p) (live_lines lines) ≡ []) → those (on p) (live_lines lines) ≡ []
      go (inl i) = none_first lines p (sym (own_first lines p k i) ∙ n.none_on)
      go (inr i) = i

-- ---- The end of a walk

module _ {lines : List ℕ} {d : Bool} {p : Point} {S : ℕ} {c : Found} (h : Down lines d p S c) where
  -- the best line is reached: nothing further on comes before it
  pub down_reached : reached lines d p S c ≡ true → BestOn lines d p c
  down_reached e = record { none_on = h.none_on; best = reached_best lines d p S c e h.seen; on_way = h.on_way }

  -- after the last leaf
  pub down_end : every (slot_sound lines) (slots_of lines) ≡ true → S ≡ far d whole_map → BestOn lines d p c
  down_end sound e = record { none_on = h.none_on; best = all d (rw e at h.seen); on_way = h.on_way }
    where
      on_map : SouthOf lines 32768
      on_map u v = go (ltb (line_at lines u).a.x.0 (line_at lines u).b.x.0)
        where
          m : OnMap lines u
          m = live_on_map lines u sound v

          go : (b : Bool) → ((if b then (line_at lines u).a else (line_at lines u).b).y.0 ≤ 32768) × ((if b then (line_at lines u).b else (line_at lines u).a).y.0 ≤ 32768)
          go true = unfold line_at in (omega (arith, m.grid_y1), omega (arith, m.grid_y2))
          go false = unfold line_at in (omega (arith, m.grid_y2), omega (arith, m.grid_y1))

      all : (d : Bool) → Seen lines d p (far d whole_map) c → BestOf lines d p c
      all true t = seen_foot lines p c t
      all false t = seen_head lines p 32768 c on_map t

-- ---- Where the walk stands

module _ {lines nodes listings index : List ℕ} {d : Bool} {p : Point} where
  -- the leaf that holds p
  pub at_own : {path : List Fork} {own at : Spot} → Held lines nodes listings index path p own → (get_or nodes own.node 0 ≡ 65535 → ⊥) → End p → at.node ≡ own.node → at.block ≡ own.block → AtLeaf lines nodes listings index d p at None
  at_own {own = own} {at = at} h w g e f = record { placed = rw (e, f) h.placed; whole = rw e w; seen = rw f (start d); here = inl (rw f holds); on_way = none; point = g }
    where
      start : (d : Bool) → Seen lines d p (near d (block_of own.block)) None
      start true = seen_start lines p true _ h.to_north
      start false = seen_start lines p false _ (omega (arith, h.from_south))

      holds : inside (block_of own.block) p ≡ true
      holds = unfold inside in (both← (both← (le-leb _ _ h.placed.from_west) (le-leb _ _ h.placed.to_east)) (both← (le-leb own.block.south.0 p.y.0 (omega (arith, h.from_south))) (le-leb _ _ h.to_north)))

  -- another leaf, that begins where what was seen ends
  pub at_next : {later : List Later} {S T : ℕ} {r : Spot} {c : Found} → Down lines d p S c → Column lines nodes listings index later d p r T → near d (block_of r.block) ≡ S → (get_or nodes r.node 0 ≡ 65535 → ⊥) → End p → AtLeaf lines nodes listings index d p r c
  at_next {S = S} {r = r} {c = c} h q e w g = record { placed = q.placed; whole = w; seen = subst (λ (n : ℕ). Seen lines d p n c) (sym e) h.seen; here = inr h.none_on; on_way = h.on_way; point = g }

-- ---- The block put by last

module _ {lines nodes listings index : List ℕ} {later : List Later} {d : Bool} {p : Point} where
  -- with none put by, the walk has come to the last side
  pub grounded : {i S T : ℕ} → PutBy lines nodes listings index later d p i S T → i ≡ 0 → S ≡ T
  grounded (ground e) f = e
  grounded (next x q f n u) e = absurd (omega arith)

  pub taken : {i j S T : ℕ} {r : Spot} → PutBy lines nodes listings index later d p i S T → suc j ≡ i → TakenUp later j r → Column lines nodes listings index later d p r T × (near d (block_of r.block) ≡ S)
  taken (ground f) e t = absurd (omega arith)
  taken {j = j} {T = T} {r = r} (next {i = i} {l = l} x q f n u) e t = (record { placed = both.0; few = omega (arith, both.1, same, t.by_is); put_by = rw (t.by_is ∙ same, sym block) u }, ap (near d) (sym block) ∙ n)
    where
      same : j ≡ i
      same = omega arith

      here : l ≡ record { node = r.node; block = r.block }
      here = sym x ∙ ap (later_at later) (sym same) ∙ t.put

      block : block_of l.block ≡ block_of r.block
      block = ap (λ (m : Later). block_of m.block) here

      both : (q : Placed lines nodes listings index p r.node (block_of r.block)) × (q.level + i ≤ 14)
      both = subst (λ (m : Later). (q : Placed lines nodes listings index p m.node (block_of m.block)) × (q.level + i ≤ 14)) here (q, f)

  -- ---- The block beside the path

  pub aside_column : {path : List Fork} {level S : ℕ} {r : Spot} → (a : Aside lines nodes listings index path p d level S r) → r.by ≡ 0 → Column lines nodes listings index later d p r (far d a.on_path.block)
  aside_column {r = r} a e = record { placed = a.placed; few = omega (arith, a.few, e); put_by = rw e (ground (sym a.on_path.far_is)) }
