-- For callers: up the path, and off it on the way south (true) or north. What lies on the way beside the path comes next to what lies on it.
use Rattle.std.specs.Prelude.{◌≡◌, ◌⊎◌, Option, Bool, true, false, not, List, length, get_or}
use Rattle.std.proofs.Math.Path.{refl, sym, subst}
use Rattle.std.proofs.Common.{ap, ◌∙◌, inl, inr, arith}
use Prim.Native.Nat.{ℕ, suc, ◌-◌, ◌≤◌, ◌<◌}
use Rattle.std.proofs.Math.Dec.{ltb}
use Rattle.definitions.specs.declared.Point.{Point}
use Rattle.definitions.specs.Shape.{Block, whole_map}
use Rattle.geometry.specs.Means.{block_of}
use Rattle.plane.specs.Compare.{order}
use Rattle.meaning.specs.Column.{near, far}
use Rattle.path.specs.declared.Fork.{Fork}
use Rattle.path.specs.declared.Spot.{Spot}
use Rattle.path.specs.Placed.{Placed}
use Rattle.path.specs.Asked.{SonEntry, of_upper, of_lower, SonIs, is_upper, is_lower, Stacked, PathTo, top, step, fork_at, went_up, left_at, TurnedOff, TurnsOff, OtherSon, lower_one, upper_one, Beside}

-- a block of the path that the way leaves at this side
pub record OnPath (lines nodes listings index : List ℕ) (path : List Fork) (p : Point) (south : Bool) (level side : ℕ) : Type 0 where
  pub block : Block
  pub path_to : PathTo lines nodes listings index path p level block
  pub far_is : far south block ≡ side

-- a block beside the path, where the way left it, and the block of the path that it leaves with this one
pub record Aside (lines nodes listings index : List ℕ) (path : List Fork) (p : Point) (south : Bool) (level side : ℕ) (r : Spot) : Type 0 where
  pub placed : Placed lines nodes listings index p r.node (block_of r.block)
  pub few : placed.level ≤ 13
  pub near_is : near south (block_of r.block) ≡ side
  pub on_path : OnPath lines nodes listings index path p south level (far south (block_of r.block))

-- where no other son lies on the way, the way leaves both blocks at one side
same_side : (south : Bool) {j a b k : Block} → Stacked j a b → SonIs a b (not south) k → far south k ≡ far south j
same_side true t (is_lower e) = ap (far true) e ∙ t.bottom
same_side false t (is_upper e) = ap (far false) e ∙ t.top

module _ {lines nodes listings index : List ℕ} {path : List Fork} {p : Point} where
  up_to : (south : Bool) {from : ℕ} {k : Block} (r : ℕ) → PathTo lines nodes listings index path p from k → r ≤ from → ((i : ℕ) → r ≤ i → i < from → went_up path p i ≡ not south) → OnPath lines nodes listings index path p south r (far south k)
  up_to south r top h f = record { block = whole_map; path_to = subst (λ (n : ℕ). PathTo lines nodes listings index path p n whole_map) {x = 0} {y = r} (omega arith) top; far_is = refl }
  up_to south r (step {i = i} {f = fork} {j = j} {b = b} {k = k} e q s l t g u) h f = go (λ m g. up_to south r u m g) (order r i)
    where
      go : (r ≤ i → ((n : ℕ) → r ≤ n → n < i → went_up path p n ≡ not south) → OnPath lines nodes listings index path p south r (far south j)) → (r ≤ i) ⊎ (i < r) → OnPath lines nodes listings index path p south r (far south k)
      go more (inl m) =
          let o = more m (λ n x y. f n x (omega arith)) in
          let w : ltb (fork_at path i).above.south.0 p.y.0 ≡ not south = unfold went_up in (f i m (omega arith)) in
          record { block = o.block; path_to = o.path_to; far_is = o.far_is ∙ sym (same_side south t (subst (λ (x : Bool). SonIs (block_of fork.above) b x k) (ap (λ (n : Fork). ltb n.above.south.0 p.y.0) (sym e) ∙ w) g)) }
      go more (inr m) = record { block = k; path_to = subst (λ (n : ℕ). PathTo lines nodes listings index path p n k) {x = suc i} {y = r} (omega arith) (step e q s l t g u); far_is = refl }

  pub turned_up : {south : Bool} {from : ℕ} {r : Option ℕ} {k : Block} → PathTo lines nodes listings index path p from k → TurnedOff path p south from r → OnPath lines nodes listings index path p south (left_at r) (far south k)
  turned_up {south} {r = r} u t = up_to south (left_at r) u t.most t.passed

  pub at_top : {k : Block} {i : ℕ} → PathTo lines nodes listings index path p i k → i ≡ 0 → k ≡ whole_map
  at_top top e = refl
  at_top (step x q s l t g u) e = absurd (omega arith)

  module _ {i : ℕ} {r : Spot} where
    aside_at : (south : Bool) {n side : ℕ} {m : Block} (q : Placed lines nodes listings index p n m) → q.level ≤ 13 → r.node ≡ n → block_of r.block ≡ m → near south m ≡ side → OnPath lines nodes listings index path p south i (far south m) → Aside lines nodes listings index path p south i side r
    aside_at south {n} {side} {m} q f v w c o = record { placed = both.0; few = both.1; near_is = ap (near south) w ∙ c; on_path = record { block = o.block; path_to = o.path_to; far_is = o.far_is ∙ sym (ap (far south) w) } }
      where
        both : (q : Placed lines nodes listings index p r.node (block_of r.block)) × (q.level ≤ 13)
        both = rw (v, w) (q, f)

    -- the other son, if it lies on the way
    pub turned_off : {south : Bool} {k : Block} → PathTo lines nodes listings index path p (suc i) k → went_up path p i ≡ south → Beside index path i south r → Aside lines nodes listings index path p south i (far south k) r
    turned_off {south} (step {f = f} {j = j} {b = b} {k = k} y q s l t g u) e x = by south (subst (λ (z : Bool). SonIs (block_of f.above) b z k) (ap (λ (n : Fork). ltb n.above.south.0 p.y.0) (sym y) ∙ went) g) (rw y at x.entry) (rw y at x.block_is)
      where
        went : ltb (fork_at path i).above.south.0 p.y.0 ≡ south
        went = unfold went_up in e

        down : b.south ≡ f.above.south.0 - f.above.side
        down = omega (arith, t.seam, t.same_side)

        low : b ≡ record { west = f.above.west.0; south = f.above.south.0 - f.above.side; side = f.above.side }
        low = λ z. record { west = t.same_west z; south = down z; side = t.same_side z }

        by : (south : Bool) → SonIs (block_of f.above) b south k → SonEntry f.entry (not south) x.son → OtherSon f south (block_of r.block) → Aside lines nodes listings index path p south i (far south k) r
        by true (is_upper g) (of_lower v) (lower_one w) =
            aside_at true s l.1 (x.node_is ∙ ap (λ (n : ℕ). get_or index n 0) v) (w ∙ sym low) (t.seam ∙ sym (ap (far true) g)) (record { block = j; path_to = u; far_is = sym t.bottom })
        by false (is_lower g) (of_upper v) (upper_one w) =
            aside_at false q l.0 (x.node_is ∙ ap (λ (n : ℕ). get_or index n 0) v) w (sym t.seam ∙ sym (ap (far false) g)) (record { block = j; path_to = u; far_is = sym t.top })

  -- what is read there
  pub turns_off : {i : ℕ} {k : Block} → PathTo lines nodes listings index path p (suc i) k → i ≤ 13 → length path ≡ 16 → TurnsOff index path i
  turns_off {i} (step y q s l t g u) h e = record { here = omega arith; entries = rw y l.2; fits = rw y l.3; deep = rw y (omega (arith, t.seam, t.same_side)) }
