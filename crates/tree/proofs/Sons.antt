-- The build of a block by the builds of its sons: what each son's build is given, and what the block's tree is.
use mathlib.Core.Path.{◌≡◌, refl, sym, ap, ◌∙◌, subst}
use mathlib.Core.Logic.{inl}
use mathlib.Core.Bool.{Bool, true, false}
use mathlib.Core.List.{List, [], ◌∷◌, ◌++◌, map, Memᴰ}
use Prim.Native.Nat.{ℕ, zero, suc, ◌+◌, ◌-◌, ◌*◌, ◌/◌, ◌^◌, ◌≤◌, ◌<◌}
use native.Mathlib.Nat.{mul-le-mul_right}
use native.Mathlib.Omega.{arith}
use lib.ListN.{length, take, get_or}
use lib.Seq.{slice}
use Rattle.algebra.specs.Lists.{those_yes, of_those, slice_same}
use Rattle.algebra.specs.Tests.{no_path}
use Rattle.algebra.specs.Words.{those, over}
use Rattle.definitions.specs.Shape.{Line, Block, nw_of, ne_of, sw_of, se_of, meets}
use Rattle.definitions.specs.Tables.{line_at}
use Rattle.definitions.specs.Tree.{Tree, leaf, divided, block, listed, simple, base_rule, tree_by, nodes_of, listings_of}
use Rattle.plane.specs.Blocks.{double}
use Rattle.meaning.specs.Fewer.{some_node}
use Rattle.meaning.specs.Leaves.{base_local, candidates}
use Rattle.meaning.specs.Rules.{by_leaf, by_divided}
use Rattle.tables.specs.declared.Place.{Place}
use Rattle.geometry.specs.declared.Block as code
use Rattle.geometry.specs.Means.{block_of}
use Rattle.candidates.specs.declared.Span.{Span}
use Rattle.geometry.specs.declared.Sons.{Sons}
use Rattle.std.specs.Prelude.{Option, Some, None}
use Rattle.candidates.specs.Spread.{meets_at, Spreadable, Spread, SonOf}
use Rattle.rule.specs.Rule.{left_whole, Candidates}
use Rattle.tree.specs.Builds.{BuiltIs, Grown, OfTree, Ready, tree_for, block_nodes, block_listings, sons_nodes, sons_listings}
use Rattle.tree.proofs.Sequence.{grown_fit, grown_then, grown_stop, grown_low}

-- ---- the sons' blocks
half_side : {k : Block} {n : ℕ} → OfTree k (suc n) → k.side / 2 ≡ 2 ^ suc n
half_side {k} {n} h = let d = double (suc n) in let e = h.side in omega arith

module _ {k : Block} {n : ℕ} (h : OfTree k (suc n)) where
  -- all four, by where they stand
  quarter : (x y : ℕ) → x ≤ k.west + k.side / 2 → y ≤ k.south + k.side / 2 → OfTree (record { west = x; south = y; side = k.side / 2 }) n
  quarter x y i j = let e = h.east in let f = h.north in record { side = half_side h; east = omega arith; north = omega arith }

  pub nw_of_tree : OfTree (nw_of k) n
  nw_of_tree = quarter k.west (k.south + k.side / 2) (omega arith) (omega arith)

  pub ne_of_tree : OfTree (ne_of k) n
  ne_of_tree = quarter (k.west + k.side / 2) (k.south + k.side / 2) (omega arith) (omega arith)

  pub sw_of_tree : OfTree (sw_of k) n
  sw_of_tree = quarter k.west k.south (omega arith) (omega arith)

  pub se_of_tree : OfTree (se_of k) n
  se_of_tree = quarter (k.west + k.side / 2) k.south (omega arith) (omega arith)

-- ---- the tree of a block from its candidates
block_is : {k : Block} {n : ℕ} → OfTree k n → k ≡ block n k.west k.south
block_is {k} h = λ i. record { west = k.west; south = k.south; side = h.side i }

mapped : (lines : List ℕ) (k : Block) (slots : List ℕ) → map (line_at lines) (those (meets_at lines k) slots) ≡ those (meets k) (map (line_at lines) slots)
unfolding those meets_at
mapped lines k [] = refl
mapped lines k (s ∷ more) = go (meets k (line_at lines s)) _ _ (mapped lines k more)
  where
    go : (t : Bool) (xs : List ℕ) (ys : List Line) → map (line_at lines) xs ≡ ys
        → map (line_at lines) (elim t [ true ↦ s ∷ xs | false ↦ xs ]) ≡ elim t [ true ↦ line_at lines s ∷ ys | false ↦ ys ]
    go true xs ys e = ap (λ (z : List Line). line_at lines s ∷ z) e
    go false xs ys e = e

-- its tree is that of all lines
tree_of_candidates : (lines slots : List ℕ) {k : Block} {n : ℕ} → OfTree k n → tree_for lines (those (meets_at lines k) slots) n k ≡ tree_for lines slots n k
unfolding tree_for
tree_of_candidates lines slots {k} {n} h =
    ap (λ (z : List Line). tree_by base_rule z n k.west k.south) (mapped lines k slots ∙ ap (λ (z : Block). those (meets z) (map (line_at lines) slots)) (block_is h))
    ∙ candidates base_rule base_local (map (line_at lines) slots) n k.west k.south

listed_all : (lines : List ℕ) (k : Block) (slots : List ℕ) → Candidates lines k slots → listed (map (line_at lines) slots) k ≡ slots
unfolding listed line_at those
listed_all lines k [] h = refl
listed_all lines k (s ∷ more) h = go (listed_all lines k more (λ x m. h x (Memᴰ.tail m))) (h s (Memᴰ.head refl)).met
  where
    go : listed (map (line_at lines) more) k ≡ more → meets k (line_at lines s) ≡ true → map (λ (l : Line). l.slot) (those (meets k) (line_at lines s ∷ map (line_at lines) more)) ≡ s ∷ more
    go e m = rw (those_yes (meets k) (line_at lines s) (map (line_at lines) more) m) (ap (λ (z : List ℕ). s ∷ z) e)

-- ---- a block that is a leaf, and one that is divided
module _ (lines slots : List ℕ) (k : Block) where
  pub record IsLeaf (level : ℕ) : Type 0 where
    pub node_is : block_nodes lines slots level k ≡ length slots ∷ []
    pub listing_is : block_listings lines slots level k ≡ slots

  pub record IsDivided (level : ℕ) : Type 0 where
    pub some : 1 ≤ level
    pub nodes_are : block_nodes lines slots level k ≡ 65535 ∷ sons_nodes lines slots (level - 1) k
    pub listings_are : block_listings lines slots level k ≡ sons_listings lines slots (level - 1) k

  leaf_of : (level : ℕ) → OfTree k level → Candidates lines k slots → tree_for lines slots level k ≡ leaf (listed (map (line_at lines) slots) (block level k.west k.south)) → IsLeaf level
  unfolding block_nodes block_listings nodes_of listings_of
  leaf_of level h c e = record { node_is = ap nodes_of same; listing_is = ap listings_of same }
    where
      same : tree_for lines slots level k ≡ leaf slots
      same = e ∙ ap leaf (ap (listed (map (line_at lines) slots)) (sym (block_is h)) ∙ listed_all lines k slots c)

  rule_is : {level : ℕ} → OfTree k level → {b : Bool} → b ≡ simple (map (line_at lines) slots) k → base_rule (block level k.west k.south) (map (line_at lines) slots) ≡ b
  unfolding base_rule
  rule_is h e = sym (e ∙ ap (simple (map (line_at lines) slots)) (block_is h))

  pub left_whole_lem : (level : ℕ) → true ≡ left_whole level (simple (map (line_at lines) slots) k) → OfTree k level → Candidates lines k slots → IsLeaf level
  unfolding tree_for tree_by
  left_whole_lem zero e h c = leaf_of zero h c refl
  left_whole_lem (suc n) e h c = leaf_of (suc n) h c (by_leaf base_rule (map (line_at lines) slots) n k.west k.south (rule_is h e))

  pub is_divided : (level : ℕ) → false ≡ left_whole level (simple (map (line_at lines) slots) k) → OfTree k level → IsDivided level
  unfolding tree_for block_nodes block_listings sons_nodes sons_listings nodes_of listings_of
  is_divided zero e h = no_path e
  is_divided (suc n) e h = record { some = omega arith; nodes_are = rw less (ap nodes_of same); listings_are = rw less (ap listings_of same) }
    where
      less : suc n - 1 ≡ n
      less = omega arith

      at : ℕ → ℕ → Tree
      at w s = tree_by base_rule (map (line_at lines) slots) n w s

      same : tree_by base_rule (map (line_at lines) slots) (suc n) k.west k.south
          ≡ divided (at k.west (k.south + k.side / 2)) (at (k.west + k.side / 2) (k.south + k.side / 2)) (at k.west k.south) (at (k.west + k.side / 2) k.south)
      same =
          by_divided base_rule (map (line_at lines) slots) n k.west k.south (rule_is h e)
          ∙ sym (ap (λ (z : ℕ). divided (at k.west (k.south + z)) (at (k.west + z) (k.south + z)) (at k.west k.south) (at (k.west + z) k.south)) (half_side h))

-- ---- the build of a leaf, of a divided block, and of none
module _ (lines slots : List ℕ) (k : Block) (level : ℕ) {at : Place} {s t s' t' : List ℕ} {f : ℕ} {w w' : List ℕ} where
  pub grown_leaf : {r : Option Place} → IsLeaf lines slots k level → (part : List ℕ) → part ≡ slots → BuiltIs (length part ∷ []) part at s t s' t' r → take f w' ≡ take f w
      → Grown (block_nodes lines slots level k) (block_listings lines slots level k) at s t s' t' f w w' r
  grown_leaf {r} h part e b same =
      rw (h.node_is, h.listing_is) (record { built = subst (λ (z : List ℕ). BuiltIs (length z ∷ []) z at s t s' t' r) e b; below = same })

pub grown_none : (lines slots : List ℕ) (k : Block) (level : ℕ) (at : Place) (s t : List ℕ) (f : ℕ) (w : List ℕ) → length s ≤ at.node
    → Grown (block_nodes lines slots level k) (block_listings lines slots level k) at s t s t f w w None
unfolding block_nodes
grown_none lines slots k level at s t f w h = let o = some_node (tree_for lines slots level k) in record { built = inl (omega arith); below = refl }

-- ---- what the sons ask of a block
pub ready_down : {lines w : List ℕ} {c : Span} {k : Block} {level : ℕ} {at : Place} {N L : ℕ} → Ready lines w c k level at N L → 1 ≤ level
    → (p : Place) (N' : ℕ) → p.node ≤ N' → p.listing ≤ L → Ready lines w c k (suc (level - 1)) p N' L
ready_down {lines} {w} {c} {k} {level} {at} {N} {L} r f p N' hn hl =
    rw up (record { candidates = r.candidates; span = r.span; below = r.below; few = r.few; work = r.work; of_tree = r.of_tree; node = hn; listing = hl })
  where
    up : suc (level - 1) ≡ level
    up = omega arith

-- ---- the four sons, one after another
abbrev pub son_block : ℕ → Block → Block
son_block zero k = nw_of k
son_block (suc zero) k = ne_of k
son_block (suc (suc zero)) k = sw_of k
son_block (suc (suc (suc i))) k = se_of k

-- the lists of the first i of them
abbrev pub first_sons : ℕ → (Block → List ℕ) → Block → List ℕ
first_sons zero f k = []
first_sons (suc i) f k = first_sons i f k ++ f (son_block i k)

-- after the first i sons: the list of slots is as the spread left it below the sons' free place
pub record SoFar (lines w₀ : List ℕ) (c : Span) (k : Block) (n : ℕ) (at : Place) (w₁ s t : List ℕ) (i : ℕ) (s₁ t₁ w : List ℕ) (x : Option Place) : Type 0 where
  pub grown : Grown (first_sons i (block_nodes lines (slice c.from c.to w₀) n) k) (first_sons i (block_listings lines (slice c.from c.to w₀) n) k) at s t s₁ t₁ (c.free + 4 * (c.to - c.from)) w₁ w x
  pub slots_kept : length w ≡ length w₀
  pub nodes_kept : length s₁ ≡ length s
  pub listings_kept : length t₁ ≡ length t

module _ {lines w₀ : List ℕ} {c : Span} {k : Block} {n : ℕ} {at : Place} {N L : ℕ} (ready : Ready lines w₀ c k (suc n) at N L) where
  abbrev cs : List ℕ
  cs = slice c.from c.to w₀

  abbrev free : ℕ
  free = c.free + 4 * (c.to - c.from)

  pub spreadable : Spreadable lines w₀ c k
  spreadable =
      let o = ready.of_tree in
      let h = half_side o in
      let d = double (suc n) in
      record {
        on_map = λ s m. (ready.candidates s m).good.on_map;
        met = λ s m. (ready.candidates s m).met;
        span = ready.span;
        below = ready.below;
        work = omega arith;
        wide = omega arith;
        tall = omega arith;
        even = omega arith;
      }

  pub no_son : {w₁ s t : List ℕ} → length w₁ ≡ length w₀ → at.node ≤ length s → at.listing ≤ length t → SoFar lines w₀ c k n at w₁ s t 0 s t w₁ (Some at)
  unfolding over
  no_son len hn hl =
      record {
        grown = record { built = record { next_node = omega arith; next_listing = omega arith; nodes_fit = hn; listings_fit = hl; nodes_are = refl; listings_are = refl }; below = refl };
        slots_kept = len;
        nodes_kept = refl;
        listings_kept = refl;
      }

  -- a son's candidates and block
  pub record SonAt (w₁ : List ℕ) (i : ℕ) (p : Span × code.Block) : Type 0 where
    pub is : block_of p.1 ≡ son_block i k
    pub of_tree : OfTree (son_block i k) n
    pub son : SonOf lines (son_block i k) c w₀ w₁ p.0

  pub son_at : {w₁ : List ℕ} {spans : Sons Span} → Spread lines k c w₀ w₁ spans → (nw ne sw se : code.Block) → block_of nw ≡ nw_of k → block_of ne ≡ ne_of k → block_of sw ≡ sw_of k → block_of se ≡ se_of k
      → (i : ℕ) → i < 4 → (d : Span × code.Block) → SonAt w₁ i (get_or ((spans.nw, nw) ∷ (spans.ne, ne) ∷ (spans.sw, sw) ∷ (spans.se, se) ∷ []) i d)
  son_at r nw ne sw se a b e f zero h d = record { is = a; of_tree = nw_of_tree ready.of_tree; son = r.nw }
  son_at r nw ne sw se a b e f (suc zero) h d = record { is = b; of_tree = ne_of_tree ready.of_tree; son = r.ne }
  son_at r nw ne sw se a b e f (suc (suc zero)) h d = record { is = e; of_tree = sw_of_tree ready.of_tree; son = r.sw }
  son_at r nw ne sw se a b e f (suc (suc (suc zero))) h d = record { is = f; of_tree = se_of_tree ready.of_tree; son = r.se }
  son_at r nw ne sw se a b e f (suc (suc (suc (suc i)))) h d = absurd (omega arith)

  module _ {w₁ s t : List ℕ} {i : ℕ} {s₁ t₁ w : List ℕ} {x : Option Place} (so : SoFar lines w₀ c k n at w₁ s t i s₁ t₁ w x) where
    stop : x ≡ None → SoFar lines w₀ c k n at w₁ s t (suc i) s₁ t₁ w None
    stop e =
        record {
          grown = grown_stop so.grown e (block_nodes lines cs n (son_block i k)) (block_listings lines cs n (son_block i k));
          slots_kept = so.slots_kept;
          nodes_kept = so.nodes_kept;
          listings_kept = so.listings_kept;
        }

    -- the next son
    module _ {p : Place} (e : x ≡ Some p) {q : Span × code.Block} (next : SonAt w₁ i q) where
      abbrev b : Block
      b = son_block i k

      held : slice q.0.from q.0.to w ≡ those (meets_at lines b) cs
      held = let u = next.son in slice_same q.0.from q.0.to free w₁ w (omega arith) so.grown.below ∙ u.holds

      pub son_ready : Ready lines w q.0 (block_of q.1) n p (length s₁) (length t₁)
      unfolding meets_at
      son_ready =
          let f = grown_fit so.grown e in
          let u = next.son in
          rw next.is
          (record {
            candidates = λ s m. let v = of_those (meets_at lines b) cs (subst (λ (z : List ℕ). Memᴰ s z) held m) in record { good = (ready.candidates s v.0).good; met = v.1 };
            span = u.span;
            below = u.below;
            few = omega arith;
            work = work;
            of_tree = next.of_tree;
            node = f.0;
            listing = f.1;
          })
        where
          work : q.0.free + 4 * ((q.0.to - q.0.from) * n) ≤ length w
          work = let g = ready.work in let l = so.slots_kept in let u = next.son in omega (arith, mul-le-mul_right {m = q.0.to - q.0.from} {n = c.to - c.from} n (omega arith))

      pub son_then : {s₂ t₂ w₂ : List ℕ} {y : Option Place}
          → Grown (block_nodes lines (slice q.0.from q.0.to w) n (block_of q.1)) (block_listings lines (slice q.0.from q.0.to w) n (block_of q.1)) p s₁ t₁ s₂ t₂ q.0.free w w₂ y
          → length w₂ ≡ length w → length s₂ ≡ length s₁ → length t₂ ≡ length t₁ → SoFar lines w₀ c k n at w₁ s t (suc i) s₂ t₂ w₂ y
      unfolding block_nodes block_listings
      son_then {s₂} {t₂} {w₂} {y} g kw ks kt =
          record {
            grown =
                grown_then so.grown e
                (subst (λ (z : Tree). Grown (nodes_of z) (listings_of z) p s₁ t₁ s₂ t₂ free w w₂ y) (tree_of_candidates lines cs next.of_tree) (rw (next.is, held, next.son.next) at g));
            slots_kept = kw ∙ so.slots_kept;
            nodes_kept = ks ∙ so.nodes_kept;
            listings_kept = kt ∙ so.listings_kept;
          }

  module _ {w₁ : List ℕ} {spans : Sons Span} (spread : Spread lines k c w₀ w₁ spans) {s t s₁ t₁ w : List ℕ} {x : Option Place} where
    -- all of them
    pub sons_grown : {i : ℕ} → i ≡ 4 → SoFar lines w₀ c k n at w₁ s t i s₁ t₁ w x → Grown (sons_nodes lines cs n k) (sons_listings lines cs n k) at s t s₁ t₁ c.free w₀ w x
    unfolding sons_nodes sons_listings
    sons_grown {i} e so = grown_low (rw e at so).grown c.free w₀ (omega arith) spread.below

  -- or no room for one
  pub no_more : {w₁ s t s₁ t₁ w : List ℕ} (j : ℕ) {i : ℕ} → j + i ≡ 4 → SoFar lines w₀ c k n at w₁ s t i s₁ t₁ w None → SoFar lines w₀ c k n at w₁ s t 4 s₁ t₁ w None
  no_more zero {i} e so = let f : i ≡ 4 = omega arith in rw f at so
  no_more (suc j) e so = no_more j (omega arith) (stop so refl)
