-- The laws of the walk that fills the index: a divided block is its four sons, one after another.
use mathlib.Core.Path.{◌≡◌, refl, ◌∙◌}
use mathlib.Core.List.{List, [], ◌∷◌}
use Prim.Native.Nat.{ℕ, ◌+◌, ◌-◌, ◌*◌, ◌≤◌, ◌<◌}
use native.Mathlib.Omega.{arith}
use lib.ListN.{length, get_or, set, replicate, length-replicate}
use lib.Seq.{get_or-set_same, get_or-set_other}
use Rattle.definitions.specs.Tree.{Tree, leaf, divided, nodes_of, listings_of}
use Rattle.walk.specs.Placing.{divided_nodes, divided_listings, some_node, there}
use Rattle.walk.specs.Index.{after_nodes, after_listings, ne_at, sw_at, se_at, ne_first, sw_first, se_first, Stands, leaf_stands, sons_stand, Standing, Entries, Indexed, leaf_indexed, sons_indexed, Walkable, Divided, Put, Filled}

-- ---- The index of a tree is kept by writes elsewhere

pub indexed_kept : {s s' : List ℕ} {t : Tree} {n f : ℕ} → Indexed s t n f →
    ((k : ℕ) → 4 * n ≤ k → k < 4 * after_nodes t n → get_or s' k 0 ≡ get_or s k 0) → Indexed s' t n f
indexed_kept {s} {s'} (leaf_indexed {slots = slots} {n = n} e) same = leaf_indexed (same (4 * n) (omega arith) (omega (arith, some_node (leaf slots))) ∙ e)
indexed_kept {s} {s'} (sons_indexed {nw = nw} {ne = ne} {sw = sw} {se = se} {n = n} {f = f} i a b c d) same =
    sons_indexed
    (record {
      first = same (4 * n) (omega arith) (omega (arith, z)) ∙ i.first;
      second = same (4 * n + 1) (omega arith) (omega (arith, z)) ∙ i.second;
      third = same (4 * n + 2) (omega arith) (omega (arith, z)) ∙ i.third;
      fourth = same (4 * n + 3) (omega arith) (omega (arith, z)) ∙ i.fourth;
    })
    (indexed_kept a (λ k h j. same k (omega arith) (omega (arith, z))))
    (indexed_kept b (λ k h j. same k (omega arith) (omega (arith, z))))
    (indexed_kept c (λ k h j. same k (omega arith) (omega (arith, z))))
    (indexed_kept d (λ k h j. same k (omega arith) (omega (arith, z))))
  where
    z : length (nodes_of (divided nw ne sw se)) ≡ 1 + length (nodes_of nw) + length (nodes_of ne) + length (nodes_of sw) + length (nodes_of se)
    z = divided_nodes nw ne sw se

-- ---- The sons of a divided block, one after another

-- past node n, these trees stand one after another, from a and l on
pub data Row (nodes : List ℕ) (n : ℕ) : List Tree → ℕ → ℕ → Type 0 where
  none : {a l : ℕ} → Row nodes n [] a l
  one : {t : Tree} {ts : List Tree} {a l : ℕ} → n < a → Standing nodes t a l → Row nodes n ts (after_nodes t a) (after_listings t l) → Row nodes n (t ∷ ts) a l

pub head : {nodes : List ℕ} {n a l : ℕ} {t : Tree} {ts : List Tree} → Row nodes n (t ∷ ts) a l → Standing nodes t a l
head (one p h r) = h

-- what a walk of a block tells
abbrev pub Told : List ℕ → ℕ → ℕ → ℕ → ℕ → List ℕ → List ℕ → Type 0
Told nodes n f n' f' s s' = (t : Tree) → Standing nodes t n f → Filled t n f n' f' s s'

pub told : {nodes : List ℕ} {n a l a' l' : ℕ} {t : Tree} {ts : List Tree} {s s' : List ℕ} → Row nodes n (t ∷ ts) a l → Told nodes a l a' l' s s' → Filled t a l a' l' s s'
told r g = g _ (head r)

pub next : {nodes : List ℕ} {n a l a' l' : ℕ} {t : Tree} {ts : List Tree} {s s' : List ℕ} → Row nodes n (t ∷ ts) a l → Told nodes a l a' l' s s' → Row nodes n ts a' l'
next (one {t = t} p h r) g = let q = g t h in rw (q.next_node, q.next_listing) r

cons : {nodes : List ℕ} {n : ℕ} {t : Tree} {ts : List Tree} (a l : ℕ) → Stands nodes t a → n < a → after_nodes t a ≤ length nodes → after_listings t l ≤ 16384 →
    Row nodes n ts (after_nodes t a) (after_listings t l) → Row nodes n (t ∷ ts) a l
cons a l s p i j r = one p (record { stands = s; nodes_fit = i; listings_fit = j }) r

-- a divided block taken apart
pub record Four (nodes : List ℕ) (t : Tree) (n f : ℕ) : Type 0 where
  pub nw : Tree
  pub ne : Tree
  pub sw : Tree
  pub se : Tree
  pub whole : t ≡ divided nw ne sw se
  pub row : Row nodes n (nw ∷ ne ∷ sw ∷ se ∷ []) (n + 1) f

pub four : {nodes : List ℕ} {t : Tree} {n f : ℕ} → Standing nodes t n f → get_or nodes n 0 ≡ 65535 → Four nodes t n f
four {nodes} {t} {n} {f} h e = go h.stands h.nodes_fit h.listings_fit
  where
    go : {t : Tree} → Stands nodes t n → after_nodes t n ≤ length nodes → after_listings t f ≤ 16384 → Four nodes t n f
    go (leaf_stands {slots = slots} x y) i j = absurd (omega arith)
    go (sons_stand {nw = nw} {ne = ne} {sw = sw} {se = se} x a b c d) i j =
        let z : length (nodes_of (divided nw ne sw se)) ≡ 1 + length (nodes_of nw) + length (nodes_of ne) + length (nodes_of sw) + length (nodes_of se) = divided_nodes nw ne sw se in
        let y : length (listings_of (divided nw ne sw se)) ≡ length (listings_of nw) + length (listings_of ne) + length (listings_of sw) + length (listings_of se) = divided_listings nw ne sw se in
        record {
          nw = nw;
          ne = ne;
          sw = sw;
          se = se;
          whole = refl;
          row = cons (n + 1) f a (omega arith) (omega arith) (omega arith)
              (cons (ne_at n nw) (ne_first f nw) b (omega arith) (omega arith) (omega arith)
              (cons (sw_at n nw ne) (sw_first f nw ne) c (omega arith) (omega arith) (omega arith)
              (cons (se_at n nw ne sw) (se_first f nw ne sw) d (omega arith) (omega arith) (omega arith) none)));
        }

-- what the walk of the next son asks, where the measure of the sons' walk is m
pub asked : {nodes : List ℕ} {t : Tree} {ts : List Tree} {n f a l e m : ℕ} (e' : ℕ) → Row nodes n (t ∷ ts) a l → (2 * (length nodes - n) ≡ m) × Divided nodes e n f → e' ≡ e →
    (2 * (length nodes - a) + 1 < m) × Walkable nodes e' a l
asked e' (one {t = t} p h r) w z =
    (omega (arith, w.0, there h), record { tree = t; standing = h; few = w.1.walkable.few; room = omega (arith, w.1.walkable.room) })

-- ---- What a walk of a block has done

pub filled_leaf : {nodes : List ℕ} {t : Tree} {n f : ℕ} (s : List ℕ) → Standing nodes t n f → (get_or nodes n 0 ≡ 65535 → ⊥) → 4 * n < length s →
    Filled t n f (n + 1) (f + get_or nodes n 0) s (set s (4 * n) f)
unfolding nodes_of listings_of
filled_leaf {nodes} {t} {n} {f} s h e r = go h.stands
  where
    go : {t : Tree} → Stands nodes t n → Filled t n f (n + 1) (f + get_or nodes n 0) s (set s (4 * n) f)
    go (leaf_stands x y) =
        record {
          next_node = refl;
          next_listing = rw x;
          below = λ k b. get_or-set_other s (4 * n) k f 0 (λ q. omega arith);
          indexed = leaf_indexed (get_or-set_same s (4 * n) f 0 r);
        }
    go (sons_stand x a b c d) = absurd (e x)

pub filled_sons : (nw ne sw se : Tree) {n f a l b m c o d q : ℕ} {s₀ s₁ s₂ s₃ s₄ s₅ : List ℕ} →
    Filled nw (n + 1) f a l s₀ s₁ → Filled ne a l b m s₁ s₂ → Filled sw b m c o s₂ s₃ → Filled se c o d q s₃ s₄ →
    Put n (n + 1) a b c s₄ s₅ →
    Filled (divided nw ne sw se) n f d q s₀ s₅
filled_sons nw ne sw se {n} {f} {a} {l} {b} {m} {c} {o} {d} {q} {s₀} {s₁} {s₂} {s₃} {s₄} {s₅} g h i j e =
    record {
      next_node = omega (arith, divided_nodes nw ne sw se);
      next_listing = omega (arith, divided_listings nw ne sw se);
      below = λ k z. e.below k z ∙ j.below k (omega arith) ∙ i.below k (omega arith) ∙ h.below k (omega arith) ∙ g.below k (omega arith);
      indexed = sons_indexed entries go_nw go_ne go_sw go_se;
    }
  where
    entries : Entries s₅ n (n + 1) (ne_at n nw) (sw_at n nw ne) (se_at n nw ne sw)
    entries = rw (← g.next_node, ← h.next_node, ← i.next_node) e.entries

    go_nw : Indexed s₅ nw (n + 1) f
    go_nw = indexed_kept g.indexed (λ k x y. e.above k (omega arith) ∙ j.below k (omega arith) ∙ i.below k (omega arith) ∙ h.below k (omega arith))

    go_ne : Indexed s₅ ne (ne_at n nw) (ne_first f nw)
    go_ne = rw (← g.next_node, ← g.next_listing) (indexed_kept h.indexed (λ k x y. e.above k (omega arith) ∙ j.below k (omega arith) ∙ i.below k (omega arith)))

    go_sw : Indexed s₅ sw (sw_at n nw ne) (sw_first f nw ne)
    go_sw = rw (← g.next_node, ← g.next_listing, ← h.next_node, ← h.next_listing) (indexed_kept i.indexed (λ k x y. e.above k (omega arith) ∙ j.below k (omega arith)))

    go_se : Indexed s₅ se (se_at n nw ne sw) (se_first f nw ne sw)
    go_se = rw (← g.next_node, ← g.next_listing, ← h.next_node, ← h.next_listing, ← i.next_node, ← i.next_listing) (indexed_kept j.indexed (λ k x y. e.above k (omega arith)))

pub filled_four : {nodes : List ℕ} {t : Tree} {n f a l b m c o d q : ℕ} {s₀ s₁ s₂ s₃ s₄ s₅ : List ℕ} → Standing nodes t n f → get_or nodes n 0 ≡ 65535 →
    Told nodes (n + 1) f a l s₀ s₁ → Told nodes a l b m s₁ s₂ → Told nodes b m c o s₂ s₃ → Told nodes c o d q s₃ s₄ →
    Put n (n + 1) a b c s₄ s₅ → Filled t n f d q s₀ s₅
filled_four h e t₁ t₂ t₃ t₄ p =
    let w = four h e in
    let r₂ = next w.row t₁ in
    let r₃ = next r₂ t₂ in
    rw w.whole (filled_sons w.nw w.ne w.sw w.se (told w.row t₁) (told r₂ t₂) (told r₃ t₃) (told (next r₃ t₃) t₄) p)

pub leaf_fits : {nodes : List ℕ} {t : Tree} {n f : ℕ} → Standing nodes t n f → (get_or nodes n 0 ≡ 65535 → ⊥) → f + get_or nodes n 0 ≤ 16384
leaf_fits {nodes} {t} {n} {f} h e = omega (arith, h.listings_fit, (filled_leaf (replicate (4 * n + 1) 0) h e (simp length-replicate (omega arith))).next_listing)
