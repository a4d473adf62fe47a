-- The two tree tables, read from their start, give the tree's leaves, one after another.
use Rattle.std.specs.Prelude.{◌≡◌, refl, ℕ, ◌+◌, ◌≤◌, ◌<◌, length, take, drop}
use Rattle.std.proofs.Common.{subst, ⊎_elim, arith, length-append}
use mathlib.Core.List.Memᴰ
use mathlib.Core.List.{List, [], ◌∷◌, ◌++◌, append_assoc, Memᴰ}
use Rattle.std.proofs.Math.Seq.{take-append_seam, drop-append_seam}
use Rattle.definitions.specs.Meaning.{LeafAt, here, in_nw, in_ne, in_sw, in_se}
use Rattle.definitions.specs.Shape.{Block, nw_of, ne_of, sw_of, se_of}
use Rattle.definitions.specs.Tree.{Tree, leaf, divided, nodes_of, listings_of}

-- the lists of the leaves, in preorder
unfoldable pub leaves_of : Tree → List (List ℕ)
leaves_of (leaf slots) = slots ∷ []
leaves_of (divided nw ne sw se) = leaves_of nw ++ leaves_of ne ++ leaves_of sw ++ leaves_of se

-- nodes and listings read so: 65,535 is passed over, and a leaf of n lines takes the next n listings
pub data Reads : List ℕ → List ℕ → List (List ℕ) → Type 0 where
  ended : {listings : List ℕ} → Reads [] listings []
  parted : {n : ℕ} {nodes listings : List ℕ} {leaves : List (List ℕ)} → n ≡ 65535 → Reads nodes listings leaves → Reads (n ∷ nodes) listings leaves
  one_leaf : {n : ℕ} {nodes listings : List ℕ} {leaves : List (List ℕ)} → (n ≡ 65535 → ⊥) → n ≤ length listings → Reads nodes (drop n listings) leaves → Reads (n ∷ nodes) listings (take n listings ∷ leaves)

-- ---- the tables of a tree
pub reads_tree : (t : Tree) {nodes listings : List ℕ} {leaves : List (List ℕ)} → length (listings_of t) < 65535 → Reads nodes listings leaves
    → Reads (nodes_of t ++ nodes) (listings_of t ++ listings) (leaves_of t ++ leaves)
unfolding nodes_of listings_of leaves_of
reads_tree (leaf slots) {nodes} {listings} {leaves} h r =
    subst (λ (s : List ℕ). Reads (length slots ∷ nodes) (slots ++ listings) (s ∷ leaves)) (take-append_seam slots listings)
    (one_leaf (λ e. omega arith) (simp length-append (omega arith)) (rw drop-append_seam r))
reads_tree (divided a b c d) {nodes} {listings} {leaves} h r =
    parted {nodes = nodes_of a ++ nodes_of b ++ nodes_of c ++ nodes_of d ++ nodes} {listings = listings_of (divided a b c d) ++ listings} {leaves = leaves_of (divided a b c d) ++ leaves} refl (simp append_assoc
    (reads_tree a (omega (arith, sizes)) (reads_tree b (omega (arith, sizes)) (reads_tree c (omega (arith, sizes)) (reads_tree d (omega (arith, sizes)) r)))))
  where
    sizes : length (listings_of a ++ listings_of b ++ listings_of c ++ listings_of d) ≡ length (listings_of a) + length (listings_of b) + length (listings_of c) + length (listings_of d)
    sizes = simp length-append

-- ---- they are the leaves that stand in the tree
pub to_leaves : {k j : Block} {t : Tree} {list : List ℕ} → LeafAt k t j list → Memᴰ list (leaves_of t)
unfolding leaves_of
to_leaves (here e f) = Memᴰ.head f
to_leaves (in_nw {b = b} {c = c} {d = d} h) = Memᴰ.append_left (leaves_of d) (Memᴰ.append_left (leaves_of c) (Memᴰ.append_left (leaves_of b) (to_leaves h)))
to_leaves (in_ne {a = a} {c = c} {d = d} h) = Memᴰ.append_left (leaves_of d) (Memᴰ.append_left (leaves_of c) (Memᴰ.append_right (leaves_of a) (to_leaves h)))
to_leaves (in_sw {a = a} {b = b} {d = d} h) = Memᴰ.append_left (leaves_of d) (Memᴰ.append_right (leaves_of a ++ leaves_of b) (to_leaves h))
to_leaves (in_se {a = a} {b = b} {c = c} h) = Memᴰ.append_right (leaves_of a ++ leaves_of b ++ leaves_of c) (to_leaves h)

pub of_leaves : (k : Block) (t : Tree) {list : List ℕ} → Memᴰ list (leaves_of t) → (j : Block) × LeafAt k t j list
unfolding leaves_of
of_leaves k (leaf slots) m = (k, here refl (Memᴰ.eq_of_singleton m))
of_leaves k (divided a b c d) {list} m = four (of_leaves (nw_of k) a) (of_leaves (ne_of k) b) (of_leaves (sw_of k) c) (of_leaves (se_of k) d)
  where
    Find : Block → Tree → Type 0
    Find q t = Memᴰ list (leaves_of t) → (j : Block) × LeafAt q t j list

    four : Find (nw_of k) a → Find (ne_of k) b → Find (sw_of k) c → Find (se_of k) d → (j : Block) × LeafAt k (divided a b c d) j list
    four f g h i =
        ⊎_elim (λ x. ⊎_elim (λ y. ⊎_elim (λ z. let q = f z in (q.0, in_nw q.1))
        (λ z. let q = g z in (q.0, in_ne q.1)) (Memᴰ.append_cases (leaves_of a) y))
        (λ y. let q = h y in (q.0, in_sw q.1)) (Memᴰ.append_cases (leaves_of a ++ leaves_of b) x))
        (λ x. let q = i x in (q.0, in_se q.1)) (Memᴰ.append_cases (leaves_of a ++ leaves_of b ++ leaves_of c) m)
