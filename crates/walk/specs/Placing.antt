-- The tree of a map stands in its node table, and its leaves' listings lie in the listing table.
use Rattle.std.specs.Prelude.{◌≡◌, Bool, true, false, List, [], ◌∷◌, ◌++◌, ℕ, zero, suc, ◌+◌, ◌-◌, ◌/◌, ◌^◌, ◌≤◌, ◌<◌, ltb, length, get_or, drop, replicate}
use Rattle.std.proofs.Common.{sym, ap, ◌∙◌, append_assoc, add-zero, arith, length-append, drop-drop, get_or-drop}
use Rattle.std.proofs.lemmas.List.{length-map}
use Rattle.std.proofs.Math.Seq.{drop-append_seam}
use Rattle.algebra.specs.Words.{up_from, padded}
use Rattle.algebra.specs.Lists.{those_length, up_from_length, padded_fits}
use Rattle.definitions.specs.declared.Point.{Point}
use Rattle.definitions.specs.Shape.{Line, Block, meets, nw_of, ne_of, sw_of, se_of}
use Rattle.definitions.specs.Tree.{Rule, tree, Tree, leaf, divided, block, listed, tree_by, nodes_of, listings_of}
use Rattle.definitions.specs.Tables.{slots_of, is_live, live_slots, live_lines, node_table, listing_table}
use Rattle.definitions.specs.Lookup.{Leaf, leaf_at}
use Rattle.walk.specs.Index.{Short, after_listings, ne_at, sw_at, se_at, ne_first, sw_first, se_first, Stands, leaf_stands, sons_stand, Standing}

-- ---- Sizes

pub divided_nodes : (nw ne sw se : Tree) → length (nodes_of (divided nw ne sw se)) ≡ 1 + length (nodes_of nw) + length (nodes_of ne) + length (nodes_of sw) + length (nodes_of se)
unfolding nodes_of
divided_nodes nw ne sw se = simp length-append (omega arith)

pub divided_listings : (nw ne sw se : Tree) → length (listings_of (divided nw ne sw se)) ≡ length (listings_of nw) + length (listings_of ne) + length (listings_of sw) + length (listings_of se)
unfolding listings_of
divided_listings nw ne sw se = simp length-append (omega arith)

pub some_node : (t : Tree) → 1 ≤ length (nodes_of t)
unfolding nodes_of
some_node (leaf slots) = omega arith
some_node (divided nw ne sw se) = omega (arith, divided_nodes nw ne sw se)

-- a tree's own node is in the table
pub there : {nodes : List ℕ} {t : Tree} {n f : ℕ} → Standing nodes t n f → n < length nodes
there {nodes} {t} h = omega (arith, some_node t)

-- ---- The leaf of a point

-- what holds of the leaf in each son holds of the leaf
pub leaf_cases : (P : Leaf → Type 0) (p : Point) (nw ne sw se : Tree) (k : Block) (f : ℕ) →
    P (leaf_at p nw (nw_of k) f) →
    P (leaf_at p ne (ne_of k) (ne_first f nw)) →
    P (leaf_at p sw (sw_of k) (sw_first f nw ne)) →
    P (leaf_at p se (se_of k) (se_first f nw ne sw)) →
    P (leaf_at p (divided nw ne sw se) k f)
unfolding leaf_at
leaf_cases P p nw ne sw se k f a b c d = go (ltb p.x.0 (k.west + k.side / 2)) (ltb p.y.0 (k.south + k.side / 2))
  where
    go : (x y : Bool) → P (elim x [
      | true ↦ elim y [ true ↦ leaf_at p sw (sw_of k) (sw_first f nw ne) | false ↦ leaf_at p nw (nw_of k) f ]
      | false ↦ elim y [ true ↦ leaf_at p se (se_of k) (se_first f nw ne sw) | false ↦ leaf_at p ne (ne_of k) (ne_first f nw) ]
    ])
    go true true = c
    go true false = a
    go false true = d
    go false false = b

-- the listings of the leaf lie among those of the tree
pub leaf_within : (p : Point) (t : Tree) (k : Block) (f : ℕ) → (leaf_at p t k f).first + (leaf_at p t k f).lists ≤ after_listings t f
unfolding leaf_at listings_of
leaf_within p (leaf slots) k f = omega arith
leaf_within p (divided nw ne sw se) k f =
    let z : length (listings_of (divided nw ne sw se)) ≡ length (listings_of nw) + length (listings_of ne) + length (listings_of sw) + length (listings_of se) = divided_listings nw ne sw se in
    leaf_cases (λ l. l.first + l.lists ≤ after_listings (divided nw ne sw se) f) p nw ne sw se k f
    (omega (arith, leaf_within p nw (nw_of k) f))
    (omega (arith, leaf_within p ne (ne_of k) (ne_first f nw)))
    (omega (arith, leaf_within p sw (sw_of k) (sw_first f nw ne)))
    (omega (arith, leaf_within p se (se_of k) (se_first f nw ne sw)))

-- ---- The tree of a map

pub listed_length : (lines : List Line) (k : Block) → length (listed lines k) ≤ length lines
unfolding listed
listed_length lines k = rw length-map (those_length (meets k) lines)

-- no leaf lists more lines than there are
pub short : (rule : Rule) (lines : List Line) → length lines < 65535 → (n west south : ℕ) → Short (tree_by rule lines n west south)
unfolding Short tree_by
short rule lines h zero west south = omega (arith, listed_length lines (block zero west south))
short rule lines h (suc n) west south = go (rule (block (suc n) west south) lines) (λ w s. short rule lines h n w s)
  where
    go : (b : Bool) → ((w s : ℕ) → Short (tree_by rule lines n w s)) → Short (elim b [
      | true ↦ leaf (listed lines (block (suc n) west south))
      | false ↦ let h = 2 ^ suc n in divided
          (tree_by rule lines n west (south + h))
          (tree_by rule lines n (west + h) (south + h))
          (tree_by rule lines n west south)
          (tree_by rule lines n (west + h) south)
    ])
    go true f = omega (arith, listed_length lines (block (suc n) west south))
    go false f = (f west (south + 2 ^ suc n), f (west + 2 ^ suc n) (south + 2 ^ suc n), f west south, f (west + 2 ^ suc n) south)

-- ---- A list in a table

part_next : (l t rest : List ℕ) (n : ℕ) → drop n l ≡ t ++ rest → drop (n + length t) l ≡ rest
part_next l t rest n e = sym (drop-drop (length t) n l) ∙ ap (drop (length t)) e ∙ drop-append_seam t rest

part_first : (l rest : List ℕ) (n v : ℕ) → drop n l ≡ v ∷ rest → get_or l n 0 ≡ v
part_first l rest n v e = rw (add-zero) at (sym (get_or-drop n l 0 0) ∙ ap (λ x. get_or x 0 0) e)

stands : (l : List ℕ) (t : Tree) (n : ℕ) (rest : List ℕ) → Short t → drop n l ≡ nodes_of t ++ rest → Stands l t n
unfolding Short nodes_of
stands l (leaf slots) n rest h e = leaf_stands (part_first l rest n (length slots) e) h
stands l (divided nw ne sw se) n rest h e =
    let r₃ : List ℕ = nodes_of se ++ rest in
    let r₂ : List ℕ = nodes_of sw ++ r₃ in
    let r₁ : List ℕ = nodes_of ne ++ r₂ in
    let e₀ : drop n l ≡ 65535 ∷ nodes_of nw ++ r₁ = e ∙ simp append_assoc in
    let e₁ : drop (n + 1) l ≡ nodes_of nw ++ r₁ = part_next l (65535 ∷ []) (nodes_of nw ++ r₁) n e₀ in
    let e₂ : drop (ne_at n nw) l ≡ r₁ = part_next l (nodes_of nw) r₁ (n + 1) e₁ in
    let e₃ : drop (sw_at n nw ne) l ≡ r₂ = part_next l (nodes_of ne) r₂ (ne_at n nw) e₂ in
    let e₄ : drop (se_at n nw ne sw) l ≡ r₃ = part_next l (nodes_of sw) r₃ (sw_at n nw ne) e₃ in
    sons_stand (part_first l (nodes_of nw ++ r₁) n 65535 e₀)
    (stands l nw (n + 1) r₁ h.0 e₁)
    (stands l ne (ne_at n nw) r₂ h.1 e₂)
    (stands l sw (sw_at n nw ne) r₃ h.2 e₃)
    (stands l se (se_at n nw ne sw) rest h.3 e₄)

-- a node table that holds the tree
pub standing : (nodes : List ℕ) (t : Tree) → Short t → nodes ≡ padded (length nodes) (nodes_of t) → length (listings_of t) ≤ 16384 → Standing nodes t 0 0
unfolding padded
standing nodes t h e j =
    record {
      stands = stands nodes t 0 (replicate (length nodes - length (nodes_of t)) 0) h e;
      nodes_fit = omega (arith, padded_fits (length nodes) (nodes_of t) (sym (ap length e)));
      listings_fit = omega arith;
    }

-- ---- The tables of a map

few_lines : (lines : List ℕ) → length (live_lines lines) ≤ length lines
unfolding live_lines live_slots slots_of
few_lines lines = simp length-map (omega (arith, those_length (is_live lines) (up_from 0 (length lines / 8)), up_from_length 0 (length lines / 8)))

-- the tree of the live lines stands in their node table
pub map_standing : (rule : Rule) (lines nodes listings : List ℕ) → length lines ≤ 8192 → length listings ≤ 16384 →
    nodes ≡ node_table rule (length nodes) lines → listings ≡ listing_table rule (length listings) lines →
    Standing nodes (tree rule (live_lines lines)) 0 0
unfolding tree node_table listing_table
map_standing rule lines nodes listings h i e j =
    standing nodes (tree rule (live_lines lines))
    (short rule (live_lines lines) (omega (arith, few_lines lines)) 14 0 0)
    e
    (omega (arith, padded_fits (length listings) (listings_of (tree rule (live_lines lines))) (sym (ap length j))))
