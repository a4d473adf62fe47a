-- Show leaf: the leaf found holds the point and is a leaf of the tree, and the part is its list.
use Rattle.std.specs.Prelude.{◌≡◌, Bool, true, false, ltb, take, drop, Ok}
use Rattle.std.proofs.Math.Path.{refl}
use Rattle.std.proofs.Common.{◌∙◌, ap, arith, length-append, take_at, drop_at}
use mathlib.Core.List.{List, ◌++◌, append_assoc}
use Prim.Native.Nat.{ℕ, suc, ◌+◌, ◌/◌, ◌≤◌, ◌<◌}
use Rattle.std.proofs.Math.ListN.{length}
use borrow.Author.Tests.{ltb-true, ltb-false}
use Rattle.definitions.specs.declared.Point.{Point}
use Rattle.definitions.specs.Lookup.{Showing, Leaf, leaf_at}
use Rattle.definitions.specs.Meaning.{In, LeafAt, here, in_nw, in_ne, in_sw, in_se, ListedFrom, at_once, from_nw, from_ne, from_sw, from_se}
use Rattle.definitions.specs.Shape.{Block, grid_point, whole_map, nw_of, ne_of, sw_of, se_of}
use Rattle.definitions.specs.Tables.{Tables, live_lines}
use Rattle.definitions.specs.Tree.{Rule, Tree, leaf, divided, block, tree, listings_of}
use Rattle.plane.specs.Blocks.{double, half_power}

-- f is a leaf of the tree, it holds p, and its part of the listings is its list
pub record Found (p : Point) (root : Block) (t : Tree) (f : Leaf) (listings : List ℕ) : Type 0 where
  pub list : List ℕ
  pub is_leaf : LeafAt root t f.place list
  pub holds : In f.place p
  pub part : take f.lists (drop f.first listings) ≡ list

-- what the search over a tree is to find, wherever its listings stand
abbrev pub Finds : Point → Block → Tree → Type 0
Finds p k t =
    (before after : List ℕ) (first : ℕ) (listings : List ℕ) → length before ≡ first → listings ≡ before ++ (listings_of t ++ after) → In k p
    → Found p k t (leaf_at p t k first) listings

pub finds_leaf : (p : Point) (k : Block) (slots : List ℕ) → Finds p k (leaf slots)
unfolding leaf_at listings_of
finds_leaf p k slots before after first listings e f i =
    record {
      list = slots;
      is_leaf = here refl refl;
      holds = i;
      part = ap (λ (l : List ℕ). take (length slots) (drop first l)) f ∙ ap (take (length slots)) (drop_at before (slots ++ after) first e) ∙ take_at slots after (length slots) refl;
    }

-- a leaf of a quarter is a leaf of the block
module _ {p : Point} {k : Block} {a b c d : Tree} {f : Leaf} {listings : List ℕ} where
  up_nw : Found p (nw_of k) a f listings → Found p k (divided a b c d) f listings
  up_nw r = record { list = r.list; is_leaf = in_nw r.is_leaf; holds = r.holds; part = r.part }

  up_ne : Found p (ne_of k) b f listings → Found p k (divided a b c d) f listings
  up_ne r = record { list = r.list; is_leaf = in_ne r.is_leaf; holds = r.holds; part = r.part }

  up_sw : Found p (sw_of k) c f listings → Found p k (divided a b c d) f listings
  up_sw r = record { list = r.list; is_leaf = in_sw r.is_leaf; holds = r.holds; part = r.part }

  up_se : Found p (se_of k) d f listings → Found p k (divided a b c d) f listings
  up_se r = record { list = r.list; is_leaf = in_se r.is_leaf; holds = r.holds; part = r.part }

module _ (p : Point) (n w s : ℕ) (a b c d : Tree)
    (fa : Finds p (nw_of (block (suc n) w s)) a) (fb : Finds p (ne_of (block (suc n) w s)) b) (fc : Finds p (sw_of (block (suc n) w s)) c) (fd : Finds p (se_of (block (suc n) w s)) d) where
  abbrev k : Block
  k = block (suc n) w s

  abbrev h : ℕ
  h = k.side / 2

  twice : h + h ≡ k.side
  twice = omega (arith, half_power n, double (suc n))

  pub finds_four : Finds p k (divided a b c d)
  unfolding leaf_at listings_of
  finds_four before after first listings e f i = go (ltb p.x.0 (w + h)) refl (ltb p.y.0 (s + h)) refl
    where
      la : List ℕ
      la = listings_of a

      lb : List ℕ
      lb = listings_of b

      lc : List ℕ
      lc = listings_of c

      ld : List ℕ
      ld = listings_of d

      nw_found : p.x.0 < w + h → s + h ≤ p.y.0 → Found p k (divided a b c d) (leaf_at p a (nw_of k) first) listings
      nw_found x y =
          up_nw (fa before (lb ++ (lc ++ (ld ++ after))) first listings e (f ∙ simp append_assoc)
          (record { from_west = i.from_west; to_east = omega arith; from_south = y; to_north = omega (arith, i.to_north, twice) }))

      ne_found : w + h ≤ p.x.0 → s + h ≤ p.y.0 → Found p k (divided a b c d) (leaf_at p b (ne_of k) (first + length la)) listings
      ne_found x y =
          up_ne (fb (before ++ la) (lc ++ (ld ++ after)) (first + length la) listings (simp length-append (omega arith)) (f ∙ simp append_assoc)
          (record { from_west = x; to_east = omega (arith, i.to_east, twice); from_south = y; to_north = omega (arith, i.to_north, twice) }))

      sw_found : p.x.0 < w + h → p.y.0 < s + h → Found p k (divided a b c d) (leaf_at p c (sw_of k) (first + length la + length lb)) listings
      sw_found x y =
          up_sw (fc (before ++ la ++ lb) (ld ++ after) (first + length la + length lb) listings (simp length-append (omega arith)) (f ∙ simp append_assoc)
          (record { from_west = i.from_west; to_east = omega arith; from_south = i.from_south; to_north = omega arith }))

      se_found : w + h ≤ p.x.0 → p.y.0 < s + h → Found p k (divided a b c d) (leaf_at p d (se_of k) (first + length la + length lb + length lc)) listings
      se_found x y =
          up_se (fd (before ++ la ++ lb ++ lc) after (first + length la + length lb + length lc) listings (simp length-append (omega arith)) (f ∙ simp append_assoc)
          (record { from_west = x; to_east = omega (arith, i.to_east, twice); from_south = i.from_south; to_north = omega arith }))

      pick : Bool → Bool → Leaf
      pick t u =
          elim t [
            | true ↦ elim u [
              | true ↦ leaf_at p c (sw_of k) (first + length la + length lb)
              | false ↦ leaf_at p a (nw_of k) first
            ]
            | false ↦ elim u [
              | true ↦ leaf_at p d (se_of k) (first + length la + length lb + length lc)
              | false ↦ leaf_at p b (ne_of k) (first + length la)
            ]
          ]

      go : (t : Bool) → ltb p.x.0 (w + h) ≡ t → (u : Bool) → ltb p.y.0 (s + h) ≡ u → Found p k (divided a b c d) (pick t u) listings
      go true x true y = sw_found (ltb-true _ _ x) (ltb-true _ _ y)
      go true x false y = nw_found (ltb-true _ _ x) (ltb-false _ _ y)
      go false x true y = se_found (ltb-false _ _ x) (ltb-true _ _ y)
      go false x false y = ne_found (ltb-false _ _ x) (ltb-false _ _ y)

-- where the search over a tree comes to, if the tree's listings start at first
abbrev pub Starts : Block → Tree → ℕ → Leaf → Type 0
Starts k t first f = (n : ℕ) × (f.first ≡ first + n) × ListedFrom k t f.place n

pub listed_from : (p : Point) (t : Tree) (k : Block) (first : ℕ) → Starts k t first (leaf_at p t k first)
unfolding leaf_at
listed_from p (leaf slots) k first = (0, omega arith, at_once refl refl)
listed_from p (divided a b c d) k first =
    go (ltb p.x.0 (k.west + k.side / 2)) (ltb p.y.0 (k.south + k.side / 2))
    (listed_from p a (nw_of k) first) (listed_from p b (ne_of k) (first + la)) (listed_from p c (sw_of k) (first + la + lb)) (listed_from p d (se_of k) (first + la + lb + lc))
  where
    la : ℕ
    la = length (listings_of a)

    lb : ℕ
    lb = length (listings_of b)

    lc : ℕ
    lc = length (listings_of c)

    pick : Bool → Bool → Leaf
    pick t u =
        elim t [
          | true ↦ elim u [ true ↦ leaf_at p c (sw_of k) (first + la + lb) | false ↦ leaf_at p a (nw_of k) first ]
          | false ↦ elim u [ true ↦ leaf_at p d (se_of k) (first + la + lb + lc) | false ↦ leaf_at p b (ne_of k) (first + la) ]
        ]

    go : (t u : Bool) → Starts (nw_of k) a first (leaf_at p a (nw_of k) first) → Starts (ne_of k) b (first + la) (leaf_at p b (ne_of k) (first + la))
        → Starts (sw_of k) c (first + la + lb) (leaf_at p c (sw_of k) (first + la + lb)) → Starts (se_of k) d (first + la + lb + lc) (leaf_at p d (se_of k) (first + la + lb + lc))
        → Starts k (divided a b c d) first (pick t u)
    go true true nw ne sw se = (la + lb + sw.0, omega (arith, sw.1), from_sw sw.2 refl)
    go true false nw ne sw se = (nw.0, nw.1, from_nw nw.2)
    go false true nw ne sw se = (la + lb + lc + se.0, omega (arith, se.1), from_se se.2 refl)
    go false false nw ne sw se = (la + ne.0, omega (arith, ne.1), from_ne ne.2 refl)

-- Show leaf on a sound map: the block is that of the leaf that holds the point, and the part is its list, where it stands in the listing table
pub record ShowsLeaf (rule : Rule) (t : Tables) (x y : ℕ) (place : Block) (r : Showing) : Type 0 where
  pub tells : r.told ≡ record { answer = Ok 0; side = place.side; west = record { 0 = place.west }; south = record { 0 = place.south } }
  pub holds : In place (grid_point x y)
  pub is_leaf : LeafAt whole_map (tree rule (live_lines t.lines)) place r.part
  pub from : ListedFrom whole_map (tree rule (live_lines t.lines)) place r.first
