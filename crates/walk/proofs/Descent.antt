-- The laws of the descent: each step goes into the son that holds the point, and the leaf that is sought stays the same.
use mathlib.Core.Path.{◌≡◌, sym, ◌∙◌}
use mathlib.Core.List.{List, [], ◌∷◌}
use Prim.Native.Nat.{ℕ, ◌+◌, ◌*◌, ◌/◌, ◌≤◌, ◌<◌}
use native.Mathlib.Nat.{add-zero}
use native.Mathlib.Omega.{arith}
use lib.ListN.{get_or}
use borrow.Author.Tests.{lt-ltb, le-ltb}
use Rattle.definitions.specs.declared.Point.{Point}
use Rattle.definitions.specs.Shape.{Block, nw_of, ne_of, sw_of, se_of}
use Rattle.definitions.specs.Tree.{Tree, divided}
use Rattle.definitions.specs.Lookup.{Leaf as LeafOfMap, leaf_at}
use Rattle.walk.specs.Index.{ne_first, sw_first, se_first, Stands, leaf_stands, sons_stand, Standing, Indexed, leaf_indexed, sons_indexed, SonOver, in_nw, in_ne, in_sw, in_se}
use Rattle.walk.proofs.Filling.{Row, none, one, four}

abbrev square : ℕ → ℕ → ℕ → Block
square west south side = record { west = west; south = south; side = side }

-- a walk down to node n, a block with this corner and side, where the leaf that is sought is still this one
pub record Reached (nodes index : List ℕ) (p : Point) (sought : LeafOfMap) (n west south side : ℕ) : Type 0 where
  pub tree : Tree
  pub first : ℕ
  pub standing : Standing nodes tree n first
  pub indexed : Indexed index tree n first
  pub same : sought ≡ leaf_at p tree (square west south side) first

module _ (p : Point) (nw ne sw se : Tree) (k : Block) (f : ℕ) where
  abbrev here : LeafOfMap
  here = leaf_at p (divided nw ne sw se) k f

  to_nw : p.x.0 < k.west + k.side / 2 → k.south + k.side / 2 ≤ p.y.0 → here ≡ leaf_at p nw (nw_of k) f
  unfolding leaf_at
  to_nw h i = rw (lt-ltb _ _ h, le-ltb _ _ i, leaf_at)

  to_ne : k.west + k.side / 2 ≤ p.x.0 → k.south + k.side / 2 ≤ p.y.0 → here ≡ leaf_at p ne (ne_of k) (ne_first f nw)
  unfolding leaf_at
  to_ne h i = rw (le-ltb _ _ h, le-ltb _ _ i, leaf_at)

  to_sw : p.x.0 < k.west + k.side / 2 → p.y.0 < k.south + k.side / 2 → here ≡ leaf_at p sw (sw_of k) (sw_first f nw ne)
  unfolding leaf_at
  to_sw h i = rw (lt-ltb _ _ h, lt-ltb _ _ i, leaf_at)

  to_se : k.west + k.side / 2 ≤ p.x.0 → p.y.0 < k.south + k.side / 2 → here ≡ leaf_at p se (se_of k) (se_first f nw ne sw)
  unfolding leaf_at
  to_se h i = rw (le-ltb _ _ h, lt-ltb _ _ i, leaf_at)

-- the son's number, and a corner within the block
pub son_within : {p : Point} {west south side q w s : ℕ} → SonOver p west south side q w s → (q < 4) × (w ≤ west + side) × (s ≤ south + side)
son_within (in_nw h k) = (omega arith, omega arith, omega arith)
son_within (in_ne h k) = (omega arith, omega arith, omega arith)
son_within (in_sw h k) = (omega arith, omega arith, omega arith)
son_within (in_se h k) = (omega arith, omega arith, omega arith)

-- one step down, into the son that holds p
pub descend : {nodes index : List ℕ} {p : Point} {sought : LeafOfMap} {n west south q w s : ℕ} (side : ℕ) → Reached nodes index p sought n west south side → get_or nodes n 0 ≡ 65535 →
    SonOver p west south (side / 2) q w s → (n < get_or index (4 * n + q) 0) × Reached nodes index p sought (get_or index (4 * n + q) 0) w s (side / 2)
descend {nodes} {index} {p} {sought} {n} {west} {south} {q} {w} {s} side r e o =
    let u = four r.standing e in go u.row (rw u.whole at r.indexed) (rw u.whole at r.same) o
  where
    go : {nw ne sw se : Tree} {f q w s : ℕ} → Row nodes n (nw ∷ ne ∷ sw ∷ se ∷ []) (n + 1) f → Indexed index (divided nw ne sw se) n f → sought ≡ here p nw ne sw se (square west south side) f →
        SonOver p west south (side / 2) q w s → (n < get_or index (4 * n + q) 0) × Reached nodes index p sought (get_or index (4 * n + q) 0) w s (side / 2)
    go {nw} {ne} {sw} {se} {f} (one h₁ a (one h₂ b (one h₃ c (one h₄ d none)))) (sons_indexed i x y z v) m (in_nw h k) =
        (rw (add-zero, i.first) h₁, record { tree = nw; first = f; standing = rw (add-zero, i.first) a; indexed = rw (add-zero, i.first) x; same = m ∙ to_nw p nw ne sw se (square west south side) f h k })
    go {nw} {ne} {sw} {se} {f} (one h₁ a (one h₂ b (one h₃ c (one h₄ d none)))) (sons_indexed i x y z v) m (in_ne h k) =
        (rw i.second h₂, record { tree = ne; first = ne_first f nw; standing = rw i.second b; indexed = rw i.second y; same = m ∙ to_ne p nw ne sw se (square west south side) f h k })
    go {nw} {ne} {sw} {se} {f} (one h₁ a (one h₂ b (one h₃ c (one h₄ d none)))) (sons_indexed i x y z v) m (in_sw h k) =
        (rw i.third h₃, record { tree = sw; first = sw_first f nw ne; standing = rw i.third c; indexed = rw i.third z; same = m ∙ to_sw p nw ne sw se (square west south side) f h k })
    go {nw} {ne} {sw} {se} {f} (one h₁ a (one h₂ b (one h₃ c (one h₄ d none)))) (sons_indexed i x y z v) m (in_se h k) =
        (rw i.fourth h₄, record { tree = se; first = se_first f nw ne sw; standing = rw i.fourth d; indexed = rw i.fourth v; same = m ∙ to_se p nw ne sw se (square west south side) f h k })

-- at a leaf, it is the one that is sought
pub arrive : {nodes index : List ℕ} {p : Point} {sought : LeafOfMap} {n west south side : ℕ} → Reached nodes index p sought n west south side → (get_or nodes n 0 ≡ 65535 → ⊥) →
    record { place = square west south side; first = get_or index (4 * n) 0; lists = get_or nodes n 0 } ≡ sought
unfolding leaf_at
arrive {nodes} {index} {p} {sought} {n} {west} {south} {side} r e = go r.standing.stands r.indexed r.same
  where
    go : {t : Tree} {f : ℕ} → Stands nodes t n → Indexed index t n f → sought ≡ leaf_at p t (square west south side) f →
        record { place = square west south side; first = get_or index (4 * n) 0; lists = get_or nodes n 0 } ≡ sought
    go (leaf_stands x y) (leaf_indexed z) m = rw (x, z) (sym m)
    go (sons_stand x a b c d) i m = absurd (e x)
