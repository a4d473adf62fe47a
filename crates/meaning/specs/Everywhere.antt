-- Every point of the map lies in a leaf, whatever the rule.
use Rattle.std.specs.Prelude.{◌≡◌, Bool, true, false, List}
use Rattle.std.proofs.Math.Path.{refl}
use Prim.Native.Nat.{ℕ, zero, suc, ◌+◌, ◌^◌}
use Rattle.definitions.specs.Shape.{Line, Block, whole_map}
use Rattle.definitions.specs.Tree.{Rule, Tree, leaf, listed, block, tree_by, tree}
use Rattle.definitions.specs.Meaning.{Spot, InBlock, LeafAt, here}
use Rattle.meaning.specs.Leaves.{Quarter, nw, ne, sw, se, quarter, to_nw, to_ne, to_sw, to_se}
use Rattle.meaning.specs.Rules.{by_leaf, by_divided}

-- some leaf of the tree over a block holds the spot
pub record Holds (p : Spot) (root : Block) (t : Tree) : Type 0 where
  pub place : Block
  pub list : List ℕ
  pub is_leaf : LeafAt root t place list
  pub holds : InBlock p place

module _ (rule : Rule) (lines : List Line) (p : Spot) where
  abbrev Goal : ℕ → ℕ → ℕ → Type 0
  Goal n w s = Holds p (block n w s) (tree_by rule lines n w s)

  own : (k : Block) → InBlock p k → Holds p k (leaf (listed lines k))
  own k b = record { place = k; list = listed lines k; is_leaf = here refl refl; holds = b }

  held_at : (n w s : ℕ) → InBlock p (block n w s) → Goal n w s
  unfolding tree_by
  held_at zero w s b = own (block zero w s) b
  held_at (suc n) w s b =
      go (rule (block (suc n) w s) lines) refl (quarter p n w s b) (held_at n w (s + 2 ^ suc n)) (held_at n (w + 2 ^ suc n) (s + 2 ^ suc n)) (held_at n w s) (held_at n (w + 2 ^ suc n) s)
    where
      At : ℕ → ℕ → Type 0
      At x y = InBlock p (block n x y) → Goal n x y

      go : (t : Bool) → rule (block (suc n) w s) lines ≡ t → Quarter p n w s → At w (s + 2 ^ suc n) → At (w + 2 ^ suc n) (s + 2 ^ suc n) → At w s → At (w + 2 ^ suc n) s → Goal (suc n) w s
      go true e q a b' c d = rw (by_leaf rule lines n w s e) (own (block (suc n) w s) b)
      go false e (nw i) a b' c d = rw (by_divided rule lines n w s e) (let h = a i in record { place = h.place; list = h.list; is_leaf = to_nw n w s h.is_leaf; holds = h.holds })
      go false e (ne i) a b' c d = rw (by_divided rule lines n w s e) (let h = b' i in record { place = h.place; list = h.list; is_leaf = to_ne n w s h.is_leaf; holds = h.holds })
      go false e (sw i) a b' c d = rw (by_divided rule lines n w s e) (let h = c i in record { place = h.place; list = h.list; is_leaf = to_sw n w s h.is_leaf; holds = h.holds })
      go false e (se i) a b' c d = rw (by_divided rule lines n w s e) (let h = d i in record { place = h.place; list = h.list; is_leaf = to_se n w s h.is_leaf; holds = h.holds })

  pub in_a_leaf : InBlock p whole_map → Holds p whole_map (tree rule lines)
  unfolding tree
  in_a_leaf b = held_at 14 0 0 b
