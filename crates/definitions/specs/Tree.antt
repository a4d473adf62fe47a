-- The rule of division, the tree, and its two lists.
use Rattle.std.specs.Prelude.{Bool, true, false, ◌&&◌, List, [], ◌∷◌, ◌++◌, map, ℕ, zero, suc, ◌+◌, ◌^◌, length, leb}
use Rattle.algebra.specs.Words.{those, every}
use Rattle.definitions.specs.declared.Point.{Point}
use Rattle.definitions.specs.Shape.{Line, Block, meets, inside, same_point, is_end}

unfoldable pub ends_of : List Line → List Point
ends_of [] = []
ends_of (l ∷ ls) = l.a ∷ l.b ∷ ends_of ls

-- C3 where no end lies in the block; else C1 and C2'
unfoldable pub simple_with : List Point → List Line → Bool
simple_with [] meeting = leb (length meeting) 1
simple_with (p ∷ ps) meeting = every (same_point p) ps && every (is_end p) meeting

unfoldable pub simple : List Line → Block → Bool
simple lines k = simple_with (those (inside k) (ends_of lines)) (those (meets k) lines)

-- a rule of division: whether a block is left whole
abbrev pub Rule : Type 0
Rule = Block → List Line → Bool

-- the base rule, rule 1
unfoldable pub base_rule : Rule
base_rule k lines = simple lines k

pub data Tree : Type 0 where
  leaf : List ℕ → Tree
  divided : Tree → Tree → Tree → Tree → Tree

-- the slots of the lines that meet the block, by rising slot
unfoldable pub listed : List Line → Block → List ℕ
listed lines k = map (λ l. l.slot) (those (meets k) lines)

-- the block at level n has side 2 ^ (n + 1): 2 at level 0, 32,768 at level 14
abbrev pub block : ℕ → ℕ → ℕ → Block
block n west south = record { west = west; south = south; side = 2 ^ suc n }

-- a block of side 2 is never divided; a larger one unless the rule leaves it whole; the sons in the order NW, NE, SW, SE
unfoldable pub tree_by : Rule → List Line → ℕ → ℕ → ℕ → Tree
tree_by rule lines zero west south = leaf (listed lines (block zero west south))
tree_by rule lines (suc n) west south =
    elim (rule (block (suc n) west south) lines) [
      | true ↦ leaf (listed lines (block (suc n) west south))
      | false ↦ let h = 2 ^ suc n in divided
          (tree_by rule lines n west (south + h))
          (tree_by rule lines n (west + h) (south + h))
          (tree_by rule lines n west south)
          (tree_by rule lines n (west + h) south)
    ]

unfoldable pub tree : Rule → List Line → Tree
tree rule lines = tree_by rule lines 14 0 0

-- preorder: 65,535 for a divided block, for a leaf how many it lists
unfoldable pub nodes_of : Tree → List ℕ
nodes_of (leaf slots) = length slots ∷ []
nodes_of (divided nw ne sw se) = 65535 ∷ nodes_of nw ++ nodes_of ne ++ nodes_of sw ++ nodes_of se

-- the leaves' slots, one leaf after another
unfoldable pub listings_of : Tree → List ℕ
listings_of (leaf slots) = slots
listings_of (divided nw ne sw se) = listings_of nw ++ listings_of ne ++ listings_of sw ++ listings_of se
