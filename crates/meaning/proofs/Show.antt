-- Show leaf: on a sound map the leaf found holds the point, and the part is its list.
use Rattle.std.specs.Prelude.{◌≡◌, Bool, true, false, ◌&&◌}
use Rattle.std.proofs.Math.Path.{refl}
use Rattle.std.proofs.Common.{sym, subst, arith}
use mathlib.Core.List.{List, [], ◌++◌}
use Prim.Native.Nat.{ℕ, zero, suc, ◌+◌, ◌-◌, ◌^◌}
use Rattle.std.proofs.Math.ListN.{length, replicate}
use borrow.Author.Tests.{leb-true}
use Rattle.definitions.specs.declared.Point.{Point}
use Rattle.algebra.specs.Tests.{and_l, and_r}
use Rattle.algebra.specs.Words.{padded}
use Rattle.definitions.specs.Lookup.{leaf_at, leaf_over, show_of}
use Rattle.definitions.specs.Meaning.{LeafAt, ListedFrom}
use Rattle.definitions.specs.Shape.{Line, Block, grid_point, whole_map}
use Rattle.definitions.specs.Tables.{Tables, lengths_fit, live_lines, on_grid, listing_table}
use Rattle.definitions.specs.Tree.{Rule, Tree, listed, block, tree_by, tree, listings_of}
use Rattle.plane.specs.Blocks.{nw_is, ne_is, sw_is, se_is}
use Rattle.meaning.specs.Rules.{by_leaf, by_divided}
use Rattle.meaning.specs.Sound.{Sound, sound←}
use Rattle.meaning.specs.Show.{Found, Finds, finds_leaf, finds_four, Starts, listed_from, ShowsLeaf}

pub finds_tree : (p : Point) (rule : Rule) (ls : List Line) (n w s : ℕ) → Finds p (block n w s) (tree_by rule ls n w s)
unfolding tree_by
finds_tree p rule ls zero w s = finds_leaf p (block zero w s) (listed ls (block zero w s))
finds_tree p rule ls (suc n) w s =
    go (rule (block (suc n) w s) ls) refl (finds_tree p rule ls n w (s + 2 ^ suc n)) (finds_tree p rule ls n (w + 2 ^ suc n) (s + 2 ^ suc n)) (finds_tree p rule ls n w s) (finds_tree p rule ls n (w + 2 ^ suc n) s)
  where
    At : ℕ → ℕ → Type 0
    At x y = Finds p (block n x y) (tree_by rule ls n x y)

    go : (t : Bool) → rule (block (suc n) w s) ls ≡ t → At w (s + 2 ^ suc n) → At (w + 2 ^ suc n) (s + 2 ^ suc n) → At w s → At (w + 2 ^ suc n) s → Finds p (block (suc n) w s) (tree_by rule ls (suc n) w s)
    go true e a b c d = rw (by_leaf rule ls n w s e) (finds_leaf p (block (suc n) w s) (listed ls (block (suc n) w s)))
    go false e a b c d =
        rw (by_divided rule ls n w s e)
        (finds_four p n w s _ _ _ _
        (subst (λ (k : Block). Finds p k (tree_by rule ls n w (s + 2 ^ suc n))) (sym (nw_is n w s)) a)
        (subst (λ (k : Block). Finds p k (tree_by rule ls n (w + 2 ^ suc n) (s + 2 ^ suc n))) (sym (ne_is n w s)) b)
        (subst (λ (k : Block). Finds p k (tree_by rule ls n w s)) (sym (sw_is n w s)) c)
        (subst (λ (k : Block). Finds p k (tree_by rule ls n (w + 2 ^ suc n) s)) (sym (se_is n w s)) d))

pub show_leaf : (rule : Rule) (t : Tables) (x y : ℕ) → lengths_fit t ≡ true → Sound rule t → on_grid x && on_grid y ≡ true
    → ShowsLeaf rule t x y (leaf_over rule t x y).place (show_of rule t x y)
unfolding show_of leaf_over
show_leaf rule t x y fit sd on =
    rw (fit, sound← rule t sd, on)
    record { tells = refl; holds = found.holds; is_leaf = subst (λ (l : List ℕ). LeafAt whole_map T (place) l) (sym found.part) found.is_leaf; from = subst (ListedFrom whole_map T place) from_0 starts.2 }
  where
    T : Tree
    T = tree rule (live_lines t.lines)

    place : Block
    place = (leaf_at (grid_point x y) (tree rule (live_lines t.lines)) whole_map 0).place

    starts : Starts whole_map T 0 (leaf_at (grid_point x y) T whole_map 0)
    starts = listed_from (grid_point x y) T whole_map 0

    from_0 : starts.0 ≡ (leaf_at (grid_point x y) T whole_map 0).first
    from_0 = omega (arith, starts.1)

    found : Found (grid_point x y) whole_map (tree rule (live_lines t.lines)) (leaf_at (grid_point x y) (tree rule (live_lines t.lines)) whole_map 0) t.listings
    found =
        unfold tree in (finds_tree (grid_point x y) rule (live_lines t.lines) 14 0 0 [] _ 0 t.listings refl listings_are
        (record { from_west = omega arith; to_east = omega (arith, leb-true x 16383 (and_l (on_grid x) (on_grid y) on)); from_south = omega arith; to_north = omega (arith, leb-true y 16383 (and_r (on_grid x) (on_grid y) on)) }))
      where
        listings_are : t.listings ≡ [] ++ (listings_of (tree_by rule (live_lines t.lines) 14 0 0) ++ replicate (length t.listings - length (listings_of (tree_by rule (live_lines t.lines) 14 0 0))) 0)
        listings_are = unfold listing_table padded tree in sd.listings
