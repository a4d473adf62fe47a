-- What a leaf lists; trying the lines of each leaf against each other is exact.
use Rattle.std.specs.Prelude.{◌≡◌, ◌⊎◌, ◌↔◌, Bool, true, false, not, ◌||◌, eqb}
use Rattle.std.proofs.Math.Path.{refl, ap}
use Rattle.std.proofs.Common.{sym, ◌∙◌, subst, inl, inr, eqb-true}
use mathlib.Core.List.{List, Memᴰ}
use Prim.Native.Nat.{ℕ, zero, suc, ◌+◌, ◌^◌}
use Rattle.algebra.specs.Lists.{every→}
use Rattle.algebra.specs.Tests.{or_cases}
use Rattle.algebra.specs.Words.{every}
use Rattle.definitions.specs.Meaning.{LeafAt, here, in_nw, in_ne, in_sw, in_se}
use Rattle.definitions.specs.Shape.{Line, Block, conflict}
use Rattle.definitions.specs.Tables.{slots_of, live_slots, line_at, live_lines, slot_sound, none_conflict}
use Rattle.definitions.specs.Tree.{leaf, listed, block, tree, Rule, tree_by}
use Rattle.plane.specs.Blocks.{nw_is, ne_is, sw_is, se_is}
use Rattle.meaning.specs.Leaves.{listed_iff, LeafApart, leaves_suffice}
use Rattle.meaning.specs.Rules.{by_leaf, by_divided, sons_by}
use mathlib.Core.List.{List, Memᴰ}
use Prim.Native.Nat.{ℕ, zero, suc, ◌+◌, ◌^◌}
use mathlib.Core.List.{List, Memᴰ}
use Prim.Native.Nat.{ℕ, zero, suc, ◌+◌, ◌^◌}

pub leaf_is : {k j : Block} {slots list : List ℕ} → LeafAt k (leaf slots) j list → (j ≡ k) × (list ≡ slots)
leaf_is (here e f) = (e, f)

-- every leaf lists the lines that meet its block
module _ (rule : Rule) (ls : List Line) (j : Block) (list : List ℕ) where
  pub leaf_lists : (n w s : ℕ) → LeafAt (block n w s) (tree_by rule ls n w s) j list → list ≡ listed ls j
  unfolding tree_by
  leaf_lists zero w s h = let e = leaf_is h in e.1 ∙ ap (listed ls) (sym e.0)
  leaf_lists (suc n) w s h =
      go (rule (block (suc n) w s) ls) refl (leaf_lists n w (s + 2 ^ suc n)) (leaf_lists n (w + 2 ^ suc n) (s + 2 ^ suc n)) (leaf_lists n w s) (leaf_lists n (w + 2 ^ suc n) s)
    where
      Son : ℕ → ℕ → Type 0
      Son x y = LeafAt (block n x y) (tree_by rule ls n x y) j list → list ≡ listed ls j

      walk : Son w (s + 2 ^ suc n) → Son (w + 2 ^ suc n) (s + 2 ^ suc n) → Son w s → Son (w + 2 ^ suc n) s → LeafAt (block (suc n) w s) (sons_by rule ls n w s) j list → list ≡ listed ls j
      walk f g i k (in_nw q) = f (subst (λ (x : Block). LeafAt x (tree_by rule ls n w (s + 2 ^ suc n)) j list) (nw_is n w s) q)
      walk f g i k (in_ne q) = g (subst (λ (x : Block). LeafAt x (tree_by rule ls n (w + 2 ^ suc n) (s + 2 ^ suc n)) j list) (ne_is n w s) q)
      walk f g i k (in_sw q) = i (subst (λ (x : Block). LeafAt x (tree_by rule ls n w s) j list) (sw_is n w s) q)
      walk f g i k (in_se q) = k (subst (λ (x : Block). LeafAt x (tree_by rule ls n (w + 2 ^ suc n) s) j list) (se_is n w s) q)

      go : (b : Bool) → rule (block (suc n) w s) ls ≡ b → Son w (s + 2 ^ suc n) → Son (w + 2 ^ suc n) (s + 2 ^ suc n) → Son w s → Son (w + 2 ^ suc n) s → list ≡ listed ls j
      go true q f g i k = let e = leaf_is (rw (by_leaf rule ls n w s q) at h) in e.1 ∙ ap (listed ls) (sym e.0)
      go false q f g i k = walk f g i k (rw (by_divided rule ls n w s q) at h)

-- trying the lines of each leaf against each other is exact
pub apart_leaves : (rule : Rule) (lines : List ℕ) → none_conflict lines ≡ true → LeafApart lines (tree rule (live_lines lines))
unfolding none_conflict tree
apart_leaves rule lines e k slots h x y mx my =
    split (or_cases (eqb x y) (not (conflict (line_at lines x) (line_at lines y)))
    (every→ (λ u. eqb x u || not (conflict (line_at lines x) (line_at lines u))) (live_slots lines)
    (every→ (λ w. every (λ u. eqb w u || not (conflict (line_at lines w) (line_at lines u))) (live_slots lines)) (live_slots lines) e (alive x mx)) (alive y my)))
  where
    is : slots ≡ listed (live_lines lines) k
    is = leaf_lists rule (live_lines lines) k slots 14 0 0 h

    alive : (z : ℕ) → Memᴰ z slots → Memᴰ z (live_slots lines)
    alive z m = ((listed_iff lines k z).0 (subst (λ (zs : List ℕ). Memᴰ z zs) is m)).0

    flip : (b : Bool) → not b ≡ true → b ≡ false
    flip true q = sym q
    flip false q = refl

    split : (eqb x y ≡ true) ⊎ (not (conflict (line_at lines x) (line_at lines y)) ≡ true) → (x ≡ y) ⊎ (conflict (line_at lines x) (line_at lines y) ≡ false)
    split (inl q) = inl (eqb-true x y q)
    split (inr q) = inr (flip _ q)

pub leaves_exact : (rule : Rule) (lines : List ℕ) → every (slot_sound lines) (slots_of lines) ≡ true → LeafApart lines (tree rule (live_lines lines)) ↔ (none_conflict lines ≡ true)
leaves_exact rule lines ok = (leaves_suffice rule lines ok, apart_leaves rule lines)
