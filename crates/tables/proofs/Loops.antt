-- Two tables compared, and a test of all numbers below one.
use mathlib.Core.Path.{◌≡◌, refl, sym, ◌∙◌, subst}
use mathlib.Core.Bool.{Bool, true, false, ◌&&◌}
use mathlib.Core.List.{List, [], ◌∷◌}
use Prim.Native.Nat.{ℕ, ◌<◌}
use native.Mathlib.Omega.{arith}
use native.Mathlib.Nat.{zero-add}
use lib.Dec.{eqb}
use Rattle.std.specs.Bool.{MatchBool}
use Rattle.std.specs.Cmp.Lexicographic.{pointwise}
use Rattle.std.specs.List.{AllWithin, HoldsAt, range_with_len}
use Rattle.std.proofs.lemmas.List.FromFn.{length-range_with_len, get_or-range_with_len}
use lib.ListN.{length, get_or}
use Rattle.algebra.specs.Lists.{every→, every←, in_up_from, to_up_from}
use Rattle.algebra.specs.Tests.{false_by, no_path}
use Rattle.algebra.specs.Words.{every, up_from, same_list}

-- ---- two tables, compared entry by entry
pub same_pointwise : (a b : List ℕ) → pointwise eqb a b ≡ same_list a b
unfolding same_list
same_pointwise [] [] = refl
same_pointwise [] (y ∷ b) = refl
same_pointwise (x ∷ a) [] = refl
same_pointwise (x ∷ a) (y ∷ b) = go (eqb x y) (same_pointwise a b)
  where
    go : (t : Bool) {p q : Bool} → p ≡ q → t && p ≡ elim t [ true ↦ q | false ↦ false ]
    go true e = e
    go false e = refl

-- ---- a test of the numbers below n, by `all` over them
module _ (p : ℕ → Bool) (n : ℕ) where
  abbrev below : List ℕ
  below = range_with_len 0 n

  same_number : (k : ℕ) → k < n → get_or below k 0 ≡ k
  same_number k h = get_or-range_with_len 0 n k 0 h ∙ zero-add k

  pub every_from_all : (b : Bool)
      → MatchBool b (AllWithin (λ s. p s ≡ true) below 0 (length below)) ((k : ℕ) × (k < length below) × HoldsAt (λ s. p s ≡ false) below k)
      → b ≡ every p (up_from 0 n)
  every_from_all true m =
      sym (every← p (up_from 0 n) (λ s i. let h : s < n = omega (arith, in_up_from 0 n s i) in
      subst (λ k. p k ≡ true) (same_number s h) (m s 0 (omega arith) (rw (length-range_with_len 0 n) h))))
  every_from_all false (k, h, u) =
      let low : k < n = rw (length-range_with_len 0 n) at h in
      sym (false_by _ (λ e. no_path (sym (subst (λ i. p i ≡ false) (same_number k low) (u 0)) ∙ every→ p (up_from 0 n) e (to_up_from 0 n k (omega arith) (omega arith)))))
