-- A number by its parts over and under 0, of which one is 0; and whether it lies between two bounds.
use Rattle.std.specs.Prelude.{◌≡◌, refl, Bool, true, false, ◌&&◌, ℕ, zero, suc, ◌+◌, ◌≤◌, min, leb, ℤ, pos, negsuc, neg_ℤ, nat_abs, ◌+ℤ◌, ◌-ℤ◌}
use Rattle.std.proofs.Common.{sym, ap₂, ◌∙◌, arith, leb-true, le-leb, lt-ltb}
use Rattle.std.proofs.Math.IntN.{+ℤ_invr}
use Rattle.std.specs.Int.{int_max}
use Rattle.std.specs.Int.Signed.{le_z}
use Rattle.algebra.specs.Signs.{Is, equal_of_zero, add_is, neg_is, pos_is, one_is}
use Rattle.algebra.specs.Tests.{both_ways, no_path}
use Rattle.algebra.specs.Words.{is_negative}

unfoldable pub over_of : ℤ → ℕ
over_of (pos n) = n
over_of (negsuc n) = 0

unfoldable pub under_of : ℤ → ℕ
under_of (pos n) = 0
under_of (negsuc n) = suc n

pub parts_is : (z : ℤ) → Is z (over_of z) (under_of z)
unfolding over_of under_of
parts_is (pos n) = pos_is n
parts_is (negsuc n) = neg_is (pos_is (suc n))

pub one_part : (z : ℤ) → min (over_of z) (under_of z) ≡ 0
unfolding over_of under_of
one_part (pos n) = omega arith
one_part (negsuc n) = omega arith

pub over_most : (z : ℤ) → over_of z ≤ nat_abs z
unfolding over_of
over_most (pos n) = omega arith
over_most (negsuc n) = omega arith

-- by its sign
pub over_negative : (z : ℤ) → is_negative z ≡ true → over_of z ≡ 0
unfolding over_of
over_negative (pos n) e = no_path e
over_negative (negsuc n) e = refl

pub over_else : (z : ℤ) → is_negative z ≡ false → z ≡ pos (over_of z)
unfolding over_of
over_else (pos n) e = refl
over_else (negsuc n) e = no_path (sym e)

-- it is the greater of the number and 0
pub max_over : (z : ℤ) → int_max z (pos 0) ≡ pos (over_of z)
unfolding over_of
max_over (pos zero) = refl
max_over (pos (suc n)) = rw (lt-ltb 0 (suc n) (omega arith))
max_over (negsuc n) = refl

-- taken from a number that has its part over 0, it leaves the part under
pub less : (z : ℤ) (m k : ℕ) → m + under_of z ≡ k + over_of z → pos m -ℤ z ≡ pos k
less z m k e = one_is (add_is (pos_is m) (neg_is (parts_is z))) (pos_is k) (omega arith)

-- ---- From lo under 0 to hi over it

unfoldable pub from_to : ℕ → ℤ → ℕ → Bool
from_to lo z hi = le_z z (pos hi) && le_z (neg_ℤ z) (pos lo)

le_same : (a b c d : ℕ) → a + d ≡ c + b → leb a b ≡ leb c d
le_same a b c d e = both_ways (leb a b) (leb c d) (λ h. le-leb c d (omega (arith, leb-true a b h))) (λ h. le-leb a b (omega (arith, leb-true c d h)))

at_most : (z : ℤ) (k : ℕ) → le_z z (pos k) ≡ leb (over_of z) (under_of z + k)
unfolding over_of under_of
at_most (pos n) k = le_same n k n (0 + k) (omega arith)
at_most (negsuc n) k = sym (le-leb 0 (suc n + k) (omega arith))

at_least : (z : ℤ) (k : ℕ) → le_z (neg_ℤ z) (pos k) ≡ leb (under_of z) (over_of z + k)
unfolding over_of under_of
at_least (pos zero) k = le_same 0 k 0 (0 + k) (omega arith)
at_least (pos (suc n)) k = sym (le-leb 0 (suc n + k) (omega arith))
at_least (negsuc n) k = le_same (suc n) k (suc n) (0 + k) (omega arith)

-- of p - n
pub from_to_is : {z : ℤ} {p n : ℕ} (lo hi : ℕ) → Is z p n → from_to lo z hi ≡ leb p (n + hi) && leb n (p + lo)
unfolding from_to
from_to_is {z} {p} {n} lo hi h =
    let same : p + under_of z ≡ n + over_of z = equal_of_zero (add_is h (neg_is (parts_is z))) (+ℤ_invr z) in
    ap₂ ◌&&◌ (at_most z hi ∙ le_same (over_of z) (under_of z + hi) p (n + hi) (omega arith)) (at_least z lo ∙ le_same (under_of z) (over_of z + lo) n (p + lo) (omega arith))

-- a step moves both bounds
pub step : (s d : ℤ) (lo hi lo' hi' : ℕ) → lo + over_of d ≡ lo' + under_of d → hi + under_of d ≡ hi' + over_of d → from_to lo (s +ℤ d) hi ≡ from_to lo' s hi'
step s d lo hi lo' hi' e f =
    let p = over_of s in let n = under_of s in let u = over_of d in let i = under_of d in
    from_to_is lo hi (add_is (parts_is s) (parts_is d))
    ∙ ap₂ ◌&&◌ (le_same (p + u) (n + i + hi) p (n + hi') (omega arith)) (le_same (n + i) (p + u + lo) n (p + lo') (omega arith))
    ∙ sym (from_to_is lo' hi' (parts_is s))
