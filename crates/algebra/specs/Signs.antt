-- The bridge from ℤ to ℕ: an integer as a difference of two natural numbers, its sign as their order, which `omega` reads.
use Rattle.std.specs.Prelude.{◌≡◌, refl, Bool, true, false, cond, ℕ, zero, suc, ◌+◌, ◌*◌, ◌-◌, ltb, eqb, ℤ, pos, negsuc, neg_ℤ, ◌+ℤ◌, ◌*ℤ◌}
use Rattle.std.proofs.Common.{sym, ap, subst, arith, ltb-true, ltb-false, lt-ltb, le-ltb, eq-eqb, ne_eqb}
use Rattle.std.proofs.Math.IntN.{sub_ℕ}
use Rattle.algebra.specs.Words.{is_positive, is_negative, is_zero}

-- z is p - n
abbrev Diff : ℤ → ℕ → ℕ → Type 0
Diff (pos k) p n = p ≡ n + k
Diff (negsuc k) p n = n ≡ p + suc k

pub record Is (z : ℤ) (p n : ℕ) : Type 0 where
  diff : Diff z p n

pub sub_is : (a b : ℕ) → Is (sub_ℕ a b) a b
sub_is a b = record { diff = go (ltb a b) refl }
  where
    go : (t : Bool) → ltb a b ≡ t → Diff (cond t (negsuc (b - suc a)) (pos (a - b))) a b
    go true e = omega (arith, ltb-true a b e)
    go false e = omega (arith, ltb-false a b e)

neg_diff : (z : ℤ) (p n : ℕ) → Diff z p n → Diff (neg_ℤ z) n p
neg_diff (pos zero) p n h = omega arith
neg_diff (pos (suc k)) p n h = h
neg_diff (negsuc k) p n h = h

pub neg_is : {z : ℤ} {p n : ℕ} → Is z p n → Is (neg_ℤ z) n p
neg_is {z} {p} {n} h = record { diff = neg_diff z p n h.diff }

add_diff : (z w : ℤ) (p n q m : ℕ) → Diff z p n → Diff w q m → Diff (z +ℤ w) (p + q) (n + m)
add_diff (pos a) (pos b) p n q m h k = omega arith
add_diff (pos a) (negsuc b) p n q m h k = go (sub_ℕ a (suc b)) (sub_is a (suc b)).diff
  where
    go : (r : ℤ) → Diff r a (suc b) → Diff r (p + q) (n + m)
    go (pos c) i = omega arith
    go (negsuc c) i = omega arith
add_diff (negsuc a) (pos b) p n q m h k = go (sub_ℕ b (suc a)) (sub_is b (suc a)).diff
  where
    go : (r : ℤ) → Diff r b (suc a) → Diff r (p + q) (n + m)
    go (pos c) i = omega arith
    go (negsuc c) i = omega arith
add_diff (negsuc a) (negsuc b) p n q m h k = omega arith

pub add_is : {z w : ℤ} {p n q m : ℕ} → Is z p n → Is w q m → Is (z +ℤ w) (p + q) (n + m)
add_is {z} {w} {p} {n} {q} {m} h k = record { diff = add_diff z w p n q m h.diff k.diff }

mul_diff : (z w : ℤ) (p n q m : ℕ) → Diff z p n → Diff w q m → Diff (z *ℤ w) (p * q + n * m) (p * m + n * q)
mul_diff (pos a) (pos b) p n q m h k = rw (h, k) (omega arith)
mul_diff (pos a) (negsuc b) p n q m h k = neg_diff (pos (a * suc b)) (p * m + n * q) (p * q + n * m) (rw (h, k) (omega arith))
mul_diff (negsuc a) (pos b) p n q m h k = neg_diff (pos (suc a * b)) (p * m + n * q) (p * q + n * m) (rw (h, k) (omega arith))
mul_diff (negsuc a) (negsuc b) p n q m h k = rw (h, k) (omega arith)

pub mul_is : {z w : ℤ} {p n q m : ℕ} → Is z p n → Is w q m → Is (z *ℤ w) (p * q + n * m) (p * m + n * q)
mul_is {z} {w} {p} {n} {q} {m} h k = record { diff = mul_diff z w p n q m h.diff k.diff }

positive_diff : (z : ℤ) (p n : ℕ) → Diff z p n → is_positive z ≡ ltb n p
positive_diff (pos zero) p n h = sym (le-ltb n p (omega arith))
positive_diff (pos (suc k)) p n h = sym (lt-ltb n p (omega arith))
positive_diff (negsuc k) p n h = sym (le-ltb n p (omega arith))

pub positive_is : {z : ℤ} {p n : ℕ} → Is z p n → is_positive z ≡ ltb n p
positive_is {z} {p} {n} h = positive_diff z p n h.diff

negative_diff : (z : ℤ) (p n : ℕ) → Diff z p n → is_negative z ≡ ltb p n
negative_diff (pos k) p n h = sym (le-ltb p n (omega arith))
negative_diff (negsuc k) p n h = sym (lt-ltb p n (omega arith))

pub negative_is : {z : ℤ} {p n : ℕ} → Is z p n → is_negative z ≡ ltb p n
negative_is {z} {p} {n} h = negative_diff z p n h.diff

zero_diff : (z : ℤ) (p n : ℕ) → Diff z p n → is_zero z ≡ eqb p n
zero_diff (pos zero) p n h = sym (eq-eqb p n (omega arith))
zero_diff (pos (suc k)) p n h = sym (ne_eqb p n (λ e. omega arith))
zero_diff (negsuc k) p n h = sym (ne_eqb p n (λ e. omega arith))

pub zero_is : {z : ℤ} {p n : ℕ} → Is z p n → is_zero z ≡ eqb p n
zero_is {z} {p} {n} h = zero_diff z p n h.diff

shift_diff : (z : ℤ) (p n q m : ℕ) → Diff z p n → p + m ≡ q + n → Diff z q m
shift_diff (pos k) p n q m h e = omega arith
shift_diff (negsuc k) p n q m h e = omega arith

pub shift_is : {z : ℤ} {p n q m : ℕ} → Is z p n → p + m ≡ q + n → Is z q m
shift_is {z} {p} {n} {q} {m} h e = record { diff = shift_diff z p n q m h.diff e }

zero_diff→ : (z : ℤ) (p n : ℕ) → Diff z p n → z ≡ pos 0 → p ≡ n
zero_diff→ z p n h e = let k : Diff (pos 0) p n = subst (λ (w : ℤ). Diff w p n) e h in omega arith

zero_diff← : (z : ℤ) (p n : ℕ) → Diff z p n → p ≡ n → z ≡ pos 0
zero_diff← (pos k) p n h e = ap pos (omega arith)
zero_diff← (negsuc k) p n h e = let no : ⊥ = omega arith in absurd no

pub equal_of_zero : {z : ℤ} {p n : ℕ} → Is z p n → z ≡ pos 0 → p ≡ n
equal_of_zero {z} {p} {n} h e = zero_diff→ z p n h.diff e

pub zero_of_equal : {z : ℤ} {p n : ℕ} → Is z p n → p ≡ n → z ≡ pos 0
zero_of_equal {z} {p} {n} h e = zero_diff← z p n h.diff e

pub pos_is : (n : ℕ) → Is (pos n) n 0
pos_is n = record { diff = omega arith }

unique_diff : (z w : ℤ) (p n q m : ℕ) → Diff z p n → Diff w q m → p + m ≡ q + n → z ≡ w
unique_diff (pos a) (pos b) p n q m h k e = ap pos (omega arith)
unique_diff (pos a) (negsuc b) p n q m h k e = let no : ⊥ = omega arith in absurd no
unique_diff (negsuc a) (pos b) p n q m h k e = let no : ⊥ = omega arith in absurd no
unique_diff (negsuc a) (negsuc b) p n q m h k e = ap negsuc (omega arith)

-- two that are the same difference
pub one_is : {z w : ℤ} {p n q m : ℕ} → Is z p n → Is w q m → p + m ≡ q + n → z ≡ w
one_is {z} {w} {p} {n} {q} {m} h k e = unique_diff z w p n q m h.diff k.diff e
