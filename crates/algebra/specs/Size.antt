-- Bounds of sums, differences and products of integers, by their distance from 0.
use Rattle.std.specs.Prelude.{◌≡◌, refl, Bool, true, false, cond, ℕ, zero, suc, ◌+◌, ◌-◌, ◌*◌, ◌≤◌, ◌<◌, ◌^◌, ℤ, pos, negsuc, neg_ℤ, nat_abs, ◌+ℤ◌, ◌-ℤ◌, ◌*ℤ◌, ltb}
use Rattle.std.proofs.Common.{le_refl, mul-le-mul, arith, ltb-true}
use Rattle.std.proofs.Math.IntN.{sub_ℕ}
use Rattle.std.specs.Int.Signed.{mag}
use Rattle.std.specs.Int.{Width}
use mir.Val.{SFits, hbits}

pub abs_neg : (z : ℤ) → nat_abs (neg_ℤ z) ≡ nat_abs z
abs_neg (pos zero) = refl
abs_neg (pos (suc n)) = refl
abs_neg (negsuc n) = refl

pub mag_abs : (z : ℤ) → mag z ≤ nat_abs z
mag_abs (pos n) = le_refl n
mag_abs (negsuc n) = omega arith

pub sfits_abs : {w : Width} (z : ℤ) → nat_abs z < 2 ^ hbits w → SFits w z
sfits_abs z h = record { sfits = omega (arith, mag_abs z, h) }

cond_abs : (t : Bool) (a b m : ℕ) → (t ≡ true → suc (b - suc a) ≤ m) → (t ≡ false → a - b ≤ m) → nat_abs (cond t (negsuc (b - suc a)) (pos (a - b))) ≤ m
cond_abs true a b m f g = f refl
cond_abs false a b m f g = g refl

-- the distance of two numbers, of which neither is more than m over the other
pub abs_subℕ : (a b m : ℕ) → a ≤ b + m → b ≤ a + m → nat_abs (sub_ℕ a b) ≤ m
abs_subℕ a b m h k = cond_abs (ltb a b) a b m (λ e. omega (arith, ltb-true a b e)) (λ e. omega arith)

pub abs_add : (a b : ℤ) → nat_abs (a +ℤ b) ≤ nat_abs a + nat_abs b
abs_add (pos a) (pos b) = omega arith
abs_add (pos a) (negsuc b) = abs_subℕ a (suc b) (a + suc b) (omega arith) (omega arith)
abs_add (negsuc a) (pos b) = abs_subℕ b (suc a) (suc a + b) (omega arith) (omega arith)
abs_add (negsuc a) (negsuc b) = omega arith

pub abs_add_le : (a b : ℤ) (m n : ℕ) → nat_abs a ≤ m → nat_abs b ≤ n → nat_abs (a +ℤ b) ≤ m + n
abs_add_le a b m n h k = omega (arith, abs_add a b)

pub abs_sub : (a b : ℤ) → nat_abs (a -ℤ b) ≤ nat_abs a + nat_abs b
abs_sub a b = rw abs_neg at (abs_add a (neg_ℤ b))

pub abs_mul : (a b : ℤ) → nat_abs (a *ℤ b) ≡ nat_abs a * nat_abs b
abs_mul (pos a) (pos b) = refl
abs_mul (pos a) (negsuc b) = abs_neg (pos (a * suc b))
abs_mul (negsuc a) (pos b) = abs_neg (pos (suc a * b))
abs_mul (negsuc a) (negsuc b) = refl

pub abs_sub_le : (a b : ℤ) (m n : ℕ) → nat_abs a ≤ m → nat_abs b ≤ n → nat_abs (a -ℤ b) ≤ m + n
abs_sub_le a b m n h k = omega (arith, abs_sub a b)

pub abs_mul_le : (a b : ℤ) (m n : ℕ) → nat_abs a ≤ m → nat_abs b ≤ n → nat_abs (a *ℤ b) ≤ m * n
abs_mul_le a b m n h k = rw abs_mul (mul-le-mul h k)
