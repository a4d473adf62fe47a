-- A signed local holds bits. `Holds w v z b`: the bits v stand for the integer z, which is at most b away from 0.
use Rattle.std.specs.Prelude.{◌≡◌, ℕ, ◌+◌, ◌*◌, ◌≤◌, ◌<◌, ◌^◌, ℤ, pos, nat_abs, ◌+ℤ◌, ◌-ℤ◌, ◌*ℤ◌}
use Rattle.std.proofs.Common.{◌∙◌, lt_of_le_of_lt}
use Rattle.std.specs.Int.{Width}
use mir.Val.{SFits, hbits, to_z, of_z}
use Rattle.std.proofs.lemmas.Int.{to_z-of_z, to_z_pos}
use Rattle.algebra.specs.Size.{sfits_abs, abs_add_le, abs_sub_le, abs_mul_le}

pub record Holds (w : Width) (v : ℕ) (z : ℤ) (b : ℕ) : Type 0 where
  pub value : to_z w v ≡ z
  pub within : nat_abs z ≤ b

-- an unsigned number that was cast
pub holds_cast : {w : Width} {n b : ℕ} → n ≤ b → b < 2 ^ hbits w → Holds w n (pos n) b
holds_cast {w} {n} h k = record { value = to_z_pos w n (lt_of_le_of_lt h k); within = h }

module _ {w : Width} {u v : ℕ} {x y : ℤ} {m n : ℕ} (p : Holds w u x m) (q : Holds w v y n) where
  pub sub_fits : m + n < 2 ^ hbits w → SFits w (to_z w u -ℤ to_z w v)
  sub_fits k = rw (p.value, q.value) (sfits_abs (x -ℤ y) (lt_of_le_of_lt (abs_sub_le x y m n p.within q.within) k))

  pub sub_holds : m + n < 2 ^ hbits w → Holds w (of_z w (to_z w u -ℤ to_z w v)) (x -ℤ y) (m + n)
  sub_holds k = record {
    value = to_z-of_z w (to_z w u -ℤ to_z w v) (sub_fits k) ∙ rw (p.value, q.value);
    within = abs_sub_le x y m n p.within q.within;
  }

  pub mul_fits : m * n < 2 ^ hbits w → SFits w (to_z w u *ℤ to_z w v)
  mul_fits k = rw (p.value, q.value) (sfits_abs (x *ℤ y) (lt_of_le_of_lt (abs_mul_le x y m n p.within q.within) k))

  pub mul_holds : m * n < 2 ^ hbits w → Holds w (of_z w (to_z w u *ℤ to_z w v)) (x *ℤ y) (m * n)
  mul_holds k = record {
    value = to_z-of_z w (to_z w u *ℤ to_z w v) (mul_fits k) ∙ rw (p.value, q.value);
    within = abs_mul_le x y m n p.within q.within;
  }

  pub add_fits : m + n < 2 ^ hbits w → SFits w (to_z w u +ℤ to_z w v)
  add_fits k = rw (p.value, q.value) (sfits_abs (x +ℤ y) (lt_of_le_of_lt (abs_add_le x y m n p.within q.within) k))

  pub add_holds : m + n < 2 ^ hbits w → Holds w (of_z w (to_z w u +ℤ to_z w v)) (x +ℤ y) (m + n)
  add_holds k = record {
    value = to_z-of_z w (to_z w u +ℤ to_z w v) (add_fits k) ∙ rw (p.value, q.value);
    within = abs_add_le x y m n p.within q.within;
  }
