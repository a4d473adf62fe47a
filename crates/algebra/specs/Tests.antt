-- Tests as facts, and back.
use Rattle.std.specs.Prelude.{◌≡◌, refl, ◌⊎◌, Bool, true, false, ◌&&◌, ◌||◌, ℕ}
use Rattle.std.proofs.Common.{sym, inl, inr, arith}

pub no_path : {A : Type 0} → false ≡ true → A
no_path e = let z : ◌≡◌ {A = ℕ} 0 1 = cc in absurd (omega arith)

pub and_l : (a b : Bool) → a && b ≡ true → a ≡ true
and_l true b e = refl
and_l false b e = e

pub and_r : (a b : Bool) → a && b ≡ true → b ≡ true
and_r true b e = e
and_r false b e = no_path e

pub and_b : (a b : Bool) → a ≡ true → b ≡ true → a && b ≡ true
and_b true b e f = f
and_b false b e f = e

pub or_l : (a b : Bool) → a ≡ true → a || b ≡ true
or_l true b e = refl
or_l false b e = no_path e

pub or_r : (a b : Bool) → b ≡ true → a || b ≡ true
or_r true b e = refl
or_r false b e = e

pub or_cases : (a b : Bool) → a || b ≡ true → (a ≡ true) ⊎ (b ≡ true)
or_cases true b e = inl refl
or_cases false b e = inr e

pub both_ways : (a b : Bool) → (a ≡ true → b ≡ true) → (b ≡ true → a ≡ true) → a ≡ b
both_ways true b f g = sym (f refl)
both_ways false true f g = g refl
both_ways false false f g = refl

pub false_by : (b : Bool) → (b ≡ true → ⊥) → b ≡ false
false_by true f = absurd (f refl)
false_by false f = refl

pub both→ : (a b : Bool) → a && b ≡ true → (a ≡ true) × (b ≡ true)
both→ a b e = (and_l a b e, and_r a b e)

pub both← : {a b : Bool} → a ≡ true → b ≡ true → a && b ≡ true
both← {a} {b} e f = and_b a b e f
