-- Steps with natural numbers: their order by cases, a common factor taken away, what one lacks of another, sums and multiples of equations.
use Rattle.std.specs.Prelude.{◌≡◌, ◌⊎◌, ℕ, ◌+◌, ◌*◌, ◌-◌, ◌≤◌, ◌<◌}
use Rattle.std.proofs.Common.{ap, ap₂, inl, inr, arith, le_of_mul-le-mul_right, le_trans}
use Rattle.std.proofs.Math.Decide.{dec_le}
use Rattle.std.proofs.Math.Nat.{eq_of_mul-eq-mul_left}

pub order : (a b : ℕ) → (a ≤ b) ⊎ (b < a)
order a b = elim (dec_le a b) [ yes h ↦ inl h | no h ↦ inr (omega arith) ]

pub not_more : {a b : ℕ} → (b < a → ⊥) → a ≤ b
not_more {a} {b} f = elim (order a b) [ inl h ↦ h | inr h ↦ absurd (f h) ]

-- a / Z and b / Z in order
pub cancelled : {a b X Z : ℕ} → 0 < Z → a * Z ≤ X → X ≤ b * Z → a ≤ b
cancelled z h k = le_of_mul-le-mul_right (le_trans h k) z

pub cancel : (k : ℕ) {m n : ℕ} → 0 < k → k * m ≡ k * n → m ≡ n
cancel k {m} {n} h e = eq_of_mul-eq-mul_left k h m n e

-- a multiple of an equation
infixl 7 ◌·◌
pub ◌·◌ : (k : ℕ) {m n : ℕ} → m ≡ n → k * m ≡ k * n
k · e = ap (λ (t : ℕ). k * t) e

-- the sum of two equations
infixl 6 ◌⊞◌
pub ◌⊞◌ : {a b c d : ℕ} → a ≡ b → c ≡ d → a + c ≡ b + d
e ⊞ f = ap₂ ◌+◌ e f

-- an equation follows from another, where the two are one identity
pub follows : {m n s t : ℕ} → s ≡ t → m + t ≡ n + s → m ≡ n
follows e f = omega arith

-- what a smaller number lacks
pub rest : {m n : ℕ} → m ≤ n → (d : ℕ) × (d + m ≡ n)
rest {m} {n} h = (n - m, omega arith)

pub gap : {m n : ℕ} → m < n → (d : ℕ) × (0 < d) × (d + m ≡ n)
gap {m} {n} h = (n - m, omega arith, omega arith)
