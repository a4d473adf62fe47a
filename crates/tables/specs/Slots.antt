-- The lowest slot that passes a test, as a search by rising slots finds it; and how many live slots there are.
use Rattle.std.specs.Prelude.{◌≡◌, refl, Bool, true, false, List, [], ◌∷◌, length, Option, Some, None}
use Rattle.std.proofs.Common.{sym, ◌∙◌, add-one}
use Rattle.std.proofs.Math.Path.{ap}
use Prim.Native.Nat.{ℕ, suc, ◌+◌, ◌-◌, ◌*◌, ◌/◌, ◌≤◌, ◌<◌}
use native.Mathlib.Omega.{arith}
use Rattle.algebra.specs.Words.{those, up_from}
use Rattle.algebra.specs.Lists.{those_yes, those_no, those_length, up_from_length}
use Rattle.definitions.specs.Tables.{is_live, slots_of, live_slots}

abbrev pub first_slot_of : List ℕ → Option ℕ
first_slot_of [] = None
first_slot_of (s ∷ more) = Some s

-- what the answer says of the list
pub first_at : (l : List ℕ) {s : ℕ} → first_slot_of l ≡ Some s → (more : List ℕ) × (l ≡ s ∷ more)
first_at [] e = let z : ◌≡◌ {A = ℕ} 0 1 = cc in absurd (omega arith)
first_at (u ∷ more) {s} e = let q : u ≡ s = cc in (more, ap (λ (n : ℕ). n ∷ more) q)

pub first_none : (l : List ℕ) → first_slot_of l ≡ None → l ≡ []
first_none [] e = refl
first_none (u ∷ more) e = let z : ◌≡◌ {A = ℕ} 0 1 = cc in absurd (omega arith)

-- ---- a search by rising slots: those of the n slots that pass are those from s on
module _ (p : ℕ → Bool) (n : ℕ) where
  abbrev pub Onward : ℕ → Type 0
  Onward s = those p (up_from 0 n) ≡ those p (up_from s (n - s))

  pub onward_start : Onward 0
  onward_start = ap (λ (k : ℕ). those p (up_from 0 k)) all
    where
      all : n ≡ n - 0
      all = omega arith

  next : (s : ℕ) → s < n → up_from s (n - s) ≡ s ∷ up_from (s + 1) (n - (s + 1))
  unfolding up_from
  next s h = ap (up_from s) left ∙ ap (λ (k : ℕ). s ∷ up_from k (n - (s + 1))) (sym (add-one s))
    where
      left : n - s ≡ suc (n - (s + 1))
      left = omega arith

  pub onward_next : (s : ℕ) → s < n → p s ≡ false → Onward s → Onward (s + 1)
  onward_next s h v e = e ∙ ap (those p) (next s h) ∙ those_no p s (up_from (s + 1) (n - (s + 1))) v

  pub onward_found : (s : ℕ) → s < n → p s ≡ true → Onward s → first_slot_of (those p (up_from 0 n)) ≡ Some s
  onward_found s h v e = ap first_slot_of (e ∙ ap (those p) (next s h) ∙ those_yes p s (up_from (s + 1) (n - (s + 1))) v)

  pub onward_none : (s : ℕ) → n ≤ s → Onward s → first_slot_of (those p (up_from 0 n)) ≡ None
  unfolding those up_from
  onward_none s h e = ap first_slot_of (e ∙ ap (λ (k : ℕ). those p (up_from s k)) none)
    where
      none : n - s ≡ 0
      none = omega arith

-- ---- how many live slots there are
pub live_few : (lines : List ℕ) → 8 * length (live_slots lines) ≤ length lines
unfolding live_slots slots_of
live_few lines = omega (arith, those_length (is_live lines) (up_from 0 (length lines / 8)), up_from_length 0 (length lines / 8))
