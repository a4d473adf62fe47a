-- A slot's own row put back restores the line table.
use Rattle.std.specs.Prelude.{◌≡◌, ◌⊎◌, List, ℕ, zero, suc, ◌+◌, ◌*◌, ◌/◌, ◌%◌, ◌≤◌, ◌<◌, length, get_or}
use Rattle.std.proofs.Math.Path.{refl}
use Rattle.std.proofs.Common.{sym, ◌∙◌, subst, inl, inr, arith, ext_get_or}
use Rattle.definitions.specs.Tables.{entry}
use Rattle.definitions.specs.Calls.{with_slot}
use Rattle.meaning.specs.Slots.{in_slot, other_slot, same_length, same_or_not}
use Rattle.tables.specs.Rows.{row_at, entries_of}

own_entry : (lines : List ℕ) (s k : ℕ) → k < 8 → get_or (entries_of (row_at lines s)) k 0 ≡ entry lines s k
unfolding entries_of
own_entry lines s zero h = refl
own_entry lines s (suc zero) h = refl
own_entry lines s (suc (suc zero)) h = refl
own_entry lines s (suc (suc (suc zero))) h = refl
own_entry lines s (suc (suc (suc (suc zero)))) h = refl
own_entry lines s (suc (suc (suc (suc (suc zero))))) h = refl
own_entry lines s (suc (suc (suc (suc (suc (suc zero)))))) h = refl
own_entry lines s (suc (suc (suc (suc (suc (suc (suc zero))))))) h = refl
own_entry lines s (suc (suc (suc (suc (suc (suc (suc (suc k)))))))) h = absurd (omega arith)

module _ (lines new : List ℕ) (s : ℕ) (eight : length new ≡ 8) (there : 8 * s + 8 ≤ length lines) where
  abbrev old : List ℕ
  old = entries_of (row_at lines s)

  eight_old : length old ≡ 8
  eight_old = unfold entries_of in refl

  put_there : 8 * s + 8 ≤ length (with_slot lines s new)
  put_there = omega (arith, same_length lines new s eight there)

  at_entry : (x k : ℕ) → k < 8 → entry (with_slot (with_slot lines s new) s old) x k ≡ entry lines x k
  at_entry x k h = go (same_or_not x s)
    where
      go : (x ≡ s) ⊎ (x ≡ s → ⊥) → entry (with_slot (with_slot lines s new) s old) x k ≡ entry lines x k
      go (inl e) =
          subst (λ (y : ℕ). entry (with_slot (with_slot lines s new) s old) y k ≡ entry lines y k) (sym e)
          (in_slot (with_slot lines s new) old s eight_old put_there k h ∙ own_entry lines s k h)
      go (inr d) = other_slot (with_slot lines s new) old s eight_old put_there x k h d ∙ other_slot lines new s eight there x k h d

  pub back_again : with_slot (with_slot lines s new) s old ≡ lines
  back_again =
      ext_get_or 0 _ lines (same_length (with_slot lines s new) old s eight_old put_there ∙ same_length lines new s eight there)
      (λ i h. subst (λ (j : ℕ). get_or (with_slot (with_slot lines s new) s old) j 0 ≡ get_or lines j 0) {x = 8 * (i / 8) + i % 8} (omega arith) (at_entry (i / 8) (i % 8) (omega arith)))
