-- The first two tests of every call but start, as one answer.
use Rattle.std.specs.Prelude.{◌≡◌, List, ℕ, Bool, true, false, not, ⊤, Result, Ok, Err, if◌then◌else◌}
use Rattle.std.proofs.Math.Path.{refl, subst, sym}
use Rattle.definitions.specs.declared.Refusal.{Refusal}
use Rattle.definitions.specs.declared.Refusal.TheVariants.{Lengths, Damaged}
use Rattle.definitions.specs.Tables.{Tables, lengths_fit, sound}
use Rattle.definitions.specs.Tree.{Rule}
use Rattle.tables.specs.Lent.{tables, Passed}

module _ (rule : Rule) (t : Tables) where
  unfoldable pub checked : Result ⊤ Refusal
  checked = if not (lengths_fit t) then Err Lengths else if not (sound rule t) then Err Damaged else Ok tt

  pub checked_1 : lengths_fit t ≡ false → checked ≡ Err Lengths
  unfolding checked
  checked_1 e = rw e refl

  module _ (fit : lengths_fit t ≡ true) where
    pub checked_2 : sound rule t ≡ false → checked ≡ Err Damaged
    unfolding checked
    checked_2 e = rw (fit, e) refl

    pub checked_0 : sound rule t ≡ true → checked ≡ Ok tt
    unfolding checked
    checked_0 e = rw (fit, e) refl

  -- what each answer says of the tables
  pub data Checked : Result ⊤ Refusal → Type 0 where
    short : lengths_fit t ≡ false → Checked (Err Lengths)
    damaged : lengths_fit t ≡ true → sound rule t ≡ false → Checked (Err Damaged)
    passed : lengths_fit t ≡ true → sound rule t ≡ true → Checked (Ok tt)

  by_tests : (fit ok : Bool) → lengths_fit t ≡ fit → sound rule t ≡ ok → Checked checked
  by_tests false _ e q = subst (λ z. Checked z) (sym (checked_1 e)) (short e)
  by_tests true false e q = subst (λ z. Checked z) (sym (checked_2 e q)) (damaged e q)
  by_tests true true e q = subst (λ z. Checked z) (sym (checked_0 e q)) (passed e q)

  pub check_says : {r : Result ⊤ Refusal} → r ≡ checked → Checked r
  check_says {r} e = subst (λ z. Checked z) (sym e) (by_tests (lengths_fit t) (sound rule t) refl refl)

pub check_passes : (rule : Rule) {lines nodes listings : List ℕ} {u : ⊤} → Ok u ≡ checked rule (tables lines nodes listings) → Passed rule lines nodes listings
check_passes rule {lines} {nodes} {listings} e = go (check_says rule (tables lines nodes listings) e)
  where
    go : Checked rule (tables lines nodes listings) (Ok tt) → Passed rule lines nodes listings
    go (passed fit ok) = record { fit = fit; ok = ok }
