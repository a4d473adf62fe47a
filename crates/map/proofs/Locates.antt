-- The lengths that locate tests, and the map that it looks points up in.
use Rattle.std.specs.Prelude.{Ok, Err}
use mathlib.Core.Path.{◌≡◌, sym, ◌∙◌}
use mathlib.Core.Bool.{true, false, ◌&&◌}
use mathlib.Core.List.{List}
use Prim.Native.Nat.{ℕ, ◌*◌, ◌/◌, ◌%◌}
use native.Mathlib.Omega.{arith}
use lib.Dec.{eqb}
use lib.ListN.{length}
use borrow.Author.Tests.{eqb-true, eq-eqb}
use Rattle.algebra.specs.Tests.{no_path, false_by, both→, both←}
use Rattle.definitions.specs.Lookup.{Located}
use Rattle.definitions.specs.Tables.{Tables, lengths_fit, sound}
use Rattle.tables.specs.Lent.{Locates}
use Rattle.definitions.specs.declared.Refusal.{Refusal}
use Rattle.definitions.specs.declared.Refusal.TheVariants.{Damaged}
use Rattle.definitions.specs.Lookup.{locate_of}
use Rattle.definitions.specs.Tree.{Rule}
use Rattle.soundness.specs.Checked.{Checked, short as cut, damaged}
use Rattle.map.specs.Steps.{locate_1, locate_2}

module _ (t : Tables) (points answers : List ℕ) where
  pub short : lengths_fit t ≡ false → (lengths_fit t && eqb (length points) (2 * length answers)) ≡ false
  short e = false_by _ (λ k. no_path (sym e ∙ (both→ (lengths_fit t) _ k).0))

  pub odd : (length points % 2 ≡ 0 → ⊥) → (lengths_fit t && eqb (length points) (2 * length answers)) ≡ false
  odd f = false_by _ (λ k. f (even (length answers) (eqb-true _ _ (both→ (lengths_fit t) _ k).1)))
    where
      even : {n : ℕ} (m : ℕ) → n ≡ 2 * m → n % 2 ≡ 0
      even m e = omega arith

  pub not_half : (length points / 2 ≡ length answers → ⊥) → (lengths_fit t && eqb (length points) (2 * length answers)) ≡ false
  not_half f = false_by _ (λ k. f (half (length answers) (eqb-true _ _ (both→ (lengths_fit t) _ k).1)))
    where
      half : {n : ℕ} (m : ℕ) → n ≡ 2 * m → n / 2 ≡ m
      half m e = omega arith

pub twice : (points answers : List ℕ) → length points % 2 ≡ 0 → length points / 2 ≡ length answers → length points ≡ 2 * length answers
twice points answers p q = omega arith

pub all_fit : (t : Tables) (points answers : List ℕ) → lengths_fit t ≡ true → length points ≡ 2 * length answers → (lengths_fit t && eqb (length points) (2 * length answers)) ≡ true
all_fit t points answers e f = both← e (eq-eqb (length points) (2 * length answers) f)

-- for the search: what is owed of a damaged map, by the two tests themselves
pub told_damaged : (rule : Rule) (t : Tables) (points answers : List ℕ) → lengths_fit t ≡ true → sound rule t ≡ false → length points % 2 ≡ 0 → length points / 2 ≡ length answers
    → locate_of rule t points answers ≡ record { answer = Err Damaged; answers = answers }
told_damaged rule t points answers f e p q = locate_2 rule t points answers (all_fit t points answers f (twice points answers p q)) e

pub located : {answers answers' : List ℕ} {y : Located} → answers ≡ answers' → y ≡ record { answer = Ok 0; answers = answers' } → Locates (Ok 0) answers y
located e q = (λ i. record { answer = Ok 0; answers = e i }) ∙ sym q

-- where the lists are as long as asked
pub locate_refused : (rule : Rule) (t : Tables) (points answers : List ℕ) {r : Refusal} → length points ≡ 2 * length answers → Checked rule t (Err r)
    → locate_of rule t points answers ≡ record { answer = Err r; answers = answers }
locate_refused rule t points answers h (cut e) = locate_1 rule t points answers (short t points answers e)
locate_refused rule t points answers h (damaged f e) = locate_2 rule t points answers (all_fit t points answers f h) e
