-- The few words of lists and signs that the definitions of the map use. Assumes nothing.
use Rattle.std.specs.Prelude.{Bool, true, false, ℕ, zero, suc, ◌-◌, ◌<◌, eqb, ℤ, pos, negsuc, length, replicate}
use mathlib.Core.List.{List, [], ◌∷◌, ◌++◌, Memᴰ}
use Rattle.std.proofs.lemmas.List.Edits.{sets}

module _ {ℓ} {A : Type ℓ} where
  -- the elements that pass the test, in their order
  unfoldable pub those : (A → Bool) → List A → List A
  those p [] = []
  those p (a ∷ more) = elim (p a) [ true ↦ a ∷ those p more | false ↦ those p more ]

  -- each element passes the test
  unfoldable pub every : (A → Bool) → List A → Bool
  every p [] = true
  every p (a ∷ more) = elim (p a) [ true ↦ every p more | false ↦ false ]

-- the n numbers from i up
unfoldable pub up_from : ℕ → ℕ → List ℕ
up_from i zero = []
up_from i (suc n) = i ∷ up_from (suc i) n

-- the numbers rise, so each stands once
pub data Rising : List ℕ → Type 0 where
  none : Rising []
  one : {x : ℕ} {xs : List ℕ} → ((y : ℕ) → Memᴰ y xs → x < y) → Rising xs → Rising (x ∷ xs)

unfoldable pub same_list : List ℕ → List ℕ → Bool
same_list [] [] = true
same_list [] (y ∷ ys) = false
same_list (x ∷ xs) [] = false
same_list (x ∷ xs) (y ∷ ys) = elim (eqb x y) [ true ↦ same_list xs ys | false ↦ false ]

-- a table n long: entries after the last used are 0
unfoldable pub padded : ℕ → List ℕ → List ℕ
padded n used = used ++ replicate (n - length used) 0

-- the list s with the entries of t written from the place at on
unfoldable pub over : ℕ → List ℕ → List ℕ → List ℕ
over at t s = sets s at t

abbrev pub is_positive : ℤ → Bool
is_positive (pos zero) = false
is_positive (pos (suc n)) = true
is_positive (negsuc n) = false

abbrev pub is_negative : ℤ → Bool
is_negative (pos n) = false
is_negative (negsuc n) = true

abbrev pub is_zero : ℤ → Bool
is_zero (pos zero) = true
is_zero (pos (suc n)) = false
is_zero (negsuc n) = false
