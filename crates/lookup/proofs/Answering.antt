-- The laws of the answers to pairs of grid numbers, one after another.
use Rattle.std.specs.Prelude.{if◌then◌else◌}
use mathlib.Core.Path.{◌≡◌, sym, ap, ap₂, ◌∙◌}
use mathlib.Core.Bool.{Bool, true, ◌&&◌}
use mathlib.Core.List.{List, ◌∷◌, ◌++◌, append-nil}
use Prim.Native.Nat.{ℕ, suc, ◌+◌, ◌*◌, ◌≤◌, ◌<◌}
use native.Mathlib.Numerals.{add-one}
use native.Mathlib.Omega.{arith}
use lib.Dec.{leb}
use lib.ListN.{length, take, drop, get_or, set, drop_of_length-le}
use lib.Seq.{drop-cons, take-suc-set, take_all, append_snoc}
use borrow.Author.Tests.{leb-true}
use Rattle.algebra.specs.Tests.{both→}
use Rattle.definitions.specs.Shape.{grid_point}
use Rattle.definitions.specs.Lookup.{answer_at, answer_to, answers_to}

-- ---- One pair

module _ (x y : ℕ) {a b : Bool} (e : a ≡ leb x 16383) (f : b ≡ leb y 16383) where
  pub both_on_grid : a && b ≡ true → (x ≤ 16383) × (y ≤ 16383)
  both_on_grid h = let t = both→ a b h in (leb-true _ _ (sym e ∙ t.0), leb-true _ _ (sym f ∙ t.1))

  pub answer_is : (lines : List ℕ) {t : Bool} → a && b ≡ t → (if t then answer_at lines (grid_point x y) else 4294967295) ≡ answer_to lines x y
  unfolding answer_to
  answer_is lines h = ap (λ (t : Bool). if t then answer_at lines (grid_point x y) else 4294967295) (sym h ∙ ap₂ ◌&&◌ e f)

-- ---- All pairs

module _ (lines points : List ℕ) where
  -- the first i answers stand, and the rest are those to the points that are left
  abbrev pub Answered : List ℕ → ℕ → Type 0
  Answered answers i = answers_to lines points ≡ take i answers ++ answers_to lines (drop (2 * i) points)

  two : (i : ℕ) → 2 * i + 1 < length points → drop (2 * i) points ≡ get_or points (2 * i) 0 ∷ get_or points (2 * i + 1) 0 ∷ drop (2 * (i + 1)) points
  two i h =
      drop-cons points (2 * i) 0 (omega arith)
      ∙ ap (λ (n : ℕ). get_or points (2 * i) 0 ∷ drop n points) (sym (add-one (2 * i)))
      ∙ ap (λ (l : List ℕ). get_or points (2 * i) 0 ∷ l) (drop-cons points (2 * i + 1) 0 h ∙ ap (λ (n : ℕ). get_or points (2 * i + 1) 0 ∷ drop n points) next)
    where
      next : suc (2 * i + 1) ≡ 2 * (i + 1)
      next = omega arith

  pub answered_turn : (answers : List ℕ) (i : ℕ) {v : ℕ} → i < length answers → 2 * i + 1 < length points → v ≡ answer_to lines (get_or points (2 * i) 0) (get_or points (2 * i + 1) 0) →
      Answered answers i → Answered (set answers i v) (i + 1)
  unfolding answers_to
  answered_turn answers i {v} h k e r =
      r ∙ ap (λ (l : List ℕ). take i answers ++ answers_to lines l) (two i k)
      ∙ ap (λ (n : ℕ). take i answers ++ (n ∷ answers_to lines (drop (2 * (i + 1)) points))) (sym e)
      ∙ sym (append_snoc (take i answers) v _)
      ∙ ap (λ (l : List ℕ). l ++ answers_to lines (drop (2 * (i + 1)) points)) (sym (take-suc-set answers i v h) ∙ ap (λ (n : ℕ). take n (set answers i v)) (sym (add-one i)))

  pub answered_end : (answers : List ℕ) (i : ℕ) → length answers ≤ i → length points ≤ 2 * i → Answered answers i → answers ≡ answers_to lines points
  unfolding answers_to
  answered_end answers i h k r =
      sym (r ∙ ap (λ (l : List ℕ). take i answers ++ answers_to lines l) (drop_of_length-le points k) ∙ append-nil (take i answers) ∙ take_all i answers h)
