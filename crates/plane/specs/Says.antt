-- What the tests say, as facts of natural numbers. A test made of tests says what its parts say.
use Rattle.std.specs.Prelude.{◌≡◌, refl, ◌↔◌, ◌⊎◌, Bool, true, false, not, ◌&&◌, ◌||◌, ℕ, ◌≤◌, ◌<◌, leb, eqb}
use Rattle.std.proofs.Common.{sym, ◌∙◌, inl, inr, leb-true, le-leb, lt-ltb, ltb-true, eqb-true, eq-eqb}
use Rattle.algebra.specs.Tests.{no_path, and_l, and_r, and_b, or_l, or_r, or_cases}
use Rattle.algebra.specs.Signs.{positive_is, negative_is}
use Rattle.definitions.specs.declared.Point.{Point}
use Rattle.definitions.specs.Shape.{Line, left_of, right_of}
use Rattle.plane.specs.Compare.{order}
use Rattle.plane.specs.Turns.{lefts, rights, turn_is}

module _ {a b : Bool} {A B : Type 0} where
  pub both : (a ≡ true) ↔ A → (b ≡ true) ↔ B → (a && b ≡ true) ↔ (A × B)
  both f g = (λ e. (f.0 (and_l a b e), g.0 (and_r a b e)), λ h. and_b a b (f.1 h.0) (g.1 h.1))

  pub either : (a ≡ true) ↔ A → (b ≡ true) ↔ B → (a || b ≡ true) ↔ (A ⊎ B)
  either f g = (
    λ e. elim (or_cases a b e) [ inl h ↦ inl (f.0 h) | inr h ↦ inr (g.0 h) ],
    λ s. elim s [ inl h ↦ or_l a b (f.1 h) | inr h ↦ or_r a b (g.1 h) ],
  )

pub unless : {a : Bool} {A : Type 0} → (a ≡ true) ↔ A → (not a ≡ true) ↔ (A → ⊥)
unless {a = true} f = (λ e h. no_path e, λ n. absurd (n (f.0 refl)))
unless {a = false} f = (λ e h. no_path (f.1 h), λ n. refl)

pub le_says : (m n : ℕ) → (leb m n ≡ true) ↔ (m ≤ n)
le_says m n = (leb-true m n, le-leb m n)

pub eq_says : (m n : ℕ) → (eqb m n ≡ true) ↔ (m ≡ n)
eq_says m n = (eqb-true m n, eq-eqb m n)

-- p is strictly left, strictly right of the line
abbrev pub Left : Line → Point → Type 0
Left l p = rights l.a l.b p < lefts l.a l.b p

abbrev pub Right : Line → Point → Type 0
Right l p = lefts l.a l.b p < rights l.a l.b p

abbrev pub NotLeft : Line → Point → Type 0
NotLeft l p = lefts l.a l.b p ≤ rights l.a l.b p

abbrev pub NotRight : Line → Point → Type 0
NotRight l p = rights l.a l.b p ≤ lefts l.a l.b p

pub left? : (l : Line) (p : Point) → NotLeft l p ⊎ Left l p
left? l p = order (lefts l.a l.b p) (rights l.a l.b p)

pub right? : (l : Line) (p : Point) → NotRight l p ⊎ Right l p
right? l p = order (rights l.a l.b p) (lefts l.a l.b p)

pub left_says : (l : Line) (p : Point) → (left_of l p ≡ true) ↔ Left l p
unfolding left_of
left_says l p =
    let e = positive_is (turn_is l.a l.b p) in (λ t. ltb-true _ _ (sym e ∙ t), λ h. e ∙ lt-ltb _ _ h)

pub right_says : (l : Line) (p : Point) → (right_of l p ≡ true) ↔ Right l p
unfolding right_of
right_says l p =
    let e = negative_is (turn_is l.a l.b p) in (λ t. ltb-true _ _ (sym e ∙ t), λ h. e ∙ lt-ltb _ _ h)
