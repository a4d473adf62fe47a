-- What a test made of others by && and not says.
use Rattle.std.specs.Prelude.{◌≡◌, refl, ◌↔◌, Bool, true, false, not, ◌&&◌, List, [], ◌∷◌, ℕ, eqb}
use Rattle.std.proofs.Common.{sym, ◌∙◌, ap, eqb-true, eq-eqb}
use Rattle.std.proofs.lemmas.Bool.{not-true, not-false}
use Rattle.algebra.specs.Tests.{no_path, false_by, and_l, and_r, and_b}

-- a && b && c is `chain a (b ∷ c ∷ [])`
abbrev pub chain : Bool → List Bool → Bool
chain a [] = a
chain a (b ∷ more) = chain (a && b) more

abbrev pub Each : List Bool → Type 0
Each [] = Unit {0}
Each (b ∷ more) = (b ≡ true) × Each more

pub chain→ : (a : Bool) (bs : List Bool) → chain a bs ≡ true → (a ≡ true) × Each bs
chain→ a [] e = (e, tt)
chain→ a (b ∷ more) e = let h = chain→ (a && b) more e in (and_l a b h.0, (and_r a b h.0, h.1))

pub chain← : (a : Bool) (bs : List Bool) → (a ≡ true) × Each bs → chain a bs ≡ true
chain← a [] h = h.0
chain← a (b ∷ more) h = chain← (a && b) more (and_b a b h.0 h.1.0, h.1.1)

-- where the chain fails, one of its tests does
abbrev pub OrElse : List Bool → Type 0 → Type 0
OrElse [] U = Unit {0}
OrElse (b ∷ more) U = (b ≡ false → U) × OrElse more U

and_fails : {U : Type 0} (a b : Bool) → a && b ≡ false → (a ≡ false → U) → (b ≡ false → U) → U
and_fails true b e f g = g e
and_fails false b e f g = f refl

pub chain_fails : {U : Type 0} (a : Bool) (bs : List Bool) → chain a bs ≡ false → (a ≡ false → U) → OrElse bs U → U
chain_fails a [] e f g = f e
chain_fails a (b ∷ more) e f g = chain_fails (a && b) more e (λ k. and_fails a b k f g.0) g.1

module _ {A : Type 0} (b : Bool) (means : (b ≡ true) ↔ A) where
  pub fails : b ≡ false → A → ⊥
  fails e a = no_path (sym e ∙ means.1 a)

  pub not_means : (not b ≡ true) ↔ (¬ A)
  not_means = (λ e. fails (not-true b e), λ f. ap not (false_by b (λ e. f (means.0 e))))

  -- what a test decides is so where it is not not so
  pub stable : (¬ A → ⊥) → A
  stable n = means.0 (not-false b (false_by (not b) (λ e. n (not_means.0 e))))

pub eqb_means : (a b : ℕ) → (eqb a b ≡ true) ↔ (a ≡ b)
eqb_means a b = (eqb-true a b, eq-eqb a b)

-- two tests by two facts
pub both_means : {A B : Type 0} (a b : Bool) → ((a ≡ true) ↔ A) → ((b ≡ true) ↔ B) → (a && b ≡ true) ↔ (A × B)
both_means a b f g = (λ e. (f.0 (and_l a b e), g.0 (and_r a b e)), λ h. and_b a b (f.1 h.0) (g.1 h.1))
