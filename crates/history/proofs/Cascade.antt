-- A cascade of tests answers by the first that applies: the laws that all calls share.
use Rattle.std.specs.Prelude.{◌≡◌, refl, ◌↔◌, Bool, true, false, List, [], ◌∷◌, ℕ, zero, suc, ◌<◌, eqb, if◌then◌else◌, Ok}
use Rattle.std.proofs.Common.{sym, ◌∙◌, ap, subst, arith, eqb-true}
use Rattle.definitions.specs.Answer.{Answer}
use Rattle.definitions.specs.Calls.{refusal_of, detail_of}
use Rattle.meaning.specs.Chain.{fails}
use Rattle.history.specs.Refusals.{None}

-- ---- One test

module _ {R : Type 0} (P : R → Type 0) where
  pub branch : (b : Bool) {x y : R} → (b ≡ true → P x) → (b ≡ false → P y) → P (if b then x else y)
  branch true f g = f refl
  branch false f g = g refl

  -- by what the test says
  pub tested : {C : Type 0} (b : Bool) {x y : R} → ((b ≡ true) ↔ C) → (C → P x) → (¬ C → P y) → P (if b then x else y)
  tested b m f g = branch b (λ e. f (m.0 e)) (λ e. g (fails b m e))

  -- by the first of a list, or that there is none
  pub by_first : (xs : List ℕ) {none : R} {some : ℕ → List ℕ → R} → ((s : ℕ) (more : List ℕ) → xs ≡ s ∷ more → P (some s more)) → (xs ≡ [] → P none)
      → P (elim xs [ s ∷ more ↦ some s more | [] ↦ none ])
  by_first [] f g = g refl
  by_first (s ∷ more) f g = f s more refl

-- ---- The first that applies

-- test n applies; past the last, the call is done
abbrev pub Holds : ℕ → List (Type 0) → Type 0
Holds zero [] = Unit {0}
Holds (suc n) [] = ⊥
Holds zero (c ∷ more) = c
Holds (suc n) (c ∷ more) = Holds n more

abbrev pub First : ℕ → List (Type 0) → Type 0
First n tests = Holds n tests × None n tests

first_only : (n m : ℕ) (tests : List (Type 0)) → First n tests → First m tests → n ≡ m
first_only zero zero tests f g = refl
first_only zero (suc m) [] f g = absurd g.0
first_only (suc n) m [] f g = absurd f.0
first_only zero (suc m) (c ∷ more) f g = absurd (g.1.0 f.0)
first_only (suc n) zero (c ∷ more) f g = absurd (f.1.0 g.0)
first_only (suc n) (suc m) (c ∷ more) f g = ap suc (first_only n m more (f.0, f.1.1) (g.0, g.1.1))

-- ---- From numbers to answers

-- A call lists the answers that it gives to its tests, in their order, each as what it is with a detail.

-- where a refusal stands among them; done, 0, comes after the last
abbrev pub place : List (ℕ → Answer) → ℕ → ℕ
place [] n = n
place (m ∷ more) n = if eqb n (refusal_of (m 0)) then 0 else suc (place more n)

-- the answer that stands there
abbrev pub standing : List (ℕ → Answer) → ℕ → ℕ → Answer
standing [] i d = Ok d
standing (m ∷ more) zero d = m d
standing (m ∷ more) (suc i) d = standing more i d

place_only : (told : List (ℕ → Answer)) (n k : ℕ) → place told n ≡ place told k → n ≡ k
place_only [] n k e = e
place_only (m ∷ more) n k e = go (eqb n (refusal_of (m 0))) (eqb k (refusal_of (m 0))) refl refl e (place_only more n k)
  where
    go : (a b : Bool) → eqb n (refusal_of (m 0)) ≡ a → eqb k (refusal_of (m 0)) ≡ b → (if a then 0 else suc (place more n)) ≡ (if b then 0 else suc (place more k)) → (place more n ≡ place more k → n ≡ k) → n ≡ k
    go true true p q e f = eqb-true n _ p ∙ sym (eqb-true k _ q)
    go true false p q e f = absurd (omega arith)
    go false true p q e f = absurd (omega arith)
    go false false p q e f = f (omega arith)

-- by whether the number is 0, and whether it is 5
abbrev ByNumber : Bool → Bool → Type 0 → Type 0 → Type 0 → Type 0
ByNumber true five Whole Named Plain = Whole
ByNumber false true Whole Named Plain = Named
ByNumber false false Whole Named Plain = Plain

-- what is asked of a result by its answer: done with a detail, a conflict with a detail, or another refusal
abbrev pub Asked : (ℕ → Type 0) → (ℕ → Type 0) → Type 0 → Answer → Type 0
Asked Whole Named Plain a = ByNumber (eqb (refusal_of a) 0) (eqb (refusal_of a) 5) (Whole (detail_of a)) (Named (detail_of a)) Plain

of_refusal : (Whole Named : ℕ → Type 0) {Plain : Type 0} → ((d : ℕ) → Named d → Plain) → (a : Answer) → 0 < refusal_of a → Asked Whole Named Plain a → Plain
of_refusal Whole Named {Plain} f a h k = go (eqb (refusal_of a) 0) (eqb (refusal_of a) 5) refl k
  where
    go : (z five : Bool) → eqb (refusal_of a) 0 ≡ z → ByNumber z five (Whole (detail_of a)) (Named (detail_of a)) Plain → Plain
    go true five e k = absurd (omega (arith, h, eqb-true (refusal_of a) 0 e))
    go false true e k = f (detail_of a) k
    go false false e k = k

-- ---- What a cascade answers

-- the result x of a call that tells these answers to these tests: it answers by the first that applies; done, it has the right detail and made what it should;
-- a conflict has the right detail, and each refusal keeps all
pub record Came {R : Type 0} (answer : R → Answer) (Kept Made : R → Type 0) (told : List (ℕ → Answer)) (tests : List (Type 0)) (Handle Named : ℕ → Type 0) (x : R) : Type 0 where
  pub is : answer x ≡ standing told (place told (refusal_of (answer x))) (detail_of (answer x))
  pub first : First (place told (refusal_of (answer x))) tests
  pub asked : Asked (λ d. Handle d × Made x) (λ d. Named d × Kept x) (Kept x) (answer x)

module _ {R : Type 0} {answer : R → Answer} {Kept Made : R → Type 0} {told : List (ℕ → Answer)} {tests : List (Type 0)} {Handle Named : ℕ → Type 0} where
  pub gives : (x : R) → answer x ≡ standing told (place told (refusal_of (answer x))) (detail_of (answer x)) → First (place told (refusal_of (answer x))) tests
      → Asked (λ d. Handle d × Made x) (λ d. Named d × Kept x) (Kept x) (answer x) → Came answer Kept Made told tests Handle Named x
  gives x e f a = record { is = e; first = f; asked = a }

module _ {R : Type 0} {answer : R → Answer} {Kept Made : R → Type 0} {told : List (ℕ → Answer)} {tests : List (Type 0)} {Handle Named : ℕ → Type 0} {x : R}
    (came : Came answer Kept Made told tests Handle Named x) where
  abbrev Here : Answer → Type 0
  Here = Asked (λ d. Handle d × Made x) (λ d. Named d × Kept x) (Kept x)

  pub kept : 0 < refusal_of (answer x) → Kept x
  kept h = of_refusal (λ d. Handle d × Made x) (λ d. Named d × Kept x) (λ d k. k.1) (answer x) h came.asked

  pub made : (d : ℕ) → answer x ≡ Ok d → Made x
  made d e = (subst Here e came.asked).1

  by_number : (n : ℕ) → (refusal_of (answer x) ≡ n) ↔ First (place told n) tests
  by_number n = (λ e. subst (λ (k : ℕ). First (place told k) tests) e came.first, λ f. place_only told _ n (first_only _ _ tests came.first f))

  of_number : (n : ℕ) → First (place told n) tests → answer x ≡ standing told (place told n) (detail_of (answer x))
  of_number n f = came.is ∙ ap (λ (k : ℕ). standing told (place told k) (detail_of (answer x))) ((by_number n).1 f)

  -- an answer that has no detail
  pub plain : (a : Answer) → ((d : ℕ) → standing told (place told (refusal_of a)) d ≡ a) → (answer x ≡ a) ↔ First (place told (refusal_of a)) tests
  plain a same = (λ e. (by_number _).0 (ap refusal_of e), λ f. of_number _ f ∙ same _)

  -- one that has: the detail is the one that is right
  pub detailed : (make : ℕ → Answer) (n : ℕ) (Right : ℕ → Type 0) → ((d : ℕ) → refusal_of (make d) ≡ n) → ((d : ℕ) → standing told (place told n) d ≡ make d)
      → ((d : ℕ) → Here (make d) → Right d) → ((d e : ℕ) → Right d → Right e → d ≡ e) → ((d : ℕ) → Right d → Holds (place told n) tests)
      → (d : ℕ) → (answer x ≡ make d) ↔ (Right d × None (place told n) tests)
  detailed make n Right number made right only holds d = (
    λ e. (of_answer d e, ((by_number n).0 (ap refusal_of e ∙ number d)).1),
    λ r. let e = of_number n (holds d r.0, r.1) ∙ made _ in e ∙ ap make (only _ _ (of_answer _ e) r.0),
  )
    where
      of_answer : (d : ℕ) → answer x ≡ make d → Right d
      of_answer d e = right d (subst Here e came.asked)

  -- done, where the detail is always 0
  pub done_0 : ((d : ℕ) → Handle d → d ≡ 0) → ((d : ℕ) → standing told (place told 0) d ≡ Ok d) → Holds (place told 0) tests → (d : ℕ) → (answer x ≡ Ok d) ↔ (d ≡ 0) × None (place told 0) tests
  done_0 zero_only last h = detailed Ok 0 (λ d. d ≡ 0) (λ d. refl) last (λ d a. zero_only d a.0) (λ d e p q. p ∙ sym q) (λ d p. h)

-- the first test has none before it
pub alone : {A C : Type 0} → (A ↔ C × Unit {0}) → A ↔ C
alone h = (λ a. (h.0 a).0, λ c. h.1 (c, tt))
