-- The smallest rectangle around a line, asked of its two ends.
use Rattle.std.specs.Prelude.{◌≡◌, refl, ◌⊎◌, Bool, true, false, not, ◌&&◌, ◌||◌, ℕ, ◌≤◌, ◌<◌, min, max, leb}
use Rattle.std.proofs.Common.{inl, inr, arith, leb-true, le-leb}
use Rattle.algebra.specs.Tests.{or_cases, both_ways, or_l, or_r}
use Rattle.plane.specs.Compare.{order}

-- one of them is no more than h exactly if the lesser is
pub low_is : (a b h : ℕ) → (leb a h || leb b h) ≡ leb (min a b) h
low_is a b h = both_ways _ _ (λ e. there (or_cases (leb a h) (leb b h) e)) (λ e. back (leb-true (min a b) h e) (order a b))
  where
    there : (leb a h ≡ true) ⊎ (leb b h ≡ true) → leb (min a b) h ≡ true
    there (inl f) = le-leb (min a b) h (omega (arith, leb-true a h f))
    there (inr f) = le-leb (min a b) h (omega (arith, leb-true b h f))

    back : min a b ≤ h → (a ≤ b) ⊎ (b < a) → (leb a h || leb b h) ≡ true
    back e (inl t) = or_l (leb a h) (leb b h) (le-leb a h (omega arith))
    back e (inr t) = or_r (leb a h) (leb b h) (le-leb b h (omega arith))

-- one of them is no less than h exactly if the greater is
pub high_is : (a b h : ℕ) → (leb h a || leb h b) ≡ leb h (max a b)
high_is a b h = both_ways _ _ (λ e. there (or_cases (leb h a) (leb h b) e)) (λ e. back (leb-true h (max a b) e) (order a b))
  where
    there : (leb h a ≡ true) ⊎ (leb h b ≡ true) → leb h (max a b) ≡ true
    there (inl f) = le-leb h (max a b) (omega (arith, leb-true h a f))
    there (inr f) = le-leb h (max a b) (omega (arith, leb-true h b f))

    back : h ≤ max a b → (a ≤ b) ⊎ (b < a) → (leb h a || leb h b) ≡ true
    back e (inl t) = or_r (leb h a) (leb h b) (le-leb h b (omega arith))
    back e (inr t) = or_l (leb h a) (leb h b) (le-leb h a (omega arith))

-- the test of a rectangle by its parts: each way, and the corners
pub grouped : (x1 x2 y1 y2 a b : Bool) → (x1 && x2) && (y1 && y2) && not (a || b) ≡ x1 && x2 && y1 && y2 && not a && not b
grouped false x2 y1 y2 a b = refl
grouped true false y1 y2 a b = refl
grouped true true false y2 a b = refl
grouped true true true false a b = refl
grouped true true true true true b = refl
grouped true true true true false b = refl
