-- Slots that pass a test, gathered in turn at the front of a table: for the loops that do so here and above.
use Rattle.std.specs.Prelude.{◌≡◌, Bool, true, false, ℕ, ◌+◌, ◌≤◌, length, take, drop, set}
use Rattle.std.proofs.Common.{sym, ◌∙◌, zero-add, arith, length-append, length-take}
use Rattle.std.proofs.Math.Path.{ap}
use mathlib.Core.List.{List, [], ◌∷◌, ◌++◌, append-nil}
use Rattle.algebra.specs.Words.{those, up_from, over}
use Rattle.algebra.specs.Lists.{up_from_next, those_append, one_yes, one_no, over_append, over_take, over_drop}

-- r slots stand at the front of a table, and the rest is as before
pub record Front (slots before after : List ℕ) (r : ℕ) : Type 0 where
  pub count : r ≡ length slots
  pub front : take r after ≡ slots
  pub rest : drop r after ≡ drop r before

pub front_fits : {slots before after : List ℕ} {r : ℕ} → Front slots before after r → r ≤ length after
front_fits {slots} {before} {after} {r} h = omega (arith, h.count, simp length-take at (ap length h.front))

-- the k slots below s that pass the test, laid there so far
pub record Laid (p : ℕ → Bool) (before after : List ℕ) (k s : ℕ) : Type 0 where
  pub few : k ≤ s
  pub count : k ≡ length (those p (up_from 0 s))
  pub laid : after ≡ over 0 (those p (up_from 0 s)) before

module _ (p : ℕ → Bool) (before after : List ℕ) (k s : ℕ) (l : Laid p before after k s) where
  more : those p (up_from 0 (s + 1)) ≡ those p (up_from 0 s) ++ those p (s ∷ [])
  more = ap (those p) (up_from_next s) ∙ those_append p (up_from 0 s) (s ∷ [])

  pub laid_in : p s ≡ true → Laid p before (set after k s) (k + 1) (s + 1)
  unfolding over
  laid_in v = record {
    few = omega (arith, l.few);
    count = rw (one, length-append) (omega (arith, l.count));
    laid = rw (one, ← over_append, ← l.laid, ← l.count, zero-add);
  }
    where
      one : those p (up_from 0 (s + 1)) ≡ those p (up_from 0 s) ++ (s ∷ [])
      one = more ∙ ap (λ (z : List ℕ). those p (up_from 0 s) ++ z) (one_yes p s v)

  pub laid_out : p s ≡ false → Laid p before after k (s + 1)
  laid_out v = record { few = omega (arith, l.few); count = l.count ∙ ap length one; laid = l.laid ∙ ap (λ (z : List ℕ). over 0 z before) one }
    where
      one : those p (up_from 0 s) ≡ those p (up_from 0 (s + 1))
      one = sym (more ∙ ap (λ (z : List ℕ). those p (up_from 0 s) ++ z) (one_no p s v) ∙ append-nil (those p (up_from 0 s)))

  -- the loop has passed every slot
  module _ (n : ℕ) (all : s ≡ n) (room : n ≤ length before) where
    fits : length (those p (up_from 0 s)) ≤ length before
    fits = omega (arith, l.few, l.count)

    pub laid_all : Front (those p (up_from 0 n)) before after k
    laid_all = record {
      count = l.count ∙ ap (λ (z : ℕ). length (those p (up_from 0 z))) all;
      front = rw (l.laid, l.count) (over_take (those p (up_from 0 s)) before fits) ∙ ap (λ (z : ℕ). those p (up_from 0 z)) all;
      rest = rw (l.laid, l.count) (over_drop (those p (up_from 0 s)) before fits);
    }
