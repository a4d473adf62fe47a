-- The numbers and the part of what is shown, over plain lists.
use Rattle.std.specs.Prelude.{Result, Ok, Err}
use mathlib.Core.Path.{◌≡◌, sym, ap, ◌∙◌, subst}
use mathlib.Core.List.{[]}
use Prim.Native.Nat.{ℕ, ◌+◌, ◌-◌, ◌*◌, ◌≤◌}
use native.Mathlib.Omega.{arith}
use lib.ListN.{length, take, drop}
use Rattle.definitions.specs.declared.Refusal.{Refusal}
use Rattle.definitions.specs.Tree.{Rule}
use Rattle.definitions.specs.Tables.{Tables}
use Rattle.definitions.specs.Lookup.{Showing, not_shown, shown_at, show_of}
use Rattle.walk.specs.declared.Leaf.{Leaf}
use Rattle.walk.specs.Index.{leaf_of}
use Rattle.showing.specs.Asking.{AskedIs}

pub placed_at : (b o : ℕ) {m n : ℕ} → m ≡ n → ◌≡◌ {A = ℕ × ℕ} (b, m * 2 + o) (b, n * 2 + o)
placed_at b o e = λ i. (b, e i * 2 + o)

module _ (rule : Rule) (t : Tables) (x y : ℕ) {r : Result Leaf Refusal} (a : AskedIs rule t x y r) where
  pub refused_told : {q : Refusal} → r ≡ Err q → (not_shown (Err q)).told ≡ (show_of rule t x y).told
  refused_told {q} e = sym (ap (λ (s : Showing). s.told) (subst (λ (z : Result Leaf Refusal). AskedIs rule t x y z) e a))

  pub refused_part : {q : Refusal} → r ≡ Err q → [] ≡ (show_of rule t x y).part
  refused_part {q} e = sym (ap (λ (s : Showing). s.part) (subst (λ (z : Result Leaf Refusal). AskedIs rule t x y z) e a))

  pub refused_first : {q : Refusal} → r ≡ Err q → 0 ≡ (show_of rule t x y).first
  refused_first {q} e = sym (ap (λ (s : Showing). s.first) (subst (λ (z : Result Leaf Refusal). AskedIs rule t x y z) e a))

  module _ {f : Leaf} (e : r ≡ Ok f) where
    shown : AskedIs rule t x y (Ok f)
    shown = subst (λ (z : Result Leaf Refusal). AskedIs rule t x y z) e a

    pub shows_told : (shown_at (leaf_of f) t.listings).told ≡ (show_of rule t x y).told
    shows_told = sym (ap (λ (s : Showing). s.told) shown.0)

    pub shows_first : f.first ≡ (show_of rule t x y).first
    shows_first = sym (ap (λ (s : Showing). s.first) shown.0)

    pub part_fits : f.first + f.count ≤ length t.listings
    part_fits = shown.1

    pub shows_part : take (f.first + f.count - f.first) (drop f.first t.listings) ≡ (show_of rule t x y).part
    shows_part = ap (λ (n : ℕ). take n (drop f.first t.listings)) less ∙ sym (ap (λ (s : Showing). s.part) shown.0)
      where
        less : f.first + f.count - f.first ≡ f.count
        less = omega arith
