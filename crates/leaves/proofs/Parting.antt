-- The laws of the point that a fan is parted by.
use Rattle.std.specs.Prelude.{if◌then◌else◌}
use mathlib.Core.Path.{◌≡◌, refl, sym, ap, ap₂, ◌∙◌}
use mathlib.Core.Bool.{Bool, true, false}
use mathlib.Core.List.{List, [], ◌∷◌, Memᴰ}
use Prim.Native.Nat.{ℕ, ◌+◌, ◌*◌, ◌/◌, ◌%◌, ◌≤◌, ◌<◌}
use native.Mathlib.Nat.{div-le_of_le-mul, le-div_iff_mul-le}
use native.Mathlib.Omega.{arith}
use lib.Dec.{eqb}
use lib.ListN.{length, drop, get_or, drop_of_length-le}
use Rattle.algebra.specs.Lists.{mem_at}
use Rattle.definitions.specs.declared.Point.{Point}
use Rattle.definitions.specs.Shape.{same_point}
use Rattle.geometry.specs.declared.Line as code
use Rattle.definitions.specs.Tables.{line_at}
use Rattle.geometry.specs.Means.{line_of, line_from}
use Rattle.geometry.specs.Range.{End, choose}
use Rattle.tables.specs.Rows.{OnMap, IsLine, map_ends}
use Rattle.leaves.specs.Parting.{far_end, far_at, sum_of, mean_end, pivot_of}
use Rattle.leaves.specs.Pass.{Good}
use Rattle.leaves.proofs.Turns.{drop_next}

pub far_end_is : (v : Point) (l : code.Line) {t : Bool} → t ≡ same_point l.a v → {b : Bool} → t ≡ b → (if b then l.b else l.a) ≡ far_end v (line_of l)
unfolding far_end
far_end_is v l e h = ap (λ (t : Bool). if t then l.b else l.a) (sym h ∙ e)

pub far_is : {lines : List ℕ} {s : ℕ} {m : code.Line} (v : Point) → IsLine lines s m → far_end v (line_of m) ≡ far_at lines v s
unfolding far_end
far_is v is = ap₂ (λ p q. far_end v (line_from p q)) is.a_is is.b_is

-- ---- The sum so far

module _ (f : ℕ → ℕ) (slots : List ℕ) where
  -- what is summed up and what is left make the whole sum; the numbers summed up are of 16 bits
  pub record Summed (x i : ℕ) : Type 0 where
    pub whole : sum_of f slots ≡ x + sum_of f (drop i slots)
    pub small : x ≤ 65535 * i

  pub summed_start : Summed 0 0
  summed_start = record { whole = omega arith; small = omega arith }

module _ {f : ℕ → ℕ} {slots : List ℕ} {x i : ℕ} where
  pub summed_turn : {n : ℕ} → i < length slots → n ≡ f (get_or slots i 0) → n ≤ 65535 → Summed f slots x i → Summed f slots (x + n) (i + 1)
  unfolding sum_of
  summed_turn h e m q = record { whole = omega (arith, q.whole, ap (sum_of f) (drop_next slots i h), e); small = omega (arith, q.small) }

  pub summed_end : length slots ≤ i → Summed f slots x i → x ≡ sum_of f slots
  unfolding sum_of
  summed_end h q = omega (arith, q.whole, ap (sum_of f) (drop_of_length-le slots h))

pub mean_is : (lines : List ℕ) (v : Point) (slots : List ℕ) {x y i a b : ℕ} → length slots ≤ i → Summed (λ s. (far_at lines v s).x.0) slots x i → Summed (λ s. (far_at lines v s).y.0) slots y i →
    a ≡ x / length slots → b ≡ y / length slots → ◌≡◌ {A = Point} (record { x = record { 0 = a }; y = record { 0 = b } }) (mean_end lines v slots)
unfolding mean_end
mean_is lines v slots h p q e f =
    ap₂ (λ m n. record { x = record { 0 = m }; y = record { 0 = n } })
    (e ∙ ap (λ n. n / length slots) (summed_end h p)) (f ∙ ap (λ n. n / length slots) (summed_end h q))

-- ---- The pivot

module _ (lines : List ℕ) (v : Point) (slots : List ℕ) (depth : ℕ) where
  pub pivot_far : eqb (depth % 2) 0 ≡ true → far_at lines v (get_or slots (length slots / 2) 0) ≡ pivot_of lines v slots depth
  unfolding pivot_of
  pivot_far e = rw e refl

  pub pivot_mean : eqb (depth % 2) 0 ≡ false → mean_end lines v slots ≡ pivot_of lines v slots depth
  unfolding pivot_of
  pivot_mean e = rw e refl

-- ---- It is a grid point

far_end_lem : {lines : List ℕ} {s : ℕ} (v : Point) → OnMap lines s → End (far_at lines v s)
unfolding far_end
far_end_lem {lines} {s} v m = choose (same_point (line_at lines s).a v) (map_ends m).second (map_ends m).first

sum_within : (f : ℕ → ℕ) (slots : List ℕ) → ((s : ℕ) → Memᴰ s slots → (1 ≤ f s) × (f s ≤ 32767)) → (length slots ≤ sum_of f slots) × (sum_of f slots ≤ length slots * 32767)
unfolding sum_of
sum_within f [] h = (omega arith, omega arith)
sum_within f (s ∷ more) h = let k = h s (Memᴰ.head refl) in let r = sum_within f more (λ u m. h u (Memᴰ.tail m)) in (omega (arith, k.0, r.0), omega (arith, k.1, r.1))

mean_within : {n sum : ℕ} → 0 < n → (n ≤ sum) × (sum ≤ n * 32767) → (1 ≤ sum / n) × (sum / n ≤ 32767)
mean_within {n} {sum} h w = ((le-div_iff_mul-le h).1 (omega (arith, w.0)), div-le_of_le-mul n w.1)

pub pivot_end : {lines slots : List ℕ} (v : Point) (depth : ℕ) → Good lines slots → 0 < length slots → End (pivot_of lines v slots depth)
unfolding pivot_of mean_end
pivot_end {lines} {slots} v depth g h =
    let e : (s : ℕ) → Memᴰ s slots → End (far_at lines v s) = λ s m. far_end_lem v (g s m).on_map in
    let i : length slots / 2 < length slots = omega arith in
    let x = mean_within h (sum_within (λ s. (far_at lines v s).x.0) slots (λ s m. ((e s m).from_west, (e s m).to_east))) in
    let y = mean_within h (sum_within (λ s. (far_at lines v s).y.0) slots (λ s m. ((e s m).from_south, (e s m).to_north))) in
    choose (eqb (depth % 2) 0) (e _ (mem_at slots (length slots / 2) i)) (record { from_west = x.0; to_east = x.1; from_south = y.0; to_north = y.1 })
