-- Each test of a call holds exactly if the refusal table's condition does.
use Rattle.std.specs.Prelude.{◌≡◌, refl, ◌⊎◌, ◌↔◌, Bool, true, false, ◌&&◌, ℕ, ◌*◌, ◌/◌, ◌%◌, ◌≤◌, ◌<◌, leb, ltb, eqb}
use Rattle.std.proofs.Math.Path.{ap}
use Rattle.std.proofs.Math.Logic.{inl, inr}
use Rattle.std.proofs.Math.Bool.{not}
use mathlib.Core.List.Memᴰ
use mathlib.Core.List.{List, [], ◌∷◌, Memᴰ}
use native.Mathlib.Omega.{arith}
use Rattle.std.proofs.Math.ListN.{length}
use borrow.Author.Tests.{leb-true, leb-false, le-leb, ltb-true, ltb-false, lt-ltb, eqb-true, eqb-false, eq-eqb, not-true}
use Rattle.algebra.specs.Lists.{in_those, of_those, in_up_from, to_up_from, up_from_rising, those_rising}
use Rattle.algebra.specs.Tests.{and_l, and_r, and_b, false_by}
use Rattle.algebra.specs.Words.{those, up_from, Rising, Rising.one}
use Rattle.definitions.specs.declared.Given.{Given}
use Rattle.definitions.specs.Calls.{given_line, all_on_grid, no_length, known, room_for}
use Rattle.definitions.specs.Meaning.{Live}
use Rattle.definitions.specs.Shape.{conflict}
use Rattle.definitions.specs.Tables.{Tables, lengths_fit, live, generation, is_live, line_at, live_lines, on_grid, sound}
use Rattle.definitions.specs.Tree.{Rule, tree, nodes_of, listings_of}
use Rattle.meaning.specs.Chain.{Each, chain→, chain←, chain_fails, fails, not_means, both_means, eqb_means}
use Rattle.plane.specs.Compare.{order}
use Rattle.plane.specs.Crossing.{Proper, conflict_iff}
use Rattle.meaning.specs.SoundMeans.{sound_means}
use Rattle.history.specs.Refusals.{Some, Lowest, FitLengths, WrongLengths, WrongLists, tables, odd, not_half, Unsound, AboveGrid, EndsEqual, InTheWay, Retired, AllTaken, Vacant, NeedsMore, Unknown, beyond, not_live, other_generation}

-- 1
module _ (t : Tables) where
  abbrev length_tests : List Bool
  length_tests = leb 8 (length t.lines) ∷ leb (length t.lines) 8192 ∷ leb 1 (length t.nodes) ∷ leb (length t.nodes) 16384 ∷ leb (length t.listings) 16384 ∷ []

  pub lengths_mean : (lengths_fit t ≡ true) ↔ FitLengths t
  unfolding lengths_fit
  lengths_mean = (
    λ e. let h = chain→ (eqb (length t.lines % 8) 0) length_tests e in
        slots (eqb-true _ _ h.0) (leb-true _ _ h.1.0) (leb-true _ _ h.1.1.0) (leb-true _ _ h.1.1.1.0, leb-true _ _ h.1.1.1.1.0) (leb-true _ _ h.1.1.1.1.1.0),
    λ f. chain← (eqb (length t.lines % 8) 0) length_tests
        (eq-eqb (length t.lines % 8) 0 (omega (arith, f.lines.1)), (le-leb 8 (length t.lines) (omega (arith, f.lines.1)), (le-leb (length t.lines) 8192 (omega (arith, f.lines.1)), (le-leb _ _ f.nodes.0, (le-leb _ _ f.nodes.1, (le-leb _ _ f.listings, tt)))))),
  )
    where
      slots : length t.lines % 8 ≡ 0 → 8 ≤ length t.lines → length t.lines ≤ 8192 → (1 ≤ length t.nodes) × (length t.nodes ≤ 16384) → length t.listings ≤ 16384 → FitLengths t
      slots a b c d e = record { lines = (length t.lines / 8, (omega arith, omega arith, omega arith)); nodes = d; listings = e }

  pub wrong_means : (not (lengths_fit t) ≡ true) ↔ WrongLengths t
  wrong_means = not_means (lengths_fit t) lengths_mean

-- 2
pub unsound_means : (rule : Rule) (t : Tables) → (not (sound rule t) ≡ true) ↔ Unsound rule t
unsound_means rule t = not_means (sound rule t) (sound_means rule t)

-- 3
module _ (g : Given) where
  abbrev grid_tests : List Bool
  grid_tests = on_grid g.y1 ∷ on_grid g.x2 ∷ on_grid g.y2 ∷ []

  pub above_means : (not (all_on_grid g) ≡ true) ↔ AboveGrid g
  unfolding all_on_grid
  above_means = (
    λ e. chain_fails (on_grid g.x1) grid_tests (not-true (all_on_grid g) e) (λ f. inl (leb-false _ _ f))
        (λ f. inr (inl (leb-false _ _ f)), (λ f. inr (inr (inl (leb-false _ _ f))), (λ f. inr (inr (inr (leb-false _ _ f))), tt))),
    λ h. ap not (false_by (all_on_grid g) (λ e. back h (chain→ (on_grid g.x1) grid_tests e))),
  )
    where
      back : AboveGrid g → (on_grid g.x1 ≡ true) × Each grid_tests → ⊥
      back (inl h) e = omega (arith, leb-true g.x1 16383 e.0)
      back (inr (inl h)) e = omega (arith, leb-true g.y1 16383 e.1.0)
      back (inr (inr (inl h))) e = omega (arith, leb-true g.x2 16383 e.1.1.0)
      back (inr (inr (inr h))) e = omega (arith, leb-true g.y2 16383 e.1.1.1.0)

pub place_means : (x y : ℕ) → (not (on_grid x && on_grid y) ≡ true) ↔ ((16383 < x) ⊎ (16383 < y))
place_means x y = (
  λ e. chain_fails (on_grid x) (on_grid y ∷ []) (not-true (on_grid x && on_grid y) e) (λ f. inl (leb-false _ _ f)) (λ f. inr (leb-false _ _ f), tt),
  λ h. ap not (false_by (on_grid x && on_grid y) (λ e. back h (chain→ (on_grid x) (on_grid y ∷ []) e))),
)
  where
    back : (16383 < x) ⊎ (16383 < y) → (on_grid x ≡ true) × Each (on_grid y ∷ []) → ⊥
    back (inl h) e = omega (arith, leb-true x 16383 e.0)
    back (inr h) e = omega (arith, leb-true y 16383 e.1.0)

-- 4
pub ends_mean : (g : Given) → (no_length g ≡ true) ↔ EndsEqual g
unfolding no_length
ends_mean g = both_means (eqb g.x1 g.x2) (eqb g.y1 g.y2) (eqb_means _ _) (eqb_means _ _)

-- 5 and 6: the first of those that pass is the lowest
module _ {P : ℕ → Type 0} (p : ℕ → Bool) (n : ℕ) (means : (u : ℕ) → ((u < n) × (p u ≡ true)) ↔ P u) where
  passing : (u : ℕ) → Memᴰ u (those p (up_from 0 n)) ↔ P u
  passing u = (
    λ m. let k = of_those p (up_from 0 n) m in (means u).0 (omega (arith, (in_up_from 0 n u k.0).1), k.1),
    λ h. let k = (means u).1 h in in_those p (up_from 0 n) (to_up_from 0 n u (omega arith) (omega (arith, k.0))) k.1,
  )

  pub lowest_first : {s : ℕ} {more : List ℕ} → those p (up_from 0 n) ≡ s ∷ more → Lowest P s
  lowest_first {s} {more} e = record { holds = (passing s).0 (rw e (Memᴰ.head refl)); least = λ u h. omega (arith, from (rw e at (those_rising p (up_from_rising 0 n))) u (rw e at ((passing u).1 h))) }
    where
      from : Rising (s ∷ more) → (u : ℕ) → Memᴰ u (s ∷ more) → s ≤ u
      from r u (Memᴰ.head q) = omega arith
      from (one f r) u (Memᴰ.tail m) = omega (arith, f u m)

  pub none_passes : those p (up_from 0 n) ≡ [] → ¬ Some P
  none_passes e h = Memᴰ.not-nil (rw e at ((passing h.0).1 h.1))

pub lowest_only : {P : ℕ → Type 0} (s u : ℕ) → Lowest P s → Lowest P u → s ≡ u
lowest_only s u a b = omega (arith, a.least u b.holds, b.least s a.holds)

module _ (lines : List ℕ) where
  pub live_means : (s : ℕ) → (is_live lines s ≡ true) ↔ (live lines s ≡ 1)
  unfolding is_live
  live_means s = eqb_means _ _

  module _ (g : Given) (proper : (s : ℕ) → Live lines s → Proper (line_at lines s)) (long : Proper (given_line g)) where
    pub way_means : (u : ℕ) → ((u < length lines / 8) × (is_live lines u && conflict (line_at lines u) (given_line g) ≡ true)) ↔ InTheWay lines g u
    way_means u = (
      λ h. let v = live h.0 (and_l (is_live lines u) (conflict (line_at lines u) (given_line g)) h.1) in
          record { lives = v; conflicts = (conflict_iff _ _ (proper u v) long).0 (and_r (is_live lines u) (conflict (line_at lines u) (given_line g)) h.1) },
      λ w. (w.lives.there, and_b _ _ ((live_means u).1 w.lives.lives) ((conflict_iff _ _ (proper u w.lives) long).1 w.conflicts)),
    )
      where
        live : u < length lines / 8 → is_live lines u ≡ true → Live lines u
        live h e = record { there = h; lives = (live_means u).0 e }

  pub vacant_means : (u : ℕ) → ((u < length lines / 8) × (not (is_live lines u) && ltb (generation lines u) 65535 ≡ true)) ↔ Vacant lines u
  vacant_means u = (
    λ h. record {
      there = h.0;
      dead = λ v. (not_means (is_live lines u) (live_means u)).0 (and_l (not (is_live lines u)) (ltb (generation lines u) 65535) h.1) v.lives;
      young = omega (arith, ltb-true (generation lines u) 65535 (and_r (not (is_live lines u)) (ltb (generation lines u) 65535) h.1));
    },
    λ v. (v.there, and_b _ _ ((not_means (is_live lines u) (live_means u)).1 (λ e. v.dead (record { there = v.there; lives = e }))) (lt-ltb (generation lines u) 65535 (omega (arith, v.young)))),
  )

  pub taken_means : ¬ Some (Vacant lines) → AllTaken lines
  taken_means none s h = go (is_live lines s) refl (order 65535 (generation lines s))
    where
      go : (b : Bool) → is_live lines s ≡ b → (65535 ≤ generation lines s) ⊎ (generation lines s < 65535) → Live lines s ⊎ Retired lines s
      go true e o = inl (record { there = h; lives = (live_means s).0 e })
      go false e (inl o) = inr o
      go false e (inr o) = absurd (none (s, record { there = h; dead = λ v. fails (is_live lines s) (live_means s) e v.lives; young = o }))

  pub not_taken : {s : ℕ} → Vacant lines s → ¬ AllTaken lines
  not_taken {s} v f = go (f s v.there)
    where
      go : Live lines s ⊎ Retired lines s → ⊥
      go (inl k) = v.dead k
      go (inr k) = omega (arith, v.young)

-- 7
pub room_means : (rule : Rule) (t : Tables) (lines : List ℕ) → (not (room_for rule t lines) ≡ true) ↔ NeedsMore rule t (live_lines lines)
unfolding room_for
room_means rule t lines = (
  λ e. chain_fails (leb n N) (leb m M ∷ []) (not-true (room_for rule t lines) e) (λ f. inl (leb-false _ _ f)) (λ f. inr (leb-false _ _ f), tt),
  λ h. ap not (false_by (room_for rule t lines) (λ e. back h (chain→ (leb n N) (leb m M ∷ []) e))),
)
  where
    n : ℕ
    n = length (nodes_of (tree rule (live_lines lines)))

    m : ℕ
    m = length (listings_of (tree rule (live_lines lines)))

    N : ℕ
    N = length t.nodes

    M : ℕ
    M = length t.listings

    back : NeedsMore rule t (live_lines lines) → (leb n N ≡ true) × Each (leb m M ∷ []) → ⊥
    back (inl h) e = omega (arith, leb-true n N e.0)
    back (inr h) e = omega (arith, leb-true m M e.1.0)

-- 8
module _ (lines : List ℕ) (h : ℕ) where
  abbrev known_tests : List Bool
  known_tests = is_live lines (h / 65536) ∷ eqb (generation lines (h / 65536)) (h % 65536) ∷ []

  pub unknown_means : (not (known lines h) ≡ true) ↔ Unknown lines h
  unfolding known
  unknown_means = (
    λ e. chain_fails (ltb (h / 65536) (length lines / 8)) known_tests (not-true (known lines h) e) (λ f. beyond (ltb-false _ _ f))
        (λ f. not_live (fails (is_live lines (h / 65536)) (live_means lines (h / 65536)) f), (λ f. other_generation (λ q. eqb-false (generation lines (h / 65536)) (h % 65536) f (omega (arith, q))), tt)),
    λ u. ap not (false_by (known lines h) (λ e. back u (chain→ (ltb (h / 65536) (length lines / 8)) known_tests e))),
  )
    where
      back : Unknown lines h → (ltb (h / 65536) (length lines / 8) ≡ true) × Each known_tests → ⊥
      back (beyond k) e = omega (arith, ltb-true (h / 65536) (length lines / 8) e.0)
      back (not_live k) e = k ((live_means lines (h / 65536)).0 e.1.0)
      back (other_generation k) e = k (omega (arith, eqb-true (generation lines (h / 65536)) (h % 65536) e.1.1.0))

-- 1 of locate
module _ (t : Tables) (points answers : List ℕ) where
  pub lists_mean : (not (lengths_fit t && eqb (length points) (2 * length answers)) ≡ true) ↔ WrongLists t points answers
  lists_mean = (
    λ e. chain_fails (lengths_fit t) (eqb (length points) (2 * length answers) ∷ []) (not-true (lengths_fit t && eqb (length points) (2 * length answers)) e)
        (λ f. tables (fails (lengths_fit t) (lengths_mean t) f)) (λ f. uneven (eqb-false _ _ f) (order (length points % 2) 0), tt),
    λ w. ap not (false_by (lengths_fit t && eqb (length points) (2 * length answers)) (λ e. back w (and_l (lengths_fit t) (eqb (length points) (2 * length answers)) e) (eqb-true _ _ (and_r (lengths_fit t) (eqb (length points) (2 * length answers)) e)))),
  )
    where
      uneven : (length points ≡ 2 * length answers → ⊥) → (length points % 2 ≤ 0) ⊎ (0 < length points % 2) → WrongLists t points answers
      uneven d (inl k) = not_half (λ e. d (omega arith))
      uneven d (inr k) = odd (omega arith)

      back : WrongLists t points answers → lengths_fit t ≡ true → length points ≡ 2 * length answers → ⊥
      back (tables w) e f = w ((lengths_mean t).0 e)
      back (odd w) e f = omega arith
      back (not_half w) e f = w (omega arith)
