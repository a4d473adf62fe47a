-- The computed answer is the one that the rule over heights allows, and the only one.
use Rattle.std.specs.Prelude.{◌≡◌, ◌↔◌, ◌⊎◌, Bool, not, ◌&&◌, ◌||◌, ℕ, zero, suc, ◌+◌, ◌*◌, ◌/◌, ◌≤◌, ◌<◌, length, eqb, if◌then◌else◌}
use Rattle.std.proofs.Math.Path.{refl, ap, subst}
use Rattle.std.proofs.Common.{sym, ◌∙◌, inl, inr, arith, le-leb, lt-ltb, le-ltb, eqb-true, eq-eqb}
use Rattle.std.proofs.Math.Bool.{true, false}
use mathlib.Core.List.Memᴰ
use mathlib.Core.List.{List, [], ◌∷◌, map, Memᴰ}
use Rattle.std.proofs.lemmas.Bool.{lt-leb, eqb-false, not-true}
use Rattle.definitions.specs.declared.Point.{Point}
use Rattle.algebra.specs.Lists.{those_yes, those_no, in_those, of_those, every→, in_up_from, to_up_from}
use Rattle.algebra.specs.Signs.{equal_of_zero}
use Rattle.algebra.specs.Tests.{no_path, and_b, or_cases}
use Rattle.algebra.specs.Words.{those, every, up_from}
use Rattle.definitions.specs.Lookup.{below, above, run, higher, lower, foremost, upper_label, lower_label, Answering, on_line, from_below, from_above, no_line, answering, answer_of, answer_at, answer_to}
use Rattle.definitions.specs.Meaning.{spot_of, CountsBelow, CountsAbove, NoneHigher, NoneLower, Live, Through, UpperLabel, LowerLabel, Tells, slot_of, upper_of, lower_of, none_of, Answers, upon, under, over, outside, AnswersTo, off_grid, within}
use Rattle.definitions.specs.Shape.{Line, grid_point, conflict, on}
use Rattle.definitions.specs.Tables.{x1, x2, is_live, slots_of, line_at, live_slots, live_lines, on_grid, none_conflict}
use Rattle.plane.specs.Compare.{order}
use Rattle.plane.specs.Crossing.{spot_on, on→, on←}
use Rattle.meaning.specs.Height.{counts_below, counts_above, over_is, none_higher→, none_higher←}
use Rattle.plane.specs.Meeting.{turn_at_is}
use Rattle.meaning.specs.Ahead.{counts, counts_over, Ahead, ahead, ahead→, ahead←, ahead_trans, ahead_asym, ahead_total}
use Rattle.meaning.specs.Rank.{Over, clear_of, run_some}

-- live slots
pub live→ : (lines : List ℕ) (s : ℕ) → Memᴰ s (live_slots lines) → Live lines s
unfolding live_slots slots_of is_live
live→ lines s m =
    let k = of_those (is_live lines) (up_from 0 (length lines / 8)) m in
    record { there = omega (arith, (in_up_from 0 (length lines / 8) s k.0).1); lives = eqb-true _ _ k.1 }

pub live← : (lines : List ℕ) (s : ℕ) → Live lines s → Memᴰ s (live_slots lines)
unfolding live_slots slots_of is_live
live← lines s v = in_those (is_live lines) (up_from 0 (length lines / 8)) (to_up_from 0 (length lines / 8) s (omega arith) (omega (arith, v.there))) (eq-eqb _ _ v.lives)

-- the label of the upper side
pub upper_means : (lines : List ℕ) (s n : ℕ) → (n ≡ upper_label lines s) ↔ UpperLabel lines s n
unfolding upper_label
upper_means lines s n = (λ e. record { left = λ h. rw (lt-ltb (x1 lines s) (x2 lines s) h) at e; right = λ h. rw (le-ltb (x1 lines s) (x2 lines s) h) at e }, λ u. go u (order (x2 lines s) (x1 lines s)))
  where
    go : UpperLabel lines s n → (x2 lines s ≤ x1 lines s) ⊎ (x1 lines s < x2 lines s) → n ≡ upper_label lines s
    go u (inl h) = rw (le-ltb (x1 lines s) (x2 lines s) h) (u.right h)
    go u (inr h) = rw (lt-ltb (x1 lines s) (x2 lines s) h) (u.left h)

-- and of the lower
pub lower_means : (lines : List ℕ) (s n : ℕ) → (n ≡ lower_label lines s) ↔ LowerLabel lines s n
unfolding lower_label
lower_means lines s n = (λ e. record { right = λ h. rw (lt-ltb (x1 lines s) (x2 lines s) h) at e; left = λ h. rw (le-ltb (x1 lines s) (x2 lines s) h) at e }, λ u. go u (order (x2 lines s) (x1 lines s)))
  where
    go : LowerLabel lines s n → (x2 lines s ≤ x1 lines s) ⊎ (x1 lines s < x2 lines s) → n ≡ lower_label lines s
    go u (inl h) = rw (le-ltb (x1 lines s) (x2 lines s) h) (u.left h)
    go u (inr h) = rw (lt-ltb (x1 lines s) (x2 lines s) h) (u.right h)

-- the number by which it answers
pub tells_iff : (lines : List ℕ) (a : Answering) (n : ℕ) → (n ≡ answer_of lines a) ↔ Tells lines a n
unfolding answer_of
tells_iff lines (on_line s) n = (λ e. slot_of e, elim [ slot_of e ↦ e ])
tells_iff lines (from_below s) n = (λ e. upper_of ((upper_means lines s n).0 e), elim [ upper_of u ↦ (upper_means lines s n).1 u ])
tells_iff lines (from_above s) n = (λ e. lower_of ((lower_means lines s n).0 e), elim [ lower_of u ↦ (lower_means lines s n).1 u ])
tells_iff lines no_line n = (λ e. none_of e, elim [ none_of e ↦ e ])

-- through p
pub through_is : (p : Point) (l : Line) → (on p l ≡ true) ↔ Through p l
unfolding Through spot_of
through_is p l = (
  λ e. spot_on p l (on→ p l e),
  λ t. on← p l (record {
    even = level l.a.x.0 l.a.y.0 l.b.x.0 l.b.y.0 p.x.0 p.y.0 (equal_of_zero (turn_at_is l.a l.b (spot_of p)) t.straight);
    w = omega (arith, t.from_west);
    e = omega (arith, t.to_east);
    s = omega (arith, t.from_south);
    n = omega (arith, t.to_north);
  }),
)
  where
    level : (ax ay bx by X Y : ℕ) → bx * Y + by * (ax * 1) + ay * X ≡ bx * (ay * 1) + ax * Y + by * X → bx * Y + ay * X + by * ax ≡ bx * ay + ax * Y + by * X
    level ax ay bx by X Y e = omega arith

-- lists of slots, and of their lines
module _ (f : ℕ → Line) where
  pub of_map : {l : Line} (xs : List ℕ) → Memᴰ l (map f xs) → (s : ℕ) × Memᴰ s xs × (l ≡ f s)
  of_map [] m = absurd (Memᴰ.not-nil m)
  of_map (x ∷ xs) (Memᴰ.head e) = (x, Memᴰ.head refl, e)
  of_map (x ∷ xs) (Memᴰ.tail m) = let h = of_map xs m in (h.0, Memᴰ.tail h.1, h.2)

  pub to_map : {s : ℕ} (xs : List ℕ) → Memᴰ s xs → Memᴰ (f s) (map f xs)
  to_map [] m = absurd (Memᴰ.not-nil m)
  to_map (x ∷ xs) (Memᴰ.head e) = Memᴰ.head (ap f e)
  to_map (x ∷ xs) (Memᴰ.tail m) = Memᴰ.tail (to_map xs m)

-- rising slots
pub data Up : ℕ → List ℕ → Type 0 where
  done : {lo : ℕ} → Up lo []
  next : {lo x : ℕ} {xs : List ℕ} → lo ≤ x → Up x xs → Up lo (x ∷ xs)

up_from_lem : {lo hi : ℕ} {xs : List ℕ} → lo ≤ hi → Up hi xs → Up lo xs
up_from_lem h done = done
up_from_lem {lo} {hi} h (next {x = x} k u) = next {lo = lo} {x = x} (omega arith) u

up_count : (i n : ℕ) → Up i (up_from i n)
unfolding up_from
up_count i zero = done
up_count i (suc n) = next {lo = i} {x = i} (omega arith) (up_from_lem {lo = i} {hi = suc i} (omega arith) (up_count (suc i) n))

pub up_low : {lo u : ℕ} {xs : List ℕ} → Up lo xs → Memᴰ u xs → lo ≤ u
up_low done m = absurd (Memᴰ.not-nil m)
up_low (next {lo = lo} {x = x} h k) (Memᴰ.head e) = omega arith
up_low {lo} {u} (next {x = x} h k) (Memᴰ.tail m) = let j : x ≤ u = up_low k m in omega arith

up_those : (q : ℕ → Bool) {lo : ℕ} {xs : List ℕ} → Up lo xs → Up lo (those q xs)
unfolding those
up_those q done = done
up_those q (next {lo = lo} {x = x} {xs = xs} h k) = go (q x) refl (up_those q k)
  where
    go : (t : Bool) → q x ≡ t → Up x (those q xs) → Up lo (those q (x ∷ xs))
    go true e u = rw (those_yes q x xs e) (next h u)
    go false e u = rw (those_no q x xs e) (up_from_lem h u)

pub up_live : (lines : List ℕ) → Up 0 (live_slots lines)
unfolding live_slots slots_of
up_live lines = up_those (is_live lines) (up_count 0 (length lines / 8))

-- the first that passes is the lowest
pub record First (f : ℕ → Line) (q : Line → Bool) (xs : List ℕ) (l : Line) : Type 0 where
  pub slot : ℕ
  pub is_in : Memᴰ slot xs
  pub itself : l ≡ f slot
  pub passes : q (f slot) ≡ true
  pub lowest : (u : ℕ) → Memᴰ u xs → q (f u) ≡ true → slot ≤ u

pub first : (f : ℕ → Line) (q : Line → Bool) {lo : ℕ} (xs : List ℕ) (l : Line) (more : List Line) → Up lo xs → those q (map f xs) ≡ l ∷ more → First f q xs l
unfolding those
first f q [] l more up e = let z : ◌≡◌ {A = ℕ} 0 1 = cc in absurd (omega arith)
first f q (x ∷ xs) l more (next h k) e = go (q (f x)) refl (λ j. first f q xs l more k j)
  where
    low : (u : ℕ) → Memᴰ u (x ∷ xs) → q (f u) ≡ true → x ≤ u
    low u (Memᴰ.head i) j = omega arith
    low u (Memᴰ.tail m) j = up_low k m

    later : First f q xs l → q (f x) ≡ false → First f q (x ∷ xs) l
    later r d = record { slot = r.slot; is_in = Memᴰ.tail r.is_in; itself = r.itself; passes = r.passes; lowest = lowest }
      where
        lowest : (u : ℕ) → Memᴰ u (x ∷ xs) → q (f u) ≡ true → r.slot ≤ u
        lowest u (Memᴰ.head i) j = no_path (sym d ∙ ap (λ (n : ℕ). q (f n)) (sym i) ∙ j)
        lowest u (Memᴰ.tail m) j = r.lowest u m j

    go : (t : Bool) → q (f x) ≡ t → (those q (map f xs) ≡ l ∷ more → First f q xs l) → First f q (x ∷ xs) l
    go true d r = record { slot = x; is_in = Memᴰ.head refl; itself = cc (sym e, those_yes q (f x) (map f xs) d); passes = d; lowest = low }
    go false d r = later (r (sym (those_no q (f x) (map f xs) d) ∙ e)) d

-- the foremost of a list
module _ (d : Bool) (x : ℕ) where
  irreflexive : (l : Line) → Ahead d x l l → ⊥
  irreflexive l h = ahead_asym d x l l h h

  abbrev Runs : List Line → Type 0
  Runs ms = (m : Line) → Memᴰ m ms → 0 < run m

  keeps : (ms : List Line) (l k : Line) → Runs (l ∷ ms) → 0 < run k → (Ahead d x k l → ⊥) → Ahead d x k (foremost (ahead d x) l ms) → ⊥
  unfolding foremost
  keeps [] l k r h f = f
  keeps (m ∷ ms) l k r h f = go (ahead d x m l) refl (λ i j. keeps ms m k i h j) (λ i. keeps ms l k i h f)
    where
      go : (t : Bool) → ahead d x m l ≡ t → (Runs (m ∷ ms) → (Ahead d x k m → ⊥) → Ahead d x k (foremost (ahead d x) m ms) → ⊥)
          → (Runs (l ∷ ms) → Ahead d x k (foremost (ahead d x) l ms) → ⊥) → Ahead d x k (foremost (ahead d x) (if t then m else l) ms) → ⊥
      go true e a b = a (λ n i. r n (Memᴰ.tail i)) (λ i. f (ahead_trans d x k m l h (r m (Memᴰ.tail (Memᴰ.head refl))) (r l (Memᴰ.head refl)) i (ahead→ d x m l e)))
      go false e a b = b without
        where
          without : (n : Line) → Memᴰ n (l ∷ ms) → 0 < run n
          without n (Memᴰ.head i) = r n (Memᴰ.head i)
          without n (Memᴰ.tail i) = r n (Memᴰ.tail (Memᴰ.tail i))

  pub foremost_best : (ms : List Line) (l k : Line) → Runs (l ∷ ms) → Memᴰ k (l ∷ ms) → Ahead d x k (foremost (ahead d x) l ms) → ⊥
  unfolding foremost
  foremost_best [] l k r i = only i
    where
      only : Memᴰ k (l ∷ []) → Ahead d x k l → ⊥
      only (Memᴰ.head e) h = irreflexive l (subst (λ (n : Line). Ahead d x n l) e h)
      only (Memᴰ.tail j) h = Memᴰ.not-nil j
  foremost_best (m ∷ ms) l k r i = go (ahead d x m l) refl i (λ a b. foremost_best ms m k a b) (λ a b. foremost_best ms l k a b)
    where
      without : (n : Line) → Memᴰ n (l ∷ ms) → 0 < run n
      without n (Memᴰ.head i) = r n (Memᴰ.head i)
      without n (Memᴰ.tail i) = r n (Memᴰ.tail (Memᴰ.tail i))

      past : ahead d x m l ≡ false → (k ≡ m) → Ahead d x k l → ⊥
      past e q h = no_path (sym e ∙ ahead← d x m l (subst (λ (n : Line). Ahead d x n l) q h))

      go : (t : Bool) → ahead d x m l ≡ t → Memᴰ k (l ∷ m ∷ ms) → (Runs (m ∷ ms) → Memᴰ k (m ∷ ms) → Ahead d x k (foremost (ahead d x) m ms) → ⊥)
          → (Runs (l ∷ ms) → Memᴰ k (l ∷ ms) → Ahead d x k (foremost (ahead d x) l ms) → ⊥) → Ahead d x k (foremost (ahead d x) (if t then m else l) ms) → ⊥
      go true e (Memᴰ.tail j) a b = a (λ n i. r n (Memᴰ.tail i)) j
      go true e (Memᴰ.head q) a b =
          keeps ms m k (λ n i. r n (Memᴰ.tail i)) (r k (Memᴰ.head q)) (λ h. ahead_asym d x m l (ahead→ d x m l e) (subst (λ (n : Line). Ahead d x n m) q h))
      go false e (Memᴰ.head q) a b = b without (Memᴰ.head q)
      go false e (Memᴰ.tail (Memᴰ.head q)) a b = keeps ms l k without (subst (λ (n : Line). 0 < run n) (sym q) (r m (Memᴰ.tail (Memᴰ.head refl)))) (past e q)
      go false e (Memᴰ.tail (Memᴰ.tail j)) a b = b without (Memᴰ.tail j)

  pub foremost_in : (ms : List Line) (l : Line) → Memᴰ (foremost (ahead d x) l ms) (l ∷ ms)
  unfolding foremost
  foremost_in [] l = Memᴰ.head refl
  foremost_in (m ∷ ms) l = go (ahead d x m l) (foremost_in ms m) (foremost_in ms l)
    where
      skip : {k : Line} → Memᴰ k (l ∷ ms) → Memᴰ k (l ∷ m ∷ ms)
      skip (Memᴰ.head e) = Memᴰ.head e
      skip (Memᴰ.tail i) = Memᴰ.tail (Memᴰ.tail i)

      go : (t : Bool) → Memᴰ (foremost (ahead d x) m ms) (m ∷ ms) → Memᴰ (foremost (ahead d x) l ms) (l ∷ ms) → Memᴰ (foremost (ahead d x) (if t then m else l) ms) (l ∷ m ∷ ms)
      go true a b = Memᴰ.tail a
      go false a b = skip b

module _ (lines : List ℕ) (p : Point) where
  pub live_mem : (l : Line) → Memᴰ l (live_lines lines) → (s : ℕ) × Live lines s × (l ≡ line_at lines s)
  unfolding live_lines
  live_mem l m = let h = of_map (line_at lines) (live_slots lines) m in (h.0, live→ lines h.0 h.1, h.2)

  pub mem_live : (s : ℕ) → Live lines s → Memᴰ (line_at lines s) (live_lines lines)
  unfolding live_lines
  mem_live s v = to_map (line_at lines) (live_slots lines) (live← lines s v)

  -- the line that goes before all others that count
  pub record Foremost (d : Bool) (s : ℕ) : Type 0 where
    pub lives : Live lines s
    pub passes : counts d p (line_at lines s) ≡ true
    pub tops : (u : ℕ) → Live lines u → counts d p (line_at lines u) ≡ true → Ahead d p.x.0 (line_at lines u) (line_at lines s) → ⊥

  pub none_through : those (on p) (live_lines lines) ≡ [] → (u : ℕ) → Live lines u → Through p (line_at lines u) → ⊥
  none_through e u v t = Memᴰ.not-nil (rw e at (in_those (on p) (live_lines lines) (mem_live u v) ((through_is p (line_at lines u)).1 t)))

  none_counts : (d : Bool) → those (counts d p) (live_lines lines) ≡ [] → (u : ℕ) → Live lines u → counts d p (line_at lines u) ≡ true → ⊥
  none_counts d e u v t = Memᴰ.not-nil (rw e at (in_those (counts d p) (live_lines lines) (mem_live u v) t))

  foremost_of : (d : Bool) (l : Line) (more : List Line) → those (counts d p) (live_lines lines) ≡ l ∷ more → (s : ℕ) × Foremost d s × ((foremost (ahead d p.x.0) l more).slot ≡ s)
  unfolding line_at
  foremost_of d l more e =
      let h = live_mem (foremost (ahead d p.x.0) l more) inside.0 in (
        h.0,
        record {
          lives = h.1;
          passes = subst (λ (k : Line). counts d p k ≡ true) h.2 inside.1;
          tops = λ u v b. subst (λ (k : Line). Ahead d p.x.0 (line_at lines u) k → ⊥) h.2 (foremost_best d p.x.0 more l (line_at lines u) runs (subst (λ (ms : List Line). Memᴰ (line_at lines u) ms) e (in_those (counts d p) (live_lines lines) (mem_live u v) b)));
        },
        ap (λ (k : Line). k.slot) h.2,
      )
    where
      inside : Memᴰ (foremost (ahead d p.x.0) l more) (live_lines lines) × (counts d p (foremost (ahead d p.x.0) l more) ≡ true)
      inside = of_those (counts d p) (live_lines lines) (subst (λ (ms : List Line). Memᴰ (foremost (ahead d p.x.0) l more) ms) (sym e) (foremost_in d p.x.0 more l))

      runs : (m : Line) → Memᴰ m (l ∷ more) → 0 < run m
      runs m i = run_some p.x.0 m (counts_over d p m (of_those (counts d p) (live_lines lines) (subst (λ (ms : List Line). Memᴰ m ms) (sym e) i)).1)

  ob : {l : Line} → CountsBelow p l → Over p.x.0 l
  ob {l} d = over_is p.x.0 l d.from_west d.before_east

  oa : {l : Line} → CountsAbove p l → Over p.x.0 l
  oa {l} d = over_is p.x.0 l d.from_west d.before_east

  -- the foremost line is the paper's
  pub foremost_below : (s : ℕ) → ((u : ℕ) → Live lines u → Through p (line_at lines u) → ⊥) → Foremost true s → Answers lines p (from_below s)
  unfolding counts Ahead
  foremost_below s none b = under none s b.lives c
      (λ u v e. none_higher← p.x.0 (line_at lines s) (line_at lines u) c.spot e.spot (ob c) (ob e) c.there e.there (b.tops u v ((counts_below p (line_at lines u)).1 e)))
    where
      c : CountsBelow p (line_at lines s)
      c = (counts_below p (line_at lines s)).0 (unfold counts in b.passes)

  pub foremost_above : (s : ℕ) → ((u : ℕ) → Live lines u → Through p (line_at lines u) → ⊥) → ((u : ℕ) → Live lines u → CountsBelow p (line_at lines u) → ⊥) → Foremost false s → Answers lines p (from_above s)
  unfolding counts Ahead NoneLower NoneHigher
  foremost_above s none no_below b = over none no_below s b.lives c
      (λ u v e. none_higher← p.x.0 (line_at lines u) (line_at lines s) e.spot c.spot (oa e) (oa c) e.there c.there (b.tops u v ((counts_above p (line_at lines u)).1 e)))
    where
      c : CountsAbove p (line_at lines s)
      c = (counts_above p (line_at lines s)).0 (unfold counts in b.passes)

  -- the computed answer is an answer
  pub answering_holds : Answers lines p (answering lines p)
  unfolding answering live_lines line_at counts ahead lower
  answering_holds = ons (those (on p) (live_lines lines)) refl
    where
      aboves : (none : (u : ℕ) → Live lines u → Through p (line_at lines u) → ⊥) → ((u : ℕ) → Live lines u → CountsBelow p (line_at lines u) → ⊥) → (ms : List Line) → those (above p) (live_lines lines) ≡ ms
          → Answers lines p (elim ms [ l ∷ more ↦ from_above (foremost (lower p.x.0) l more).slot | [] ↦ no_line ])
      aboves none no_below [] e = outside none no_below (λ u v c. none_counts false e u v ((counts_above p (line_at lines u)).1 c))
      aboves none no_below (l ∷ more) e = let b = foremost_of false l more e in subst (λ (s : ℕ). Answers lines p (from_above s)) (sym b.2) (foremost_above b.0 none no_below b.1)

      belows : (none : (u : ℕ) → Live lines u → Through p (line_at lines u) → ⊥) (ms : List Line) → those (below p) (live_lines lines) ≡ ms
          → Answers lines p (elim ms [
            | l ∷ more ↦ from_below (foremost (higher p.x.0) l more).slot
            | [] ↦ elim (those (above p) (live_lines lines)) [ l ∷ more ↦ from_above (foremost (lower p.x.0) l more).slot | [] ↦ no_line ]
          ])
      belows none [] e = aboves none (λ u v c. none_counts true e u v ((counts_below p (line_at lines u)).1 c)) (those (above p) (live_lines lines)) refl
      belows none (l ∷ more) e = let b = foremost_of true l more e in subst (λ (s : ℕ). Answers lines p (from_below s)) (sym b.2) (foremost_below b.0 none b.1)

      ons : (ms : List Line) → those (on p) (live_lines lines) ≡ ms
          → Answers lines p (elim ms [
            | l ∷ more ↦ on_line l.slot
            | [] ↦ elim (those (below p) (live_lines lines)) [
              | l ∷ more ↦ from_below (foremost (higher p.x.0) l more).slot
              | [] ↦ elim (those (above p) (live_lines lines)) [ l ∷ more ↦ from_above (foremost (lower p.x.0) l more).slot | [] ↦ no_line ]
            ]
          ])
      ons [] e = belows (none_through e) (those (below p) (live_lines lines)) refl
      ons (l ∷ more) e =
          let f = first (line_at lines) (on p) (live_slots lines) l more (up_live lines) e in
          subst (λ (k : Line). Answers lines p (on_line k.slot)) (sym f.itself)
          (upon f.slot (live→ lines f.slot f.is_in) ((through_is p (line_at lines f.slot)).0 f.passes)
          (λ u v t. f.lowest u (live← lines u v) ((through_is p (line_at lines u)).1 t)))

-- no two live lines conflict
pub none_conflicts : (lines : List ℕ) → none_conflict lines ≡ true → (s u : ℕ) → Live lines s → Live lines u → (s ≡ u → ⊥) → conflict (line_at lines s) (line_at lines u) ≡ false
unfolding none_conflict
none_conflicts lines e s u v w d = go (or_cases (eqb s u) (not (conflict (line_at lines s) (line_at lines u))) pair)
  where
    pair : (eqb s u || not (conflict (line_at lines s) (line_at lines u))) ≡ true
    pair =
        every→ (λ (u : ℕ). eqb s u || not (conflict (line_at lines s) (line_at lines u))) (live_slots lines)
        (every→ (λ (s : ℕ). every (λ (u : ℕ). eqb s u || not (conflict (line_at lines s) (line_at lines u))) (live_slots lines)) (live_slots lines) e (live← lines s v))
        (live← lines u w)

    go : (eqb s u ≡ true) ⊎ (not (conflict (line_at lines s) (line_at lines u)) ≡ true) → conflict (line_at lines s) (line_at lines u) ≡ false
    go (inl h) = absurd (d (eqb-true _ _ h))
    go (inr h) = not-true _ h

module _ (lines : List ℕ) (p : Point) (sound : none_conflict lines ≡ true) where
  -- over p's x, the order of live lines is strict and total
  pub live_total : (d : Bool) (s u : ℕ) → Live lines s → Live lines u → Over p.x.0 (line_at lines s) → Over p.x.0 (line_at lines u)
      → (s ≡ u) ⊎ (Ahead d p.x.0 (line_at lines s) (line_at lines u) ⊎ Ahead d p.x.0 (line_at lines u) (line_at lines s))
  live_total d s u v w o q = go (eqb s u) refl
    where
      go : (t : Bool) → eqb s u ≡ t → (s ≡ u) ⊎ (Ahead d p.x.0 (line_at lines s) (line_at lines u) ⊎ Ahead d p.x.0 (line_at lines u) (line_at lines s))
      go true e = inl (eqb-true _ _ e)
      go false e = inr (ahead_total d p.x.0 (line_at lines s) (line_at lines u) o q (clear_of p.x.0 _ _ o q (none_conflicts lines sound s u v w (eqb-false _ _ e))))

  -- one foremost line, at most
  pub foremost_one : (d : Bool) (s u : ℕ) → Foremost lines p d s → Foremost lines p d u → s ≡ u
  foremost_one d s u b c = go (live_total d s u b.lives c.lives (counts_over d p (line_at lines s) b.passes) (counts_over d p (line_at lines u) c.passes))
    where
      go : (s ≡ u) ⊎ (Ahead d p.x.0 (line_at lines s) (line_at lines u) ⊎ Ahead d p.x.0 (line_at lines u) (line_at lines s)) → s ≡ u
      go (inl e) = e
      go (inr (inl h)) = absurd (c.tops s b.lives b.passes h)
      go (inr (inr h)) = absurd (b.tops u c.lives c.passes h)

  to_below : (s : ℕ) → Live lines s → (b : CountsBelow p (line_at lines s))
      → ((u : ℕ) → Live lines u → (c : CountsBelow p (line_at lines u)) → NoneHigher (line_at lines s) b.spot (line_at lines u) c.spot) → Foremost lines p true s
  unfolding counts Ahead
  to_below s v b f =
      record {
        lives = v;
        passes = (counts_below p (line_at lines s)).1 b;
        tops = λ u w h. let e = (counts_below p (line_at lines u)).0 h in
            none_higher→ p.x.0 (line_at lines s) (line_at lines u) b.spot e.spot (ob lines p b) (ob lines p e) b.there e.there (f u w e);
      }

  to_above : (s : ℕ) → Live lines s → (b : CountsAbove p (line_at lines s))
      → ((u : ℕ) → Live lines u → (c : CountsAbove p (line_at lines u)) → NoneLower (line_at lines s) b.spot (line_at lines u) c.spot) → Foremost lines p false s
  unfolding counts Ahead NoneLower NoneHigher
  to_above s v b f =
      record {
        lives = v;
        passes = (counts_above p (line_at lines s)).1 b;
        tops = λ u w h. let e = (counts_above p (line_at lines u)).0 h in
            none_higher→ p.x.0 (line_at lines u) (line_at lines s) e.spot b.spot (oa lines p e) (oa lines p b) e.there b.there (f u w e);
      }

  -- two answers are one
  pub answers_one : (a b : Answering) → Answers lines p a → Answers lines p b → a ≡ b
  answers_one a b (upon s v t low) (upon u w t' low') = let h : s ≤ u = low u w t' in let i : u ≤ s = low' s v t in ap on_line (omega arith)
  answers_one a b (upon s v t low) (under f u w c g) = absurd (f s v t)
  answers_one a b (upon s v t low) (over f g u w c h) = absurd (f s v t)
  answers_one a b (upon s v t low) (outside f g h) = absurd (f s v t)
  answers_one a b (under f u w c g) (upon s v t low) = absurd (f s v t)
  answers_one a b (under f s v c g) (under f' u w e g') = ap from_below (foremost_one true s u (to_below s v c g) (to_below u w e g'))
  answers_one a b (under f s v c g) (over f' g' u w e h) = absurd (g' s v c)
  answers_one a b (under f s v c g) (outside f' g' h) = absurd (g' s v c)
  answers_one a b (over f g u w c h) (upon s v t low) = absurd (f s v t)
  answers_one a b (over f' g' u w e h) (under f s v c g) = absurd (g' s v c)
  answers_one a b (over f g s v c h) (over f' g' u w e h') = ap from_above (foremost_one false s u (to_above s v c h) (to_above u w e h'))
  answers_one a b (over f g s v c h) (outside f' g' h') = absurd (h' s v c)
  answers_one a b (outside f g h) (upon s v t low) = absurd (f s v t)
  answers_one a b (outside f' g' h) (under f s v c g) = absurd (g' s v c)
  answers_one a b (outside f' g' h') (over f g s v c h) = absurd (h' s v c)
  answers_one a b (outside f g h) (outside f' g' h') = refl

  pub answering_iff : (a : Answering) → (a ≡ answering lines p) ↔ Answers lines p a
  answering_iff a = (λ e. subst (λ (b : Answering). Answers lines p b) (sym e) (answering_holds lines p), λ h. answers_one a (answering lines p) h (answering_holds lines p))

-- the same, over grid numbers
pub answer_to_iff : (lines : List ℕ) → none_conflict lines ≡ true → (x y n : ℕ) → (n ≡ answer_to lines x y) ↔ AnswersTo lines x y n
unfolding answer_to answer_at
answer_to_iff lines sound x y n = go (order x 16383) (order y 16383)
  where
    inx : (16383 < x) ⊎ (16383 < y) → x ≤ 16383 → y ≤ 16383 → ⊥
    inx (inl h) i j = omega arith
    inx (inr h) i j = omega arith

    off : (on_grid x && on_grid y) ≡ false → (16383 < x) ⊎ (16383 < y) → (n ≡ (if on_grid x && on_grid y then answer_at lines (grid_point x y) else 4294967295)) ↔ AnswersTo lines x y n
    off e h = rw e (λ i. off_grid h i, back)
      where
        back : AnswersTo lines x y n → n ≡ 4294967295
        back (off_grid i j) = j
        back (within i j a b k) = absurd (inx h i j)

    both : (on_grid x && on_grid y) ≡ true → x ≤ 16383 → y ≤ 16383 → (n ≡ (if on_grid x && on_grid y then answer_at lines (grid_point x y) else 4294967295)) ↔ AnswersTo lines x y n
    both e h k = rw e (λ i. within h k (answering lines (grid_point x y)) (answering_holds lines (grid_point x y)) ((tells_iff lines (answering lines (grid_point x y)) n).0 i), back)
      where
        back : AnswersTo lines x y n → n ≡ answer_at lines (grid_point x y)
        back (off_grid i j) = absurd (inx i h k)
        back (within i j a b t) = (tells_iff lines a n).1 t ∙ ap (answer_of lines) ((answering_iff lines (grid_point x y) sound a).1 b)

    go : (x ≤ 16383) ⊎ (16383 < x) → (y ≤ 16383) ⊎ (16383 < y) → (n ≡ (if on_grid x && on_grid y then answer_at lines (grid_point x y) else 4294967295)) ↔ AnswersTo lines x y n
    go (inl h) (inl k) = both (and_b _ _ (le-leb x 16383 h) (le-leb y 16383 k)) h k
    go (inr h) k = off (rw (lt-leb x 16383 h) refl) (inl h)
    go (inl h) (inr k) = off (rw (le-leb x 16383 h, lt-leb y 16383 k) refl) (inr k)
