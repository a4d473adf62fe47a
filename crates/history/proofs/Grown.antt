-- A sound map lent longer, with zeros appended, is sound and holds the same lines under the same handles. Demand 3 itself is at fixed lengths.
use Rattle.std.specs.Prelude.{◌≡◌, ◌⊎◌, Bool, ◌&&◌, ℕ, zero, suc, ◌+◌, ◌*◌, ◌/◌, ◌%◌, ◌<◌, ltb, length, replicate, get_or}
use Rattle.std.proofs.Math.Path.{refl, ap}
use Rattle.std.proofs.Common.{sym, ◌∙◌, subst, inl, inr, arith, length-append}
use Rattle.std.proofs.Math.Bool.{true, false}
use mathlib.Core.List.{List, [], ◌∷◌, ◌++◌, map, append_assoc}
use Rattle.std.proofs.Math.Decide.{dec_le}
use Rattle.std.proofs.Math.Dec.{eqb}
use Rattle.std.proofs.lemmas.List.{length-replicate}
use Rattle.std.proofs.Math.ListN.{get_or-eq_default}
use borrow.Author.Tests.{eqb-true, lt-ltb}
use Rattle.algebra.specs.Lists.{in_those, of_those, in_up_from, to_up_from, up_from_rising, those_rising, rising_same}
use Rattle.algebra.specs.Words.{up_from}
use Rattle.definitions.specs.Calls.{known}
use Rattle.definitions.specs.Meaning.{Live, LiveSlot, EmptySlot, Conflicts, Tabled, SoundMap}
use Rattle.definitions.specs.Shape.{Line, grid_point}
use Rattle.definitions.specs.Tables.{Tables, live, slots_of, is_live, line_at, live_slots, live_lines}
use Rattle.definitions.specs.Tree.{Rule, Tree, tree}
use Rattle.meaning.specs.Slots.{zero_at}
use Rattle.meaning.specs.Stored.{stored_lists, lists_stored}
use Rattle.history.specs.Demand.{held_at, live_held}

-- so many slots, node entries and listing entries more, all 0
unfoldable pub grown : Tables → ℕ → ℕ → ℕ → Tables
grown t slots nodes listings =
    record { lines = t.lines ++ replicate (8 * slots) 0; nodes = t.nodes ++ replicate nodes 0; listings = t.listings ++ replicate listings 0 }

-- zeros appended change no entry
same_entry : (xs : List ℕ) (n i : ℕ) → get_or (xs ++ replicate n 0) i 0 ≡ get_or xs i 0
same_entry [] n i = zero_at n i
same_entry (x ∷ xs) n zero = refl
same_entry (x ∷ xs) n (suc i) = same_entry xs n i

module _ (lines : List ℕ) (a : ℕ) (whole : length lines % 8 ≡ 0) where
  abbrev more : List ℕ
  more = lines ++ replicate (8 * a) 0

  at : (i : ℕ) → get_or more i 0 ≡ get_or lines i 0
  at = same_entry lines (8 * a)

  slots_more : length more / 8 ≡ length lines / 8 + a
  slots_more = omega (arith, length-append lines (replicate (8 * a) 0), length-replicate {A = ℕ} (8 * a) 0)

  -- a live slot is one of those there before
  before : (s : ℕ) → live lines s ≡ 1 → s < length lines / 8
  before s e = elim (dec_le (suc s) (length lines / 8)) [
    | yes h ↦ h
    | no h ↦ let z = get_or-eq_default lines 0 {n = 8 * s + 0} (omega arith) in absurd (omega (arith, z, e))
  ]

  lines_same : (s : ℕ) → line_at more s ≡ line_at lines s
  unfolding line_at
  lines_same s i = record { slot = s; a = grid_point (at (8 * s + 2) i) (at (8 * s + 3) i); b = grid_point (at (8 * s + 4) i) (at (8 * s + 5) i) }

  slots_same : live_slots more ≡ live_slots lines
  unfolding live_slots slots_of is_live
  slots_same =
      rising_same (those_rising _ (up_from_rising 0 _)) (those_rising _ (up_from_rising 0 _))
      (λ x. (
        λ m.
            let q = of_those _ (up_from 0 (length more / 8)) m in
            let e = rw (at (8 * x + 0)) at q.1 in
            in_those _ (up_from 0 (length lines / 8)) (to_up_from 0 _ x (omega arith) (omega (arith, before x (eqb-true _ _ e)))) e,
        λ m.
            let q = of_those _ (up_from 0 (length lines / 8)) m in
            in_those _ (up_from 0 (length more / 8)) (to_up_from 0 _ x (omega arith) (omega (arith, (in_up_from 0 _ x q.0).1, slots_more))) (rw (at (8 * x + 0)) q.1),
      ))

  live_same : live_lines more ≡ live_lines lines
  unfolding live_lines
  live_same = ap (map (line_at more)) slots_same ∙ (λ i. map (λ s. lines_same s i) (live_slots lines))

  held_same : live_held more ≡ live_held lines
  unfolding live_held held_at
  held_same =
      ap (map (held_at more)) slots_same
      ∙ (λ i. map (λ s. record {
        handle = s * 65536 + at (8 * s + 1) i;
        line = record { x1 = at (8 * s + 2) i; y1 = at (8 * s + 3) i; x2 = at (8 * s + 4) i; y2 = at (8 * s + 5) i; left = at (8 * s + 6) i; right = at (8 * s + 7) i };
      }) (live_slots lines))

  -- a handle is known exactly if it was
  known_same : (h : ℕ) → known more h ≡ known lines h
  unfolding known is_live
  known_same h =
      rw (at (8 * (h / 65536) + 0), at (8 * (h / 65536) + 1), slots_more)
      (go (eqb (live lines (h / 65536)) 1) refl)
    where
      go : (b : Bool) → eqb (live lines (h / 65536)) 1 ≡ b → (ltb (h / 65536) (length lines / 8 + a) && b && eqb (get_or lines (8 * (h / 65536) + 1) 0) (h % 65536)) ≡ (ltb (h / 65536) (length lines / 8) && b && eqb (get_or lines (8 * (h / 65536) + 1) 0) (h % 65536))
      go true e = let k = before (h / 65536) (eqb-true _ _ e) in rw (lt-ltb (h / 65536) (length lines / 8 + a) (omega (arith, k)), lt-ltb (h / 65536) (length lines / 8) k) refl
      go false e = none (ltb (h / 65536) (length lines / 8 + a)) (ltb (h / 65536) (length lines / 8)) (eqb (get_or lines (8 * (h / 65536) + 1) 0) (h % 65536))
        where
          none : (x y z : Bool) → (x && false && z) ≡ (y && false && z)
          none true true z = refl
          none true false z = refl
          none false true z = refl
          none false false z = refl

  -- a slot is as it was, or one of the new ones, all 0
  slot_same : ((s : ℕ) → s < length lines / 8 → LiveSlot lines s ⊎ EmptySlot lines s) → (s : ℕ) → LiveSlot more s ⊎ EmptySlot more s
  slot_same f s = elim (dec_le (suc s) (length lines / 8)) [
    | yes h ↦ was (f s h)
    | no h ↦ inr (λ k q n. at (8 * s + k) ∙ get_or-eq_default lines 0 {n = 8 * s + k} (omega arith))
  ]
    where
      was : LiveSlot lines s ⊎ EmptySlot lines s → LiveSlot more s ⊎ EmptySlot more s
      was (inl l) = inl (record {
        lives = at (8 * s + 0) ∙ l.lives;
        given = rw (at (8 * s + 1)) l.given;
        on_grid = (rw (at (8 * s + 2)) l.on_grid.0, rw (at (8 * s + 3)) l.on_grid.1, rw (at (8 * s + 4)) l.on_grid.2, rw (at (8 * s + 5)) l.on_grid.3);
        distinct = λ e. l.distinct (sym (at (8 * s + 2)) ∙ e.0 ∙ at (8 * s + 4), sym (at (8 * s + 3)) ∙ e.1 ∙ at (8 * s + 5));
      })
      was (inr e) = inr (λ k q n. at (8 * s + k) ∙ e k q n)

  lived : (s : ℕ) → Live more s → Live lines s
  lived s l = let e = sym (at (8 * s + 0)) ∙ l.lives in record { there = before s e; lives = e }

-- the tables of a tree with zeros appended are its tables
tabled_more : {t : Tree} {nodes listings : List ℕ} (n m : ℕ) → Tabled t nodes listings → Tabled t (nodes ++ replicate n 0) (listings ++ replicate m 0)
tabled_more {t} n m b =
    let l = stored_lists b.stored in
    record {
      nodes_after = b.nodes_after ++ replicate n 0;
      listings_after = b.listings_after ++ replicate m 0;
      stored = lists_stored t _ _ (ap (λ (z : List ℕ). z ++ replicate n 0) l.0 ∙ simp append_assoc) (ap (λ (z : List ℕ). z ++ replicate m 0) l.1 ∙ simp append_assoc);
      nodes0 = λ i. same_entry b.nodes_after n i ∙ b.nodes0 i;
      listings0 = λ i. same_entry b.listings_after m i ∙ b.listings0 i;
    }

pub grown_sound : (rule : Rule) (t : Tables) (a n m : ℕ) → length t.lines % 8 ≡ 0 → SoundMap rule t → SoundMap rule (grown t a n m)
unfolding grown
grown_sound rule t a n m whole s =
    record {
      slots = λ x h. slot_same t.lines a whole s.slots x;
      apart = λ x u l k d c. s.apart x u (lived t.lines a whole x l) (lived t.lines a whole u k) d
          (subst (λ (p : Line). Conflicts p (line_at t.lines u)) (lines_same t.lines a whole x) (subst (λ (p : Line). Conflicts (line_at (t.lines ++ replicate (8 * a) 0) x) p) (lines_same t.lines a whole u) c));
      tables = subst (λ (ls : List Line). Tabled (tree rule ls) (t.nodes ++ replicate n 0) (t.listings ++ replicate m 0)) (sym (live_same t.lines a whole)) (tabled_more n m s.tables);
    }

pub grown_held : (t : Tables) (a n m : ℕ) → length t.lines % 8 ≡ 0 → live_held (grown t a n m).lines ≡ live_held t.lines
unfolding grown
grown_held t a n m whole = held_same t.lines a whole

pub grown_known : (t : Tables) (a n m h : ℕ) → length t.lines % 8 ≡ 0 → known (grown t a n m).lines h ≡ known t.lines h
unfolding grown
grown_known t a n m h whole = known_same t.lines a whole h
