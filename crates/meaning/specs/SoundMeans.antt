-- The test of soundness holds exactly of the maps that the paper calls sound.
use Rattle.std.specs.Prelude.{◌≡◌, refl, ◌↔◌, ◌⊎◌, Bool, not, ◌&&◌, ◌||◌, leb, length}
use Rattle.std.proofs.Math.Logic.{inl, inr}
use Rattle.std.proofs.Math.Bool.{true}
use mathlib.Core.List.{List, [], ◌∷◌, Memᴰ}
use Prim.Native.Nat.{ℕ, zero, suc, ◌/◌, ◌<◌}
use Rattle.std.proofs.Common.{arith}
use Rattle.std.proofs.Math.Dec.{eqb}
use borrow.Author.Tests.{leb-true, le-leb, eqb-true, eq-eqb, ne_eqb}
use Rattle.algebra.specs.Lists.{every→, every←, in_up_from, to_up_from}
use Rattle.algebra.specs.Tests.{or_cases, or_l, or_r, and_l, and_r, and_b}
use Rattle.algebra.specs.Words.{every}
use Rattle.definitions.specs.Meaning.{Live, LiveSlot, EmptySlot, SoundMap, Tabled, Conflicts}
use Rattle.definitions.specs.Shape.{conflict}
use Rattle.definitions.specs.Tables.{Tables, entry, live, generation, x1, y1, x2, y2, left_label, right_label, is_live, slots_of, live_slots, line_at, live_lines, on_grid, live_sound, empty_sound, slot_sound, none_conflict, node_table, listing_table, sound}
use Rattle.definitions.specs.Tree.{Rule, tree}
use Rattle.meaning.specs.Answering.{live→, live←}
use Rattle.meaning.specs.Chain.{Each, chain→, chain←, eqb_means, both_means, not_means}
use Rattle.plane.specs.Crossing.{Proper, conflict_iff}
use Rattle.meaning.specs.Slots.{same_or_not}
use Rattle.meaning.specs.Sound.{Sound, sound→, sound←, live_proper}
use Rattle.meaning.specs.Stored.{tabled_iff}

-- ---- One slot
module _ (lines : List ℕ) (s : ℕ) where
  abbrev same : Bool
  same = eqb (x1 lines s) (x2 lines s) && eqb (y1 lines s) (y2 lines s)

  abbrev live_tests : List Bool
  live_tests = on_grid (x1 lines s) ∷ on_grid (y1 lines s) ∷ on_grid (x2 lines s) ∷ on_grid (y2 lines s) ∷ not same ∷ []

  same_means : (not same ≡ true) ↔ ((x1 lines s ≡ x2 lines s) × (y1 lines s ≡ y2 lines s) → ⊥)
  same_means = not_means same (both_means (eqb (x1 lines s) (x2 lines s)) (eqb (y1 lines s) (y2 lines s)) (eqb_means _ _) (eqb_means _ _))

  live_slot→ : is_live lines s ≡ true → live_sound lines s ≡ true → LiveSlot lines s
  unfolding is_live live_sound
  live_slot→ e f =
      let h = chain→ (leb 1 (generation lines s)) live_tests f in
      record {
        lives = eqb-true _ _ e;
        given = leb-true _ _ h.0;
        on_grid = (leb-true _ _ h.1.0, leb-true _ _ h.1.1.0, leb-true _ _ h.1.1.1.0, leb-true _ _ h.1.1.1.1.0);
        distinct = same_means.0 h.1.1.1.1.1.0;
      }

  live_slot← : LiveSlot lines s → (is_live lines s ≡ true) × (live_sound lines s ≡ true)
  unfolding is_live live_sound
  live_slot← l = (
    eq-eqb _ _ l.lives,
    chain← (leb 1 (generation lines s)) live_tests
        (le-leb _ _ l.given, (le-leb _ _ l.on_grid.0, (le-leb _ _ l.on_grid.1, (le-leb _ _ l.on_grid.2, (le-leb _ _ l.on_grid.3, (same_means.1 l.distinct, tt)))))),
  )

  abbrev empty_tests : List Bool
  empty_tests = eqb (x1 lines s) 0 ∷ eqb (y1 lines s) 0 ∷ eqb (x2 lines s) 0 ∷ eqb (y2 lines s) 0 ∷ eqb (left_label lines s) 0 ∷ eqb (right_label lines s) 0 ∷ []

  empty_slot→ : empty_sound lines s ≡ true → EmptySlot lines s
  unfolding empty_sound
  empty_slot→ e = at (chain→ (eqb (live lines s) 0) empty_tests e)
    where
      at : (eqb (live lines s) 0 ≡ true) × Each empty_tests → (k : ℕ) → k < 8 → (k ≡ 1 → ⊥) → entry lines s k ≡ 0
      at h zero q n = eqb-true _ _ h.0
      at h (suc zero) q n = absurd (n refl)
      at h (suc (suc zero)) q n = eqb-true _ _ h.1.0
      at h (suc (suc (suc zero))) q n = eqb-true _ _ h.1.1.0
      at h (suc (suc (suc (suc zero)))) q n = eqb-true _ _ h.1.1.1.0
      at h (suc (suc (suc (suc (suc zero))))) q n = eqb-true _ _ h.1.1.1.1.0
      at h (suc (suc (suc (suc (suc (suc zero)))))) q n = eqb-true _ _ h.1.1.1.1.1.0
      at h (suc (suc (suc (suc (suc (suc (suc zero))))))) q n = eqb-true _ _ h.1.1.1.1.1.1.0
      at h (suc (suc (suc (suc (suc (suc (suc (suc k)))))))) q n = absurd (omega arith)

  empty_slot← : EmptySlot lines s → empty_sound lines s ≡ true
  unfolding empty_sound
  empty_slot← f =
      chain← (eqb (live lines s) 0) empty_tests
      (zero_at 0 (omega arith) (λ e. omega arith), (zero_at 2 (omega arith) (λ e. omega arith), (zero_at 3 (omega arith) (λ e. omega arith), (zero_at 4 (omega arith) (λ e. omega arith), (zero_at 5 (omega arith) (λ e. omega arith), (zero_at 6 (omega arith) (λ e. omega arith), (zero_at 7 (omega arith) (λ e. omega arith), tt)))))))
    where
      zero_at : (k : ℕ) → k < 8 → (k ≡ 1 → ⊥) → eqb (entry lines s k) 0 ≡ true
      zero_at k h n = eq-eqb _ _ (f k h n)

  slot_means : (slot_sound lines s ≡ true) ↔ (LiveSlot lines s ⊎ EmptySlot lines s)
  unfolding slot_sound
  slot_means = (λ e. there (or_cases (is_live lines s && live_sound lines s) (empty_sound lines s) e), back)
    where
      there : (is_live lines s && live_sound lines s ≡ true) ⊎ (empty_sound lines s ≡ true) → LiveSlot lines s ⊎ EmptySlot lines s
      there (inl e) = inl (live_slot→ (and_l (is_live lines s) (live_sound lines s) e) (and_r (is_live lines s) (live_sound lines s) e))
      there (inr e) = inr (empty_slot→ e)

      back : LiveSlot lines s ⊎ EmptySlot lines s → is_live lines s && live_sound lines s || empty_sound lines s ≡ true
      back (inl l) = let h = live_slot← l in or_l (is_live lines s && live_sound lines s) (empty_sound lines s) (and_b _ _ h.0 h.1)
      back (inr f) = or_r (is_live lines s && live_sound lines s) (empty_sound lines s) (empty_slot← f)

-- ---- All slots, and the lines apart
module _ (lines : List ℕ) where
  in_slots : (s : ℕ) → Memᴰ s (slots_of lines) ↔ (s < length lines / 8)
  unfolding slots_of
  in_slots s = (λ m. omega (arith, (in_up_from 0 (length lines / 8) s m).1), λ h. to_up_from 0 (length lines / 8) s (omega arith) (omega arith))

  slots_mean : (every (slot_sound lines) (slots_of lines) ≡ true) ↔ ((s : ℕ) → s < length lines / 8 → LiveSlot lines s ⊎ EmptySlot lines s)
  slots_mean = (
    λ e s h. (slot_means lines s).0 (every→ (slot_sound lines) (slots_of lines) e ((in_slots s).1 h)),
    λ f. every← (slot_sound lines) (slots_of lines) (λ s m. (slot_means lines s).1 (f s ((in_slots s).0 m))),
  )

  module _ (slots : every (slot_sound lines) (slots_of lines) ≡ true) where
    pub live_is_proper : (s : ℕ) → Live lines s → Proper (line_at lines s)
    live_is_proper s v =
        live_proper lines s (every→ (slot_sound lines) (slots_of lines) slots ((in_slots s).1 v.there)) (unfold is_live in (eq-eqb _ _ v.lives))

    abbrev pair : ℕ → ℕ → Bool
    pair s u = eqb s u || not (conflict (line_at lines s) (line_at lines u))

    conflict_means : (s u : ℕ) → Live lines s → Live lines u → (conflict (line_at lines s) (line_at lines u) ≡ true) ↔ Conflicts (line_at lines s) (line_at lines u)
    conflict_means s u v w = conflict_iff (line_at lines s) (line_at lines u) (live_is_proper s v) (live_is_proper u w)

    apart_mean : (none_conflict lines ≡ true) ↔ ((s u : ℕ) → Live lines s → Live lines u → (s ≡ u → ⊥) → ¬ Conflicts (line_at lines s) (line_at lines u))
    unfolding none_conflict
    apart_mean = (
      λ e s u v w d. there s u v w d (every→ (pair s) (live_slots lines) (every→ (λ x. every (pair x) (live_slots lines)) (live_slots lines) e (live← lines s v)) (live← lines u w)),
      λ f. every← (λ x. every (pair x) (live_slots lines)) (live_slots lines) (λ s m. every← (pair s) (live_slots lines) (λ u n. back f s u (live→ lines s m) (live→ lines u n) (same_or_not s u))),
    )
      where
        there : (s u : ℕ) → Live lines s → Live lines u → (s ≡ u → ⊥) → pair s u ≡ true → ¬ Conflicts (line_at lines s) (line_at lines u)
        there s u v w d e = (not_means (conflict (line_at lines s) (line_at lines u)) (conflict_means s u v w)).0 (rw (ne_eqb s u d) at e)

        back : ((s u : ℕ) → Live lines s → Live lines u → (s ≡ u → ⊥) → ¬ Conflicts (line_at lines s) (line_at lines u)) → (s u : ℕ) → Live lines s → Live lines u → (s ≡ u) ⊎ (s ≡ u → ⊥) → pair s u ≡ true
        back f s u v w (inl e) = or_l (eqb s u) (not (conflict (line_at lines s) (line_at lines u))) (eq-eqb s u e)
        back f s u v w (inr d) =
            or_r (eqb s u) (not (conflict (line_at lines s) (line_at lines u)))
            ((not_means (conflict (line_at lines s) (line_at lines u)) (conflict_means s u v w)).1 (f s u v w d))

pub sound_means : (rule : Rule) (t : Tables) → (sound rule t ≡ true) ↔ SoundMap rule t
unfolding node_table listing_table
sound_means rule t = (λ e. there (sound→ rule t e), λ m. sound← rule t (back m ((slots_mean t.lines).1 m.slots)))
  where
    tables_mean : ((t.nodes ≡ node_table rule (length t.nodes) t.lines) × (t.listings ≡ listing_table rule (length t.listings) t.lines)) ↔ Tabled (tree rule (live_lines t.lines)) t.nodes t.listings
    tables_mean = tabled_iff (tree rule (live_lines t.lines)) t.nodes t.listings

    there : Sound rule t → SoundMap rule t
    there s = record { slots = (slots_mean t.lines).0 s.slots; apart = (apart_mean t.lines s.slots).0 s.apart; tables = tables_mean.0 (s.nodes, s.listings) }

    back : SoundMap rule t → every (slot_sound t.lines) (slots_of t.lines) ≡ true → Sound rule t
    back m a = let e = tables_mean.1 m.tables in record { slots = a; apart = (apart_mean t.lines a).1 m.apart; nodes = e.0; listings = e.1 }
