-- A line put in or taken out keeps the other slots sound, and the lines that are left apart and fewer.
use Rattle.definitions.specs.declared.Given.{Given}
use Rattle.algebra.specs.Lists.{those_yes, those_no, of_those, in_those, every→, every←}
use Rattle.algebra.specs.Tests.{no_path, and_l, and_r, and_b, or_l, or_r}
use Rattle.algebra.specs.Words.{those, every}
use Rattle.definitions.specs.Calls.{placed, freed, all_on_grid, no_length}
use Rattle.definitions.specs.Shape.{conflict}
use Rattle.definitions.specs.Tables.{generation, is_live, slots_of, live_slots, line_at, live_lines, on_grid, live_sound, empty_sound, slot_sound, none_conflict}
use Rattle.meaning.specs.Fair.{Sub, none, keep, skip}
use Rattle.meaning.specs.Slots.{same_or_not, freed_slots, rest_sound, rest_live, placed_slots, others_sound, bare_at, bare_dead, rest_line, put_at, gift_lives}
use Rattle.std.specs.Prelude.{◌≡◌, refl, ◌⊎◌, false, ◌&&◌, ◌||◌, ℕ, ◌+◌, ◌*◌, ◌≤◌, leb, length}
use Rattle.std.proofs.Common.{sym, ◌∙◌, ap, subst, inl, inr, arith, le-leb}
use Rattle.std.proofs.Math.Bool.{Bool, true, not}
use mathlib.Core.List.{List, [], ◌∷◌, map, Memᴰ}
use Rattle.std.proofs.Math.Dec.{eqb}

-- Delete
module _ (lines : List ℕ) (s : ℕ) (fits : 8 * s + 8 ≤ length lines) where
  empty_now : slot_sound (freed lines s) s ≡ true
  unfolding slot_sound empty_sound
  empty_now =
      or_r (is_live (freed lines s) s && live_sound (freed lines s) s) (empty_sound (freed lines s) s) (rw (bare_at lines s fits 0 (omega arith), bare_at lines s fits 2 (omega arith), bare_at lines s fits 3 (omega arith), bare_at lines s fits 4 (omega arith), bare_at lines s fits 5 (omega arith), bare_at lines s fits 6 (omega arith), bare_at lines s fits 7 (omega arith)) refl)

  pub slots_freed : every (slot_sound lines) (slots_of lines) ≡ true → every (slot_sound (freed lines s)) (slots_of (freed lines s)) ≡ true
  slots_freed e = every← (slot_sound (freed lines s)) (slots_of (freed lines s)) (λ x m. go x m (same_or_not x s))
    where
      old : slots_of (freed lines s) ≡ slots_of lines
      old = freed_slots lines s fits

      go : (x : ℕ) → Memᴰ x (slots_of (freed lines s)) → (x ≡ s) ⊎ (x ≡ s → ⊥) → slot_sound (freed lines s) x ≡ true
      go x m (inl q) = rw q empty_now
      go x m (inr q) = (rest_sound lines s fits x q ∙ every→ (slot_sound lines) (slots_of lines) e (rw old at m))

  was_live : (x : ℕ) → Memᴰ x (live_slots (freed lines s)) → (x ≡ s → ⊥) × Memᴰ x (live_slots lines)
  unfolding live_slots
  was_live x m = (other, in_those (is_live lines) (slots_of lines) (rw old at n.0) (sym (rest_live lines s fits x other) ∙ n.1))
    where
      n : Memᴰ x (slots_of (freed lines s)) × (is_live (freed lines s) x ≡ true)
      n = of_those (is_live (freed lines s)) (slots_of (freed lines s)) m

      old : slots_of (freed lines s) ≡ slots_of lines
      old = freed_slots lines s fits

      other : x ≡ s → ⊥
      other q = no_path (sym (bare_dead lines s fits) ∙ subst (λ (y : ℕ). is_live (freed lines s) y ≡ true) q n.1)

  pub apart_freed : none_conflict lines ≡ true → none_conflict (freed lines s) ≡ true
  unfolding none_conflict
  apart_freed e =
      every← _ (live_slots (freed lines s)) (λ x m. every← _ (live_slots (freed lines s)) (λ y n. pair x y (was_live x m) (was_live y n)))
    where
      pair : (x y : ℕ) → (x ≡ s → ⊥) × Memᴰ x (live_slots lines) → (y ≡ s → ⊥) × Memᴰ y (live_slots lines)
          → eqb x y || not (conflict (line_at (freed lines s) x) (line_at (freed lines s) y)) ≡ true
      pair x y p q =
          rw (rest_line lines s fits x p.0, rest_line lines s fits y q.0)
          (every→ (λ u. eqb x u || not (conflict (line_at lines x) (line_at lines u))) (live_slots lines)
          (every→ (λ w. every (λ u. eqb w u || not (conflict (line_at lines w) (line_at lines u))) (live_slots lines)) (live_slots lines) e p.1) q.1)

  fewer_lines : is_live lines s ≡ true → (xs : List ℕ) → Sub (map (line_at (freed lines s)) (those (is_live (freed lines s)) xs)) (map (line_at lines) (those (is_live lines) xs))
  unfolding those
  fewer_lines v [] = none
  fewer_lines v (x ∷ xs) = go (same_or_not x s) (fewer_lines v xs)
    where
      After : Type 0
      After = Sub (map (line_at (freed lines s)) (those (is_live (freed lines s)) (x ∷ xs))) (map (line_at lines) (those (is_live lines) (x ∷ xs)))

      IH : Type 0
      IH = Sub (map (line_at (freed lines s)) (those (is_live (freed lines s)) xs)) (map (line_at lines) (those (is_live lines) xs))

      same : (x ≡ s → ⊥) → (b : Bool) → is_live lines x ≡ b → IH → After
      same q true e h =
          rw (those_yes (is_live (freed lines s)) x xs (rest_live lines s fits x q ∙ e), those_yes (is_live lines) x xs e, rest_line lines s fits x q) (keep h)
      same q false e h =
          rw (those_no (is_live (freed lines s)) x xs (rest_live lines s fits x q ∙ e), those_no (is_live lines) x xs e) h

      go : (x ≡ s) ⊎ (x ≡ s → ⊥) → IH → After
      go (inl q) h =
          rw (those_no (is_live (freed lines s)) x xs (rw q (bare_dead lines s fits)), those_yes (is_live lines) x xs (rw q v)) (skip h)
      go (inr q) h = same q (is_live lines x) refl h

  pub sub_freed : is_live lines s ≡ true → Sub (live_lines (freed lines s)) (live_lines lines)
  unfolding live_lines live_slots
  sub_freed v = rw old (fewer_lines v (slots_of lines))
    where
      old : slots_of (freed lines s) ≡ slots_of lines
      old = freed_slots lines s fits

module _ (lines : List ℕ) (g : Given) (s : ℕ) (fits : 8 * s + 8 ≤ length lines) where
  new_sound : all_on_grid g ≡ true → no_length g ≡ false → slot_sound (placed lines s g) s ≡ true
  unfolding slot_sound live_sound all_on_grid no_length
  new_sound e f =
      or_l (is_live (placed lines s g) s && live_sound (placed lines s g) s) (empty_sound (placed lines s g) s)
      (and_b _ _ (gift_lives lines g s fits)
      (rw (put_at lines g s fits 1 (omega arith), put_at lines g s fits 2 (omega arith), put_at lines g s fits 3 (omega arith), put_at lines g s fits 4 (omega arith), put_at lines g s fits 5 (omega arith)) body))
    where
      a : Bool
      a = on_grid g.x1

      b : Bool
      b = on_grid g.y1

      c : Bool
      c = on_grid g.x2

      d : Bool
      d = on_grid g.y2

      body : leb 1 (generation lines s + 1) && a && b && c && d && not (eqb g.x1 g.x2 && eqb g.y1 g.y2) ≡ true
      body =
          and_b _ _ (and_b _ _ (and_b _ _ (and_b _ _ (and_b _ _ (le-leb 1 (generation lines s + 1) (omega arith))
          (and_l a b (and_l (a && b) c (and_l (a && b && c) d e)))) (and_r a b (and_l (a && b) c (and_l (a && b && c) d e)))) (and_r (a && b) c (and_l (a && b && c) d e))) (and_r (a && b && c) d e))
          (ap not f)

  pub slots_placed : every (slot_sound lines) (slots_of lines) ≡ true → all_on_grid g ≡ true → no_length g ≡ false → every (slot_sound (placed lines s g)) (slots_of (placed lines s g)) ≡ true
  slots_placed e grid long = every← (slot_sound (placed lines s g)) (slots_of (placed lines s g)) (λ x m. go x m (same_or_not x s))
    where
      go : (x : ℕ) → Memᴰ x (slots_of (placed lines s g)) → (x ≡ s) ⊎ (x ≡ s → ⊥) → slot_sound (placed lines s g) x ≡ true
      go x m (inl q) = rw q (new_sound grid long)
      go x m (inr q) = others_sound lines g s fits x q ∙ every→ (slot_sound lines) (slots_of lines) e (rw (placed_slots lines g s fits) at m)
