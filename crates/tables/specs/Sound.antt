-- For callers: what a sound slot, a live slot, a line given, a free slot and a known handle give.
use Rattle.std.specs.Prelude.{◌≡◌, refl, Bool, true, false, not, ◌&&◌, ◌||◌, ℕ, ◌+◌, ◌*◌, ◌/◌, ◌%◌, ◌≤◌, ◌<◌, leb, ltb, eqb, length, Some}
use Rattle.std.proofs.Common.{sym, ap, ap₂, ◌∙◌, arith}
use mathlib.Core.List.{List, Memᴰ}
use borrow.Author.Tests.{eqb-true, eq-eqb, ne_eqb, leb-true, ltb-true, not-true}
use Rattle.algebra.specs.Words.{those, every, up_from}
use Rattle.algebra.specs.Lists.{every→, every←, of_those, in_up_from, to_up_from}
use Rattle.algebra.specs.Tests.{false_by, no_path, both→, both←}
use Rattle.definitions.specs.declared.Given.{Given}
use Rattle.definitions.specs.Shape.{Line, grid_point, same_point, conflict}
use Rattle.definitions.specs.Tables.{live, generation, x1, y1, x2, y2, on_grid, is_live, line_at, live_slots, live_sound, empty_sound, slot_sound, slots_of}
use Rattle.definitions.specs.Calls.{given_line, all_on_grid, no_length, conflicting, free_slots, known}
use Rattle.geometry.specs.declared.Line as code
use Rattle.geometry.specs.Means.{line_of, line_from}
use Rattle.geometry.specs.Slots.{conflict_slot}
use Rattle.tables.specs.declared.Row.{Row}
use Rattle.tables.specs.Rows.{row_at, entries_of, is_free, OnMap}
use Rattle.tables.specs.Slots.{first_slot_of, first_at}

or_false : (a : Bool) → a || false ≡ a
or_false true = refl
or_false false = refl

-- points of distinct grid numbers are distinct
apart : (a b c d : ℕ) → eqb a c && eqb b d ≡ false → same_point (grid_point a b) (grid_point c d) ≡ false
unfolding same_point
apart a b c d e = false_by _ (λ v. no_path (sym e ∙ both← (eq-eqb a c (same_x v)) (eq-eqb b d (same_y v))))
  where
    same_x : eqb (2 * a + 1) (2 * c + 1) && eqb (2 * b + 1) (2 * d + 1) ≡ true → a ≡ c
    same_x v = omega (arith, eqb-true (2 * a + 1) (2 * c + 1) (both→ (eqb (2 * a + 1) (2 * c + 1)) _ v).0)

    same_y : eqb (2 * a + 1) (2 * c + 1) && eqb (2 * b + 1) (2 * d + 1) ≡ true → b ≡ d
    same_y v = omega (arith, eqb-true (2 * b + 1) (2 * d + 1) (both→ (eqb (2 * a + 1) (2 * c + 1)) _ v).1)

module _ (lines : List ℕ) (s : ℕ) where
  empty_dead : is_live lines s ≡ true → empty_sound lines s ≡ false
  unfolding is_live empty_sound
  empty_dead v = rw (ne_eqb (live lines s) 0 not_zero)
    where
      one : live lines s ≡ 1
      one = eqb-true (live lines s) 1 v

      not_zero : live lines s ≡ 0 → ⊥
      not_zero e = omega (arith, one)

  -- by cases: a live slot's own rule, or that of an empty one
  pub sound_live : is_live lines s ≡ true → slot_sound lines s ≡ live_sound lines s
  unfolding slot_sound
  sound_live v = rw (v, empty_dead v) (or_false (live_sound lines s))

  pub sound_empty : is_live lines s ≡ false → slot_sound lines s ≡ empty_sound lines s
  unfolding slot_sound
  sound_empty v = rw v

  -- ---- a sound live slot
  module _ (there : 8 * s + 8 ≤ length lines) (sound : slot_sound lines s ≡ true) (lives : is_live lines s ≡ true) where
    rule : live_sound lines s ≡ true
    rule = sym (sound_live lives) ∙ sound

    pub on_map : OnMap lines s
    unfolding live_sound
    on_map =
        let grid = (both→ (leb 1 (generation lines s) && on_grid (x1 lines s) && on_grid (y1 lines s) && on_grid (x2 lines s) && on_grid (y2 lines s)) _ rule).0 in
        let d = both→ (leb 1 (generation lines s) && on_grid (x1 lines s) && on_grid (y1 lines s) && on_grid (x2 lines s)) _ grid in
        let c = both→ (leb 1 (generation lines s) && on_grid (x1 lines s) && on_grid (y1 lines s)) _ d.0 in
        let b = both→ (leb 1 (generation lines s) && on_grid (x1 lines s)) _ c.0 in
        record {
          there = there;
          grid_x1 = leb-true _ _ (both→ (leb 1 (generation lines s)) _ b.0).1;
          grid_y1 = leb-true _ _ b.1;
          grid_x2 = leb-true _ _ c.1;
          grid_y2 = leb-true _ _ d.1;
        }

    pub ends_apart : same_point (line_at lines s).a (line_at lines s).b ≡ false
    unfolding live_sound line_at
    ends_apart =
        apart (x1 lines s) (y1 lines s) (x2 lines s) (y2 lines s)
        (not-true _
        (both→ (leb 1 (generation lines s) && on_grid (x1 lines s) && on_grid (y1 lines s) && on_grid (x2 lines s) && on_grid (y2 lines s)) _ rule).1)

-- ---- a table whose slots are all sound
module _ (lines : List ℕ) where
  pub sound_at : {s : ℕ} → every (slot_sound lines) (slots_of lines) ≡ true → s < length lines / 8 → slot_sound lines s ≡ true
  unfolding slots_of
  sound_at {s} e h = every→ (slot_sound lines) (up_from 0 (length lines / 8)) e (to_up_from 0 (length lines / 8) s (omega arith) (omega arith))

  pub all_sound : ((s : ℕ) → s < length lines / 8 → slot_sound lines s ≡ true) → every (slot_sound lines) (slots_of lines) ≡ true
  unfolding slots_of
  all_sound f = every← (slot_sound lines) (up_from 0 (length lines / 8)) (λ s m. f s (omega (arith, (in_up_from 0 (length lines / 8) s m).1)))

  pub one_unsound : {s : ℕ} → s < length lines / 8 → slot_sound lines s ≡ false → every (slot_sound lines) (slots_of lines) ≡ false
  one_unsound h v = false_by _ (λ e. no_path (sym v ∙ sound_at e h))

  -- a slot picked by a test is in the table, and passes
  pub picked : (p : ℕ → Bool) {s : ℕ} → Memᴰ s (those p (slots_of lines)) → (8 * s + 8 ≤ length lines) × (p s ≡ true)
  unfolding slots_of
  picked p {s} m = let q = of_those p (up_from 0 (length lines / 8)) m in (omega (arith, (in_up_from 0 (length lines / 8) s q.0).1), q.1)

  pub live_slot : {s : ℕ} → Memᴰ s (live_slots lines) → (8 * s + 8 ≤ length lines) × (is_live lines s ≡ true)
  unfolding live_slots
  live_slot m = picked (is_live lines) m

  module _ (sound : every (slot_sound lines) (slots_of lines) ≡ true) {s : ℕ} (m : Memᴰ s (live_slots lines)) where
    pub live_on_map : OnMap lines s
    live_on_map = let q = live_slot m in on_map lines s q.0 (sound_at sound (omega (arith, q.0))) q.1

-- ---- a line given
module _ (g : Given) where
  pub given_on_grid : all_on_grid g ≡ true → (g.x1 ≤ 16383) × (g.y1 ≤ 16383) × (g.x2 ≤ 16383) × (g.y2 ≤ 16383)
  unfolding all_on_grid
  given_on_grid e =
      let d = both→ (on_grid g.x1 && on_grid g.y1 && on_grid g.x2) _ e in
      let c = both→ (on_grid g.x1 && on_grid g.y1) _ d.0 in
      let b = both→ (on_grid g.x1) _ c.0 in
      (leb-true _ _ b.0, leb-true _ _ b.1, leb-true _ _ c.1, leb-true _ _ d.1)

  pub given_apart : no_length g ≡ false → same_point (given_line g).a (given_line g).b ≡ false
  unfolding no_length given_line
  given_apart e = apart g.x1 g.y1 g.x2 g.y2 e

-- the line of slot s lives, and conflicts with m
abbrev pub hinders_at : List ℕ → Line → ℕ → Bool
hinders_at lines m s = is_live lines s && conflict (line_at lines s) m

pub hinders_at_lem : (lines : List ℕ) (s : ℕ) {r : Row} (e : r ≡ row_at lines s) (l : code.Line) → hinders_at (entries_of r) (line_of l) 0 ≡ hinders_at lines (line_of l) s
unfolding entries_of is_live line_at
hinders_at_lem lines s e l =
    ap (λ (w : Row). hinders_at (entries_of w) (line_of l) 0) e ∙ ap (λ (t : Bool). is_live lines s && t) (conflict_slot (line_at lines s) (line_of l))

pub conflicting_is : (lines : List ℕ) (g : Given) {l : code.Line} → (l.a ≡ grid_point g.x1 g.y1) × (l.b ≡ grid_point g.x2 g.y2)
    → conflicting lines g ≡ those (hinders_at lines (line_of l)) (slots_of lines)
unfolding conflicting given_line
conflicting_is lines g e = sym (ap (λ (m : Line). those (hinders_at lines m) (slots_of lines)) (ap₂ line_from e.0 e.1))

-- what insert has tested before it looks for a conflict
pub record Tested (lines : List ℕ) (g : Given) : Type 0 where
  pub slots : every (slot_sound lines) (slots_of lines) ≡ true
  pub on_grid : all_on_grid g ≡ true
  pub long : no_length g ≡ false

-- ---- the free slot that was found
pub record FreeSlot (lines : List ℕ) (s : ℕ) : Type 0 where
  pub there : 8 * s + 8 ≤ length lines
  pub dead : is_live lines s ≡ false
  pub young : generation lines s < 65535

pub free_found : (lines : List ℕ) {s : ℕ} → first_slot_of (free_slots lines) ≡ Some s → FreeSlot lines s
unfolding free_slots
free_found lines {s} e =
    let f = first_at (free_slots lines) e in
    let q = picked lines (is_free lines) {s = s} (rw f.1 (Memᴰ.head refl)) in
    let b = both→ (not (is_live lines s)) _ q.1 in
    record { there = q.0; dead = not-true _ b.0; young = ltb-true _ _ b.1 }

-- ---- the slot of a known handle
pub record KnownSlot (lines : List ℕ) (h : ℕ) : Type 0 where
  pub there : 8 * (h / 65536) + 8 ≤ length lines
  pub lives : is_live lines (h / 65536) ≡ true
  pub own : generation lines (h / 65536) ≡ h % 65536

pub known_slot : (lines : List ℕ) (h : ℕ) → known lines h ≡ true → KnownSlot lines h
unfolding known
known_slot lines h e =
    let c = both→ (ltb (h / 65536) (length lines / 8) && is_live lines (h / 65536)) _ e in
    let b = both→ (ltb (h / 65536) (length lines / 8)) _ c.0 in
    let low : h / 65536 < length lines / 8 = ltb-true _ _ b.0 in
    record { there = omega arith; lives = b.1; own = eqb-true _ _ c.1 }
