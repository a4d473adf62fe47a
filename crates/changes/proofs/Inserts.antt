-- The steps of insert on a sound map, over plain lists.
use Rattle.std.specs.Prelude.{Ok, Err}
use mathlib.Core.Path.{◌≡◌, refl, sym, ap, ◌∙◌, subst}
use mathlib.Core.Bool.{Bool, true, false}
use Rattle.std.specs.Prelude.{Some}
use mathlib.Core.List.{List, Memᴰ}
use Prim.Native.Nat.{ℕ, ◌+◌, ◌*◌, ◌≤◌, ◌<◌}
use native.Mathlib.Omega.{arith}
use Rattle.algebra.specs.Words.{every}
use Rattle.algebra.specs.Tests.{both→}
use Rattle.definitions.specs.declared.Refusal.TheVariants.{NoRoom}
use Rattle.definitions.specs.declared.Given.{Given}
use Rattle.definitions.specs.Tree.{Rule}
use Rattle.definitions.specs.Tables.{Tables, slot_sound, slots_of, is_live, generation}
use Rattle.definitions.specs.Calls.{all_on_grid, no_length, with_slot, placed, rebuilt, room_for, conflicting, insert_of}
use Rattle.meaning.specs.Changes.{slots_placed}
use Rattle.meaning.specs.Sound.{sound→}
use Rattle.tables.specs.declared.Row.{Row}
use Rattle.tables.specs.Rows.{OnMap, row_at, row_of, entries_of, placed_is}
use Rattle.tables.specs.Slots.{first_slot_of, first_at}
use Rattle.tables.specs.Sound.{FreeSlot, free_found, picked, on_map, sound_at, Tested}
use Rattle.tables.specs.Lent.{tables, Replies, Passed, lines_short}
use Rattle.changes.specs.Changing.{Room, Put, Placing}
use Rattle.changes.specs.Steps.{insert_0, insert_7}

module _ {rule : Rule} {lines nodes listings : List ℕ} (w : Passed rule lines nodes listings) where
  pub slots_ok : every (slot_sound lines) (slots_of lines) ≡ true
  slots_ok = (sound→ rule (tables lines nodes listings) w.ok).slots

  -- a slot that conflicts is one of 1,024, and live: its line is on the grid
  pub conflict_there : (g : Given) {s : ℕ} → first_slot_of (conflicting lines g) ≡ Some s → OnMap lines s × (s ≤ 1023)
  unfolding conflicting
  conflict_there g {s} e =
      let f = first_at (conflicting lines g) e in
      let m = picked lines _ {s = s} (subst (λ (l : List ℕ). Memᴰ s l) (sym f.1) (Memᴰ.head refl)) in
      (on_map lines s m.0 (sound_at lines slots_ok (omega (arith, m.0))) (both→ (is_live lines s) _ m.1).0, omega (arith, m.0, lines_short lines nodes listings w.fit))

pub tested : {rule : Rule} {lines nodes listings : List ℕ} {g : Given} → Passed rule lines nodes listings → all_on_grid g ≡ true → no_length g ≡ false → Tested lines g
tested w grid long = record { slots = slots_ok w; on_grid = grid; long = long }

module _ {rule : Rule} {lines nodes listings : List ℕ} {slot : ℕ} {g : Given} (w : Placing rule lines nodes listings slot g) where
  abbrev t : Tables
  t = tables lines nodes listings

  pub free : FreeSlot lines slot
  free = free_found lines w.free

  pub young : {row : Row} → row ≡ row_at lines slot → row.generation < 65535
  young e = subst (λ (r : Row). r.generation < 65535) (sym e) free.young

  pub slot_low : slot < 1024
  slot_low = omega (arith, free.there, lines_short lines nodes listings w.passed.fit)

  module _ {row row' : Row} (e : row ≡ row_at lines slot) (f : row' ≡ row_of g (row.generation + 1)) where
    is_placed : with_slot lines slot (entries_of row') ≡ placed lines slot g
    is_placed = placed_is lines slot e g f

    pub has_place : Room lines nodes listings slot row'
    has_place =
        record {
          fit = w.passed.fit;
          there = free.there;
          slots = subst (λ (l : List ℕ). every (slot_sound l) (slots_of l) ≡ true) (sym is_placed) (slots_placed lines g slot free.there (slots_ok w.passed) w.grid w.long);
        }

    module _ {l n s : List ℕ} where
      pub taken_in : {b : Bool} → Put rule t (with_slot lines slot (entries_of row')) (tables l n s) b → b ≡ true → {h : ℕ} → h ≡ slot * 65536 + (row.generation + 1) → Replies (Ok h) l n s (insert_of rule t g)
      taken_in {b} p q {h} k =
          let u : Put rule t (with_slot lines slot (entries_of row')) (tables l n s) true = subst (λ (x : Bool). Put rule t (with_slot lines slot (entries_of row')) (tables l n s) x) q p in
          let m = first_at _ w.free in
          (λ i. record { answer = Ok (number i); after = (u.1 ∙ ap (rebuilt rule t) is_placed) i })
          ∙ sym (insert_0 rule t g w.passed.fit w.passed.ok w.grid w.long w.clear slot m.0 m.1 (subst (λ (z : List ℕ). room_for rule t z ≡ true) is_placed u.0))
        where
          number : h ≡ slot * 65536 + (generation lines slot + 1)
          number = k ∙ ap (λ (r : Row). slot * 65536 + (r.generation + 1)) e

      pub left_out : {b : Bool} → Put rule t (with_slot lines slot (entries_of row')) (tables l n s) b → b ≡ false → Replies (Err NoRoom) l n s (insert_of rule t g)
      left_out {b} p q =
          let u : Put rule t (with_slot lines slot (entries_of row')) (tables l n s) false = subst (λ (x : Bool). Put rule t (with_slot lines slot (entries_of row')) (tables l n s) x) q p in
          let m = first_at _ w.free in
          (λ i. record { answer = Err NoRoom; after = u.1 i })
          ∙ sym (insert_7 rule t g w.passed.fit w.passed.ok w.grid w.long w.clear slot m.0 m.1 (subst (λ (z : List ℕ). room_for rule t z ≡ false) is_placed u.0))
