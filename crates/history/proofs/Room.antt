-- No room, in the paper's words: over a fair rule the tree of the live lines and the new one has one size, whatever slot the line takes.
use Rattle.std.specs.Prelude.{◌≡◌, refl, ◌⊎◌, ◌↔◌, true, false, ℕ, ◌+◌, ◌*◌, ◌/◌, ◌≤◌, length, Err}
use Rattle.std.proofs.Math.Path.{sym, ap, subst}
use Rattle.std.proofs.Common.{◌∙◌, arith}
use Rattle.std.proofs.Math.Logic.{inl, inr}
use mathlib.Core.List.Memᴰ
use mathlib.Core.List.{List, [], ◌∷◌, Memᴰ, map}
use Rattle.std.proofs.lemmas.Bool.{not-false}
use Rattle.algebra.specs.Lists.{in_those, of_those, to_up_from}
use Rattle.algebra.specs.Tests.{no_path, false_by}
use Rattle.algebra.specs.Words.{those}
use Rattle.definitions.specs.declared.Refusal.TheVariants.{NoRoom}
use Rattle.definitions.specs.declared.Given.{Given}
use Rattle.definitions.specs.Calls.{given_line, all_on_grid, no_length, conflicting, free_slots, placed, insert_of}
use Rattle.definitions.specs.Shape.{Line, conflict}
use Rattle.definitions.specs.Tables.{Tables, is_live, slots_of, live_slots, line_at, live_lines, sound}
use Rattle.definitions.specs.Tree.{Rule, tree}
use Rattle.meaning.specs.Chain.{stable}
use Rattle.meaning.specs.Fair.{SameEnds, Within, Once, one_more, Fair}
use Rattle.meaning.specs.Slots.{same_or_not, placed_slots, gift_lives, new_line, others_live, others_line}
use Rattle.meaning.specs.Sound.{Sound, sound→}
use Rattle.meaning.specs.SoundMeans.{sound_means}
use Rattle.history.proofs.Conditions.{live_means, above_means, ends_mean}
use Rattle.history.proofs.Equal.{same_conflict, apart_once}
use Rattle.history.proofs.Exact.{insert_exact, first_way, first_free, no_free}
use Rattle.history.proofs.Kept.{apart_placed, clear_of}
use Rattle.history.specs.Refusals.{None, Some, Lowest, Vacant, NeedsMore, insert_tests}
use Rattle.history.proofs.Sizes.{SameSize, same_size}

-- the live lines after the line is put in slot s: those before, and the new one
module _ (lines : List ℕ) (g : Given) (s : ℕ) (fits : 8 * s + 8 ≤ length lines) (dead : is_live lines s ≡ false) where
  abbrev new : List ℕ
  new = placed lines s g

  abbrev joining : Line
  joining = record { slot = s; a = (given_line g).a; b = (given_line g).b }

  apart_from : (x : ℕ) → Memᴰ x (live_slots lines) → x ≡ s → ⊥
  unfolding live_slots
  apart_from x m q = no_path (sym dead ∙ subst (λ (y : ℕ). is_live lines y ≡ true) q (of_those (is_live lines) (slots_of lines) m).1)

  live_now : (x : ℕ) → Memᴰ x (live_slots new) ↔ ((x ≡ s) ⊎ Memᴰ x (live_slots lines))
  unfolding live_slots
  live_now x = (
    λ m. let k = of_those (is_live new) (slots_of new) m in there (rw slots at k.0) k.1 (same_or_not x s),
    back,
  )
    where
      slots : slots_of new ≡ slots_of lines
      slots = placed_slots lines g s fits

      there : Memᴰ x (slots_of lines) → is_live new x ≡ true → (x ≡ s) ⊎ (x ≡ s → ⊥) → (x ≡ s) ⊎ Memᴰ x (those (is_live lines) (slots_of lines))
      there m e (inl q) = inl q
      there m e (inr q) = inr (in_those (is_live lines) (slots_of lines) m (sym (others_live lines g s fits x q) ∙ e))

      back : (x ≡ s) ⊎ Memᴰ x (those (is_live lines) (slots_of lines)) → Memᴰ x (those (is_live new) (slots_of new))
      back (inl q) = in_those (is_live new) (slots_of new) (rw (slots, q) here) (rw q (gift_lives lines g s fits))
        where
          here : Memᴰ s (slots_of lines)
          here = unfold slots_of in (to_up_from 0 (length lines / 8) s (omega arith) (omega arith))
      back (inr m) =
          let k = of_those (is_live lines) (slots_of lines) m in
          in_those (is_live new) (slots_of new) (rw slots k.0) (others_live lines g s fits x (apart_from x m) ∙ k.1)

  pub joined : (l : Line) → Memᴰ l (live_lines new) ↔ ((l ≡ joining) ⊎ Memᴰ l (live_lines lines))
  unfolding live_lines
  joined l = (λ m. let u = Memᴰ.of_map (line_at new) (live_slots new) m in there u.0 u.2 ((live_now u.0).0 u.1), back)
    where
      there : (x : ℕ) → line_at new x ≡ l → (x ≡ s) ⊎ Memᴰ x (live_slots lines) → (l ≡ joining) ⊎ Memᴰ l (map (line_at lines) (live_slots lines))
      there x e (inl q) = inl (sym e ∙ ap (line_at new) q ∙ new_line lines g s fits)
      there x e (inr m) = inr (Memᴰ.cast (sym e ∙ others_line lines g s fits x (apart_from x m)) (Memᴰ.map (line_at lines) m))

      back : (l ≡ joining) ⊎ Memᴰ l (map (line_at lines) (live_slots lines)) → Memᴰ l (map (line_at new) (live_slots new))
      back (inl e) = Memᴰ.cast (e ∙ sym (new_line lines g s fits)) (Memᴰ.map (line_at new) ((live_now s).1 (inl refl)))
      back (inr m) =
          let u = Memᴰ.of_map (line_at lines) (live_slots lines) m in
          Memᴰ.cast (sym u.2 ∙ sym (others_line lines g s fits u.0 (apart_from u.0 u.1))) (Memᴰ.map (line_at new) ((live_now u.0).1 (inr u.1)))

  into : Within (live_lines new) (given_line g ∷ live_lines lines)
  into l m = go ((joined l).0 m)
    where
      go : (l ≡ joining) ⊎ Memᴰ l (live_lines lines) → (k : Line) × Memᴰ k (given_line g ∷ live_lines lines) × SameEnds l k
      go (inl e) = (given_line g, Memᴰ.head refl, (ap (λ (n : Line). n.a) e, ap (λ (n : Line). n.b) e))
      go (inr k) = (l, Memᴰ.tail k, (refl, refl))

  back_from : Within (given_line g ∷ live_lines lines) (live_lines new)
  back_from l (Memᴰ.head e) = (joining, (joined joining).1 (inl refl), (ap (λ (n : Line). n.a) e, ap (λ (n : Line). n.b) e))
  back_from l (Memᴰ.tail m) = (l, (joined l).1 (inr m), (refl, refl))

module _ (rule : Rule) (fair : Fair rule) (t : Tables) (g : Given) where
  module _ (s : ℕ) (grid : all_on_grid g ≡ true) (long : no_length g ≡ false) (clear : conflicting t.lines g ≡ []) (sd : Sound rule t) (fits : 8 * s + 8 ≤ length t.lines) (dead : is_live t.lines s ≡ false) where
    once_given : Once (given_line g ∷ live_lines t.lines)
    unfolding live_lines
    once_given = one_more differ (apart_once t.lines sd.apart)
      where
        differ : (m : Line) → Memᴰ m (live_lines t.lines) → SameEnds (given_line g) m → ⊥
        differ m k e =
            let u = Memᴰ.of_map (line_at t.lines) (live_slots t.lines) k in
            no_path (sym (clear_of rule fair t g s grid long clear sd fits u.0 u.1) ∙ ap (λ (n : Line). conflict n (given_line g)) u.2 ∙ same_conflict m (given_line g) (sym e.0, sym e.1))

    sizes : SameSize (tree rule (live_lines (placed t.lines s g))) (tree rule (given_line g ∷ live_lines t.lines))
    unfolding tree
    sizes =
        same_size rule fair (live_lines (placed t.lines s g)) (given_line g ∷ live_lines t.lines)
        (apart_once (placed t.lines s g) (apart_placed rule fair t g s grid long clear sd fits)) once_given (into t.lines g s fits dead) (back_from t.lines g s fits dead) 14 0 0

    needs_same : NeedsMore rule t (live_lines (placed t.lines s g)) ↔ NeedsMore rule t (given_line g ∷ live_lines t.lines)
    needs_same = (there, back)
      where
        there : NeedsMore rule t (live_lines (placed t.lines s g)) → NeedsMore rule t (given_line g ∷ live_lines t.lines)
        there (inl h) = inl (omega (arith, ap length sizes.nodes))
        there (inr h) = inr (omega (arith, sizes.listings))

        back : NeedsMore rule t (given_line g ∷ live_lines t.lines) → NeedsMore rule t (live_lines (placed t.lines s g))
        back (inl h) = inl (omega (arith, ap length sizes.nodes))
        back (inr h) = inr (omega (arith, sizes.listings))

  -- what tests 1 to 6 leave
  module _ (none : None 6 (insert_tests rule t g)) where
    clear : (cs : List ℕ) → conflicting t.lines g ≡ cs → cs ≡ []
    clear [] e = refl
    clear (s ∷ more) e = absurd (none.1.1.1.1.0 (s, (first_way rule t g none.1.0 none.1.1.1.0 s more e).holds))

    same_room : (s : ℕ) → Vacant t.lines s → NeedsMore rule t (live_lines (placed t.lines s g)) ↔ NeedsMore rule t (given_line g ∷ live_lines t.lines)
    same_room s v =
        needs_same s
        (not-false (all_on_grid g) (false_by _ (λ e. none.1.1.0 ((above_means g).0 e))))
        (false_by (no_length g) (λ e. none.1.1.1.0 ((ends_mean g).0 e)))
        (clear (conflicting t.lines g) refl)
        (sound→ rule t ((sound_means rule t).1 (stable (sound rule t) (sound_means rule t) none.1.0)))
        (omega (arith, v.there))
        (false_by (is_live t.lines s) (λ e. v.dead (record { there = v.there; lives = (live_means t.lines s).0 e })))

    slot_left : (fs : List ℕ) → free_slots t.lines ≡ fs → Some (Lowest (Vacant t.lines))
    slot_left [] e = absurd (none.1.1.1.1.1.0 (no_free rule t g e))
    slot_left (s ∷ more) e = (s, first_free rule t g s more e)

  -- 7: the tree of the live lines and the new one needs more node or listing entries than lent
  pub no_room_exact : ((insert_of rule t g).answer ≡ Err NoRoom) ↔ NeedsMore rule t (given_line g ∷ live_lines t.lines) × None 6 (insert_tests rule t g)
  no_room_exact = (
    λ e. let h = (insert_exact rule t g).no_room.0 e in ((same_room h.1 h.0.slot h.0.takes.holds).0 h.0.more, h.1),
    λ h. let u = slot_left h.1 (free_slots t.lines) refl in
        (insert_exact rule t g).no_room.1 (record { slot = u.0; takes = u.1; more = (same_room h.1 u.0 u.1.holds).1 h.0 }, h.1),
  )
