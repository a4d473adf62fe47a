-- The live lines are exactly those that the calls and their answers leave: a running list of what is held.
use Rattle.definitions.specs.Answer.{Answer}
use Rattle.definitions.specs.declared.Given.{Given}
use Rattle.algebra.specs.Lists.{in_those, of_those, in_up_from, to_up_from}
use Rattle.algebra.specs.Tests.{no_path, and_l, and_r}
use Rattle.algebra.specs.Words.{those, up_from}
use Rattle.definitions.specs.Calls.{with_slot, Reply, refusal_of, detail_of, cleared, rebuilt, placed, freed, free_slots, known}
use Rattle.definitions.specs.History.{Call, insert, delete, locate, show, window, reply_to, after_all}
use Rattle.definitions.specs.Tables.{entry, Tables, generation, is_live, slots_of, live_slots}
use Rattle.definitions.specs.Tree.{Rule}
use Rattle.meaning.specs.Slots.{put, bare, other_slot, same_or_not, zero_at, zero_dead, gift_lives, as_long, others_live, others_gen, put_at, bare_at, bare_dead, as_long', rest_live, rest_gen}
use Rattle.history.specs.Demand.{Held, Heard, heard, held_at, live_held}
use Rattle.history.proofs.Ledger.{Inserted, Free, free_first, insert_is, Deleted, delete_is, known_there, Inserted.refused as i_refused, Inserted.taken as i_taken, Deleted.refused as d_refused, Deleted.removed as d_removed}
use Rattle.std.specs.Prelude.{◌≡◌, ◌⊎◌, ◌↔◌, true, false, ◌&&◌, ℕ, ◌+◌, ◌*◌, ◌/◌, ◌%◌, ◌≤◌, ◌<◌, ltb, eqb, length, replicate, if◌then◌else◌}
use Rattle.std.proofs.Math.Path.{refl, ap}
use Rattle.std.proofs.Common.{sym, ◌∙◌, inl, inr, arith, eqb-true, ne_eqb}
use Rattle.std.proofs.Math.Bool.{Bool, not}
use mathlib.Core.List.Memᴰ
use mathlib.Core.List.{List, [], ◌∷◌, map, Memᴰ}
use Rattle.std.proofs.Math.ListN.{get_or}
use Rattle.std.proofs.lemmas.Bool.{eqb-false, not-true}

-- the lines held after one more call: an accepted insert adds its line under the number it gave, an accepted delete takes that number out
unfoldable pub held_after : List Held → Call → Answer → List Held
held_after held (insert g) r = if eqb (refusal_of r) 0 then record { handle = detail_of r; line = g } ∷ held else held
held_after held (delete h) r = if eqb (refusal_of r) 0 then those (λ i. not (eqb i.handle h)) held else held
held_after held (locate ps as') r = held
held_after held (show x y) r = held
held_after held (window w slots) r = held

-- inserted and not since deleted, by the calls and their answers alone
unfoldable pub held_by : List Held → List Heard → List Held
held_by held [] = held
held_by held (c ∷ more) = held_by (held_after held c.call c.answer) more

-- a live slot holds it
pub record LiveAt (lines : List ℕ) (i : Held) : Type 0 where
  pub slot : ℕ
  pub there : slot < length lines / 8
  pub lives : is_live lines slot ≡ true
  pub is : i ≡ held_at lines slot

pub live_iff : (lines : List ℕ) (i : Held) → Memᴰ i (live_held lines) ↔ LiveAt lines i
unfolding live_held live_slots slots_of
live_iff lines i = (there, back)
  where
    there : Memᴰ i (map (held_at lines) (those (is_live lines) (up_from 0 (length lines / 8)))) → LiveAt lines i
    there m =
        let r = Memᴰ.of_map (held_at lines) (those (is_live lines) (up_from 0 (length lines / 8))) m in
        let n = of_those (is_live lines) (up_from 0 (length lines / 8)) r.1 in
        record { slot = r.0; there = omega (arith, in_up_from 0 (length lines / 8) r.0 n.0); lives = n.1; is = sym r.2 }

    back : LiveAt lines i → Memᴰ i (map (held_at lines) (those (is_live lines) (up_from 0 (length lines / 8))))
    back a =
        Memᴰ.cast a.is (Memᴰ.map (held_at lines) (in_those (is_live lines) (up_from 0 (length lines / 8))
        (to_up_from 0 (length lines / 8) a.slot (omega arith) (omega (arith, a.there))) a.lives))

-- generations stay within 16 bits
abbrev pub Young : List ℕ → Type 0
Young lines = (x : ℕ) → generation lines x ≤ 65535

abbrev pub Same : List Held → List Held → Type 0
Same is js = (i : Held) → Memᴰ i is ↔ Memᴰ i js

-- the other slots as they were
module _ (lines new : List ℕ) (s : ℕ) (eight : length new ≡ 8) (fits : 8 * s + 8 ≤ length lines) (x : ℕ) (other : x ≡ s → ⊥) where
  held_other : held_at (with_slot lines s new) x ≡ held_at lines x
  unfolding held_at
  held_other = rw (at 1 (omega arith), at 2 (omega arith), at 3 (omega arith), at 4 (omega arith), at 5 (omega arith), at 6 (omega arith), at 7 (omega arith)) refl
    where
      at : (k : ℕ) → k < 8 → entry (with_slot lines s new) x k ≡ entry lines x k
      at k h = other_slot lines new s eight fits x k h other

-- what an insert adds
abbrev gift : List ℕ → Given → ℕ → Held
gift lines g s = record { handle = s * 65536 + (generation lines s + 1); line = g }

module _ (lines : List ℕ) (g : Given) (s : ℕ) (fits : 8 * s + 8 ≤ length lines) where
  gift_is : held_at (placed lines s g) s ≡ gift lines g s
  unfolding held_at
  gift_is = rw (at 1 (omega arith), at 2 (omega arith), at 3 (omega arith), at 4 (omega arith), at 5 (omega arith), at 6 (omega arith), at 7 (omega arith)) refl
    where
      at : (k : ℕ) → k < 8 → entry (placed lines s g) s k ≡ get_or (put lines g s fits) k 0
      at = put_at lines g s fits

  others_held : (x : ℕ) → (x ≡ s → ⊥) → held_at (placed lines s g) x ≡ held_at lines x
  unfolding placed
  others_held x d = held_other lines (put lines g s fits) s refl fits x d

module _ (lines : List ℕ) (s : ℕ) (fits : 8 * s + 8 ≤ length lines) where
  rest_held : (x : ℕ) → (x ≡ s → ⊥) → held_at (freed lines s) x ≡ held_at lines x
  unfolding freed
  rest_held x d = held_other lines (bare lines s fits) s refl fits x d

-- Insert
module _ (lines : List ℕ) (g : Given) (s : ℕ) (free : Free lines s) (dead : is_live lines s ≡ false) where
  insert→ : (i : Held) → LiveAt (placed lines s g) i → (i ≡ gift lines g s) ⊎ LiveAt lines i
  insert→ i a = go (same_or_not a.slot s)
    where
      go : (a.slot ≡ s) ⊎ (a.slot ≡ s → ⊥) → (i ≡ gift lines g s) ⊎ LiveAt lines i
      go (inl e) = inl (a.is ∙ ap (held_at (placed lines s g)) e ∙ (gift_is lines g s free.there))
      go (inr d) =
          inr (record {
            slot = a.slot;
            there = rw (as_long lines g s free.there) at a.there;
            lives = sym (others_live lines g s free.there a.slot d) ∙ a.lives;
            is = a.is ∙ others_held lines g s free.there a.slot d;
          })

  insert← : (i : Held) → (i ≡ gift lines g s) ⊎ LiveAt lines i → LiveAt (placed lines s g) i
  insert← i (inl e) = record { slot = s; there = rw (as_long lines g s free.there) (omega (arith, free.there)); lives = (gift_lives lines g s free.there); is = e ∙ sym (gift_is lines g s free.there) }
  insert← i (inr a) =
      record {
        slot = a.slot;
        there = rw (as_long lines g s free.there) a.there;
        lives = others_live lines g s free.there a.slot d ∙ a.lives;
        is = a.is ∙ sym (others_held lines g s free.there a.slot d);
      }
    where
      d : a.slot ≡ s → ⊥
      d e = no_path (sym dead ∙ ap (is_live lines) (sym e) ∙ a.lives)

  young_placed : Young lines → Young (placed lines s g)
  young_placed y x = go (same_or_not x s)
    where
      go : (x ≡ s) ⊎ (x ≡ s → ⊥) → generation (placed lines s g) x ≤ 65535
      go (inl e) = rw (e, put_at lines g s free.there 1 (omega arith)) (omega (arith, free.young))
      go (inr d) = rw (others_gen lines g s free.there x d) (y x)

-- Delete
pub known_live : (lines : List ℕ) (h : ℕ) → known lines h ≡ true → is_live lines (h / 65536) ≡ true
unfolding known
known_live lines h k = and_r (ltb (h / 65536) (length lines / 8)) (is_live lines (h / 65536)) (and_l (ltb (h / 65536) (length lines / 8) && is_live lines (h / 65536)) (eqb (generation lines (h / 65536)) (h % 65536)) k)

pub known_gen : (lines : List ℕ) (h : ℕ) → known lines h ≡ true → generation lines (h / 65536) ≡ h % 65536
unfolding known
known_gen lines h k = eqb-true _ _ (and_r (ltb (h / 65536) (length lines / 8) && is_live lines (h / 65536)) (eqb (generation lines (h / 65536)) (h % 65536)) k)

module _ (lines : List ℕ) (h : ℕ) (k : known lines h ≡ true) (young : Young lines) where
  abbrev s : ℕ
  s = h / 65536

  fits : 8 * s + 8 ≤ length lines
  fits = known_there lines h k

  -- the handle tells the slot
  slot_of : (x : ℕ) → x * 65536 + generation lines x ≡ h → x ≡ s
  slot_of x e = omega (arith, young x)

  handle_of : s * 65536 + generation lines s ≡ h
  handle_of = omega (arith, known_gen lines h k)

  delete→ : (i : Held) → LiveAt (freed lines s) i → (i.handle ≡ h → ⊥) × LiveAt lines i
  delete→ i a = (differs, old)
    where
      d : a.slot ≡ s → ⊥
      d e = no_path (sym (bare_dead lines s fits) ∙ ap (is_live (freed lines s)) (sym e) ∙ a.lives)

      old : LiveAt lines i
      old =
          record {
            slot = a.slot;
            there = rw (as_long' lines s fits) at a.there;
            lives = sym (rest_live lines s fits a.slot d) ∙ a.lives;
            is = a.is ∙ rest_held lines s fits a.slot d;
          }

      differs : i.handle ≡ h → ⊥
      differs e = d (slot_of a.slot (unfold held_at in (sym (ap (λ (j : Held). j.handle) old.is) ∙ e)))

  delete← : (i : Held) → (i.handle ≡ h → ⊥) × LiveAt lines i → LiveAt (freed lines s) i
  delete← i (n, a) =
      record {
        slot = a.slot;
        there = rw (as_long' lines s fits) a.there;
        lives = rest_live lines s fits a.slot d ∙ a.lives;
        is = a.is ∙ sym (rest_held lines s fits a.slot d);
      }
    where
      d : a.slot ≡ s → ⊥
      d e = n (unfold held_at in (ap (λ (j : Held). j.handle) a.is ∙ ap (λ (x : ℕ). x * 65536 + generation lines x) e ∙ handle_of))

  young_freed : Young (freed lines s)
  young_freed x = go (same_or_not x s)
    where
      go : (x ≡ s) ⊎ (x ≡ s → ⊥) → generation (freed lines s) x ≤ 65535
      go (inl e) = rw (e, bare_at lines s fits 1 (omega arith)) (young s)
      go (inr d) = rw (rest_gen lines s fits x d) (young x)

-- one call
pub free_dead : (lines : List ℕ) (s : ℕ) (more : List ℕ) → free_slots lines ≡ s ∷ more → is_live lines s ≡ false
unfolding free_slots
free_dead lines s more e =
    let m = of_those (λ x. not (is_live lines x) && ltb (generation lines x) 65535) {x = s} (slots_of lines) (rw e (Memᴰ.head refl)) in
    not-true _ (and_l (not (is_live lines s)) (ltb (generation lines s) 65535) m.1)

pub record Agree (t : Tables) (held : List Held) : Type 0 where
  pub same : Same (live_held t.lines) held
  pub young : Young t.lines

refusal_no : (r : Answer) → 0 < refusal_of r → eqb (refusal_of r) 0 ≡ false
refusal_no r k = ne_eqb (refusal_of r) 0 (λ e. omega arith)

start_agree : (t : Tables) → Agree (cleared t) []
unfolding cleared
start_agree t =
    record {
      same = λ i. (λ m. none ((live_iff _ i).0 m), λ m. absurd (Memᴰ.not-nil m));
      young = λ x. omega (arith, zero_at (length t.lines) (8 * x + 1));
    }
  where
    none : {i : Held} → LiveAt (replicate (length t.lines) 0) i → Memᴰ i []
    none a = no_path (sym (zero_dead (length t.lines) a.slot) ∙ a.lives)

module _ (rule : Rule) where
  agree_insert : (t : Tables) (g : Given) (held : List Held) {r : Reply} → Inserted rule t g r → Agree t held → Agree r.after (held_after held (insert g) r.answer)
  unfolding held_after rebuilt
  agree_insert t g held (i_refused r k) a = rw (refusal_no r k) a
  agree_insert t g held (i_taken s more e) a =
      record {
        same = λ i. (there i, back i);
        young = young_placed t.lines g s f d a.young;
      }
    where
      f : Free t.lines s
      f = free_first t.lines s more e

      d : is_live t.lines s ≡ false
      d = free_dead t.lines s more e

      there : (i : Held) → Memᴰ i (live_held (placed t.lines s g)) → Memᴰ i (gift t.lines g s ∷ held)
      there i m = go (insert→ t.lines g s f d i ((live_iff (placed t.lines s g) i).0 m))
        where
          go : (i ≡ gift t.lines g s) ⊎ LiveAt t.lines i → Memᴰ i (gift t.lines g s ∷ held)
          go (inl q) = Memᴰ.head q
          go (inr q) = Memᴰ.tail ((a.same i).0 ((live_iff t.lines i).1 q))

      back : (i : Held) → Memᴰ i (gift t.lines g s ∷ held) → Memᴰ i (live_held (placed t.lines s g))
      back i m = (live_iff (placed t.lines s g) i).1 (insert← t.lines g s f d i (go m))
        where
          go : Memᴰ i (gift t.lines g s ∷ held) → (i ≡ gift t.lines g s) ⊎ LiveAt t.lines i
          go (Memᴰ.head q) = inl q
          go (Memᴰ.tail q) = inr ((live_iff t.lines i).0 ((a.same i).1 q))

  agree_delete : (t : Tables) (h : ℕ) (held : List Held) {r : Reply} → Deleted rule t h r → Agree t held → Agree r.after (held_after held (delete h) r.answer)
  unfolding held_after rebuilt
  agree_delete t h held (d_refused r k) a = rw (refusal_no r k) a
  agree_delete t h held (d_removed k) a =
      record {
        same = λ i. (there i, back i);
        young = young_freed t.lines h k a.young;
      }
    where
      test : Held → Bool
      test i = not (eqb i.handle h)

      there : (i : Held) → Memᴰ i (live_held (freed t.lines (h / 65536))) → Memᴰ i (those (λ i. not (eqb i.handle h)) held)
      there i m =
          let q = delete→ t.lines h k a.young i ((live_iff (freed t.lines (h / 65536)) i).0 m) in
          in_those (λ i. not (eqb i.handle h)) held ((a.same i).0 ((live_iff t.lines i).1 q.1)) (ap not (ne_eqb i.handle h q.0))

      back : (i : Held) → Memᴰ i (those (λ i. not (eqb i.handle h)) held) → Memᴰ i (live_held (freed t.lines (h / 65536)))
      back i m =
          let q = of_those (λ i. not (eqb i.handle h)) held m in
          (live_iff (freed t.lines (h / 65536)) i).1 (delete← t.lines h k a.young i
          (eqb-false i.handle h (not-true _ q.1), (live_iff t.lines i).0 ((a.same i).1 q.0)))

  agree_call : (t : Tables) (c : Call) (held : List Held) → Agree t held → Agree (reply_to rule t c).after (held_after held c (reply_to rule t c).answer)
  unfolding reply_to
  agree_call t (insert g) held a = agree_insert t g held (insert_is rule t g) a
  agree_call t (delete h) held a = agree_delete t h held (delete_is rule t h) a
  agree_call t (locate ps as') held a = unfold held_after in a
  agree_call t (show x y) held a = unfold held_after in a
  agree_call t (window w slots) held a = unfold held_after in a

  pub agree_all : (cs : List Call) (t : Tables) (held : List Held) → Agree t held → Agree (after_all rule t cs) (held_by held (heard rule t cs))
  unfolding after_all held_by heard
  agree_all [] t held a = a
  agree_all (c ∷ more) t held a = agree_all more (reply_to rule t c).after (held_after held c (reply_to rule t c).answer) (agree_call t c held a)

  -- Any calls after a start: the live lines, with their handles, ends and labels, are exactly those inserted and not since deleted
  pub live_exact : (t : Tables) (cs : List Call) (i : Held)
      → Memᴰ i (live_held (after_all rule (cleared t) cs).lines) ↔ Memᴰ i (held_by [] (heard rule (cleared t) cs))
  live_exact t cs i = (agree_all cs (cleared t) [] (start_agree t)).same i
