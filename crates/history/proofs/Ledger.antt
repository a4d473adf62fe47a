-- No number is given twice, and a deleted number is refused ever after.
use Rattle.definitions.specs.Answer.{Answer}
use Rattle.definitions.specs.declared.Refusal.TheVariants.{Lengths, Damaged, OffGrid, NoLength, Conflict, NoSlot, NoRoom, UnknownHandle}
use Rattle.definitions.specs.declared.Given.{Given}
use Rattle.algebra.specs.Lists.{in_up_from, of_those}
use Rattle.algebra.specs.Tests.{and_r, no_path}
use Rattle.algebra.specs.Words.{up_from}
use Rattle.definitions.specs.Calls.{Reply, reply, refusal_of, insert_of, delete_of, rebuilt, placed, freed, all_on_grid, no_length, conflicting, conflict_detail, free_slots, room_for, known}
use Rattle.definitions.specs.History.{Call, insert, delete, locate, show, window, reply_to, after_all}
use Rattle.definitions.specs.Tables.{Tables, generation, is_live, slots_of, lengths_fit, sound}
use Rattle.definitions.specs.Tree.{Rule}
use Rattle.plane.specs.Compare.{order}
use Rattle.meaning.specs.Slots.{same_or_not, in_slot, other_slot, lives_other as live_other, bare_dead as freed_dead}
use Rattle.history.proofs.Cascade.{branch, by_first}
use Rattle.history.specs.Demand.{given_now, given_by, Distinct, Distinct.none, Distinct.one}
use Rattle.std.specs.Prelude.{◌≡◌, ◌⊎◌, Bool, false, not, ◌&&◌, ltb, eqb, length, Ok, Err}
use Rattle.std.proofs.Math.Path.{refl}
use Rattle.std.proofs.Common.{sym, ◌∙◌, subst, ltb-true, eqb-true, ne_eqb}
use Rattle.std.proofs.Math.Logic.{inl, inr}
use Rattle.std.proofs.Math.Bool.{true}
use mathlib.Core.List.Memᴰ
use mathlib.Core.List.{List, [], ◌∷◌, ◌++◌, Memᴰ}
use Prim.Native.Nat.{ℕ, ◌+◌, ◌*◌, ◌/◌, ◌%◌, ◌≤◌, ◌<◌}
use native.Mathlib.Omega.{arith}
use Rattle.std.proofs.lemmas.Bool.{not-false}

-- what a free slot is
pub record Free (lines : List ℕ) (s : ℕ) : Type 0 where
  pub there : 8 * s + 8 ≤ length lines
  pub young : generation lines s < 65535

pub free_first : (lines : List ℕ) (s : ℕ) (more : List ℕ) → free_slots lines ≡ s ∷ more → Free lines s
unfolding free_slots slots_of
free_first lines s more e =
    let m = of_those (λ s. not (is_live lines s) && ltb (generation lines s) 65535) {x = s} (up_from 0 (length lines / 8)) (rw e (Memᴰ.head refl)) in
    record {
      there = omega (arith, (in_up_from 0 (length lines / 8) s m.0).1);
      young = ltb-true (generation lines s) 65535 (and_r (not (is_live lines s)) (ltb (generation lines s) 65535) m.1);
    }

placed_same : (lines : List ℕ) (s : ℕ) (g : Given) → Free lines s → generation (placed lines s g) s ≡ generation lines s + 1
unfolding placed
placed_same lines s g f = in_slot lines _ s refl f.there 1 (omega arith)

placed_other : (lines : List ℕ) (s : ℕ) (g : Given) → Free lines s → (x : ℕ) → (x ≡ s → ⊥) → generation (placed lines s g) x ≡ generation lines x
unfolding placed
placed_other lines s g f x d = other_slot lines _ s refl f.there x 1 (omega arith) d

placed_grows : (lines : List ℕ) (s : ℕ) (g : Given) → Free lines s → (x : ℕ) → generation lines x ≤ generation (placed lines s g) x
placed_grows lines s g f x = go (order x s) (order s x)
  where
    other : (x ≡ s → ⊥) → generation lines x ≤ generation (placed lines s g) x
    other d = omega (arith, placed_other lines s g f x d)

    go : (x ≤ s) ⊎ (s < x) → (s ≤ x) ⊎ (x < s) → generation lines x ≤ generation (placed lines s g) x
    go (inl a) (inl b) =
        let e : s ≡ x = omega arith in
        subst (λ (y : ℕ). generation lines y ≤ generation (placed lines s g) y) e (omega (arith, placed_same lines s g f))
    go (inl a) (inr b) = other (λ e. omega arith)
    go (inr a) q = other (λ e. omega arith)

and_l : (a b : Bool) → a && b ≡ true → a ≡ true
and_l true b e = refl
and_l false b e = e

freed_same : (lines : List ℕ) (h : ℕ) → known lines h ≡ true → (x : ℕ) → generation (freed lines (h / 65536)) x ≡ generation lines x
unfolding known freed
freed_same lines h e x = go (order x s) (order s x)
  where
    s : ℕ
    s = h / 65536

    there : 8 * s + 8 ≤ length lines
    there = omega (arith, ltb-true (h / 65536) (length lines / 8) (and_l (ltb (h / 65536) (length lines / 8)) (is_live lines (h / 65536)) (and_l (ltb (h / 65536) (length lines / 8) && is_live lines (h / 65536)) (eqb (generation lines (h / 65536)) (h % 65536)) e)))

    go : (x ≤ s) ⊎ (s < x) → (s ≤ x) ⊎ (x < s) → generation (freed lines s) x ≡ generation lines x
    go (inl a) (inl b) =
        let e : s ≡ x = omega arith in
        subst (λ (y : ℕ). generation (freed lines s) y ≡ generation lines y) e (in_slot lines _ s refl there 1 (omega arith))
    go (inl a) (inr b) = other_slot lines _ s refl there x 1 (omega arith) (λ e. omega arith)
    go (inr a) q = other_slot lines _ s refl there x 1 (omega arith) (λ e. omega arith)

-- a number newer than what its slot has been given so far
abbrev Newer : Tables → ℕ → Type 0
Newer t h = generation t.lines (h / 65536) < h % 65536

-- one call: what it gives is newer than the tables before and not than the tables after, and no generation falls
record Step (t : Tables) (r : Reply) (now : List ℕ) : Type 0 where
  grows : (x : ℕ) → generation t.lines x ≤ generation r.after.lines x
  newer : (h : ℕ) → Memᴰ h now → Newer t h
  used : (h : ℕ) → Memᴰ h now → h % 65536 ≤ generation r.after.lines (h / 65536)
  single : (now ≡ []) ⊎ ((h : ℕ) × (now ≡ h ∷ []))

no_gift : (g : Given) (r : Answer) → 0 < refusal_of r → given_now (insert g) r ≡ []
no_gift g r k = rw (ne_eqb (refusal_of r) 0 (λ e. omega (arith, k, e))) refl

idle : (t : Tables) (a : Answer) (now : List ℕ) → now ≡ [] → Step t (reply a t) now
idle t a now e =
    record {
      grows = λ x. omega arith;
      newer = λ h m. absurd (Memᴰ.not-nil (rw e at m));
      used = λ h m. absurd (Memᴰ.not-nil (rw e at m));
      single = inl e;
    }

-- A number that is dead: its slot is not live and was given it or a later one, or was given a later one
abbrev pub Dead : Tables → ℕ → Type 0
Dead t h = ((is_live t.lines (h / 65536) ≡ false) × (h % 65536 ≤ generation t.lines (h / 65536))) ⊎ (h % 65536 < generation t.lines (h / 65536))

pub known_there : (lines : List ℕ) (h : ℕ) → known lines h ≡ true → 8 * (h / 65536) + 8 ≤ length lines
unfolding known
known_there lines h e =
    omega (arith, ltb-true (h / 65536) (length lines / 8) (and_l (ltb (h / 65536) (length lines / 8)) (is_live lines (h / 65536)) (and_l (ltb (h / 65536) (length lines / 8) && is_live lines (h / 65536)) (eqb (generation lines (h / 65536)) (h % 65536)) e)))

module _ (rule : Rule) where
  -- an answer of insert: a refusal, and the tables as they were; or a free slot taken
  pub data Inserted (t : Tables) (g : Given) : Reply → Type 0 where
    refused : (r : Answer) → 0 < refusal_of r → Inserted t g (reply r t)
    taken : (s : ℕ) (more : List ℕ) → free_slots t.lines ≡ s ∷ more
        → Inserted t g (reply (Ok (s * 65536 + (generation t.lines s + 1))) (rebuilt rule t (placed t.lines s g)))

  pub insert_is : (t : Tables) (g : Given) → Inserted t g (insert_of rule t g)
  unfolding insert_of
  insert_is t g =
      branch I (not (lengths_fit t)) (λ e. refused (Err Lengths) (omega arith))
      (λ e. branch I (not (sound rule t)) (λ e. refused (Err Damaged) (omega arith))
      (λ e. branch I (not (all_on_grid g)) (λ e. refused (Err OffGrid) (omega arith))
      (λ e. branch I (no_length g) (λ e. refused (Err NoLength) (omega arith))
      (λ e. by_first I (conflicting t.lines g) (λ s more e. refused (Err (Conflict (conflict_detail t.lines s g))) (omega arith))
      (λ e. by_first I (free_slots t.lines)
      (λ s more e. branch I (not (room_for rule t (placed t.lines s g))) (λ f. refused (Err NoRoom) (omega arith)) (λ f. taken s more e))
      (λ e. refused (Err NoSlot) (omega arith)))))))
    where
      I : Reply → Type 0
      I = Inserted t g

  -- Demand 1 for insert: a refusal changes no entry
  pub insert_refused : (t : Tables) (g : Given) → 0 < refusal_of (insert_of rule t g).answer → (insert_of rule t g).after ≡ t
  insert_refused t g h = go (insert_is t g) h
    where
      go : {r : Reply} → Inserted t g r → 0 < refusal_of r.answer → r.after ≡ t
      go (refused r k) h = refl
      go (taken s more e) h = absurd (omega arith)

  -- delete: a refusal, or a known slot freed
  pub data Deleted (t : Tables) (h : ℕ) : Reply → Type 0 where
    refused : (r : Answer) → 0 < refusal_of r → Deleted t h (reply r t)
    removed : known t.lines h ≡ true → Deleted t h (reply (Ok 0) (rebuilt rule t (freed t.lines (h / 65536))))

  pub delete_is : (t : Tables) (h : ℕ) → Deleted t h (delete_of rule t h)
  unfolding delete_of
  delete_is t h =
      branch D (not (lengths_fit t)) (λ e. refused (Err Lengths) (omega arith))
      (λ e. branch D (not (sound rule t)) (λ e. refused (Err Damaged) (omega arith))
      (λ e. branch D (not (known t.lines h)) (λ e. refused (Err UnknownHandle) (omega arith)) (λ e. removed (not-false (known t.lines h) e))))
    where
      D : Reply → Type 0
      D = Deleted t h

  step_insert : (t : Tables) (g : Given) {r : Reply} → Inserted t g r → Step t r (given_now (insert g) r.answer)
  unfolding rebuilt
  step_insert t g (refused r k) = idle t r (given_now (insert g) r) (no_gift g r k)
  step_insert t g (taken s more e) =
      let f = free_first t.lines s more e in
      let n = generation t.lines s in
      record {
        grows = placed_grows t.lines s g f;
        newer = λ h m. gift_new h (Memᴰ.eq_of_singleton m);
        used = λ h m. gift_used h (Memᴰ.eq_of_singleton m);
        single = inr (s * 65536 + (n + 1), refl);
      }
    where
      young : generation t.lines s < 65535
      young = (free_first t.lines s more e).young

      slot_is : (h : ℕ) → h ≡ s * 65536 + (generation t.lines s + 1) → h / 65536 ≡ s
      slot_is h q = omega (arith, young)

      part_is : (h : ℕ) → h ≡ s * 65536 + (generation t.lines s + 1) → h % 65536 ≡ generation t.lines s + 1
      part_is h q = omega (arith, young)

      gift_new : (h : ℕ) → h ≡ s * 65536 + (generation t.lines s + 1) → Newer t h
      gift_new h q = rw (slot_is h q, part_is h q) (omega arith)

      gift_used : (h : ℕ) → h ≡ s * 65536 + (generation t.lines s + 1) → h % 65536 ≤ generation (placed t.lines s g) (h / 65536)
      gift_used h q = rw (slot_is h q, part_is h q) (omega (arith, placed_same t.lines s g (free_first t.lines s more e)))

  step_delete : (t : Tables) (h : ℕ) {r : Reply} → Deleted t h r → Step t r []
  unfolding rebuilt
  step_delete t h (refused r k) = idle t r [] refl
  step_delete t h (removed e) =
      record {
        grows = λ x. omega (arith, freed_same t.lines h e x);
        newer = λ g m. absurd (Memᴰ.not-nil m);
        used = λ g m. absurd (Memᴰ.not-nil m);
        single = inl refl;
      }

  step : (t : Tables) (c : Call) → Step t (reply_to rule t c) (given_now c (reply_to rule t c).answer)
  unfolding reply_to
  step t (insert g) = step_insert t g (insert_is t g)
  step t (delete h) = step_delete t h (delete_is t h)
  step t (locate ps as') = idle t _ [] refl
  step t (show x y) = idle t _ [] refl
  step t (window w slots) = idle t _ [] refl

  given_newer : (cs : List Call) (t : Tables) (h : ℕ) → Memᴰ h (given_by rule t cs) → Newer t h
  unfolding given_by
  given_newer [] t h m = absurd (Memᴰ.not-nil m)
  given_newer (c ∷ more) t h m = go (Memᴰ.append_cases (given_now c (reply_to rule t c).answer) m) (λ k. given_newer more (reply_to rule t c).after h k)
    where
      go : Memᴰ h (given_now c (reply_to rule t c).answer) ⊎ Memᴰ h (given_by rule (reply_to rule t c).after more)
          → (Memᴰ h (given_by rule (reply_to rule t c).after more) → Newer (reply_to rule t c).after h) → Newer t h
      go (inl k) ih = (step t c).newer h k
      go (inr k) ih = omega (arith, (step t c).grows (h / 65536), ih k)

  -- No two accepted inserts give the same number
  pub all_distinct : (cs : List Call) (t : Tables) → Distinct (given_by rule t cs)
  unfolding given_by
  all_distinct [] t = none
  all_distinct (c ∷ more) t = go (given_now c (reply_to rule t c).answer) refl (step t c).single (all_distinct more (reply_to rule t c).after)
    where
      later : List ℕ
      later = given_by rule (reply_to rule t c).after more

      fresh : (h : ℕ) → Memᴰ h (given_now c (reply_to rule t c).answer) → Memᴰ h later → ⊥
      fresh h m k = omega (arith, (step t c).used h m, given_newer more (reply_to rule t c).after h k)

      go : (now : List ℕ) → given_now c (reply_to rule t c).answer ≡ now → (now ≡ []) ⊎ ((h : ℕ) × (now ≡ h ∷ [])) → Distinct later → Distinct (now ++ later)
      go now e (inl q) d = rw q d
      go now e (inr (h, q)) d = rw q (one (λ k. fresh h (rw (e ∙ q) (Memᴰ.head refl)) k) d)

  -- it stays dead under insert
  dead_insert : (t : Tables) (g : Given) (h : ℕ) {r : Reply} → Inserted t g r → Dead t h → Dead r.after h
  unfolding rebuilt
  dead_insert t g h (refused r k) d = d
  dead_insert t g h (taken s more e) d = go (same_or_not (h / 65536) s) d
    where
      f : Free t.lines s
      f = free_first t.lines s more e

      new : List ℕ
      new = placed t.lines s g

      now : h / 65536 ≡ s → h % 65536 ≤ generation t.lines (h / 65536) → h % 65536 < generation new (h / 65536)
      now q k =
          subst (λ (x : ℕ). h % 65536 ≤ generation t.lines x → h % 65536 < generation new x) (sym q)
          (λ k'. omega (arith, k', placed_same t.lines s g f)) k

      same_live : (h / 65536 ≡ s → ⊥) → is_live new (h / 65536) ≡ is_live t.lines (h / 65536)
      same_live q = unfold placed in (live_other t.lines _ s refl f.there (h / 65536) q)

      go : (h / 65536 ≡ s) ⊎ (h / 65536 ≡ s → ⊥) → Dead t h
          → ((is_live new (h / 65536) ≡ false) × (h % 65536 ≤ generation new (h / 65536))) ⊎ (h % 65536 < generation new (h / 65536))
      go (inl q) (inl k) = inr (now q k.1)
      go (inl q) (inr k) = inr (now q (omega arith))
      go (inr q) (inl k) = inl (same_live q ∙ k.0, omega (arith, k.1, placed_grows t.lines s g f (h / 65536)))
      go (inr q) (inr k) = inr (omega (arith, k, placed_grows t.lines s g f (h / 65536)))

  -- and under delete
  dead_delete : (t : Tables) (i h : ℕ) {r : Reply} → Deleted t i r → Dead t h → Dead r.after h
  unfolding rebuilt
  dead_delete t i h (refused r k) d = d
  dead_delete t i h (removed e) d = go (same_or_not (h / 65536) (i / 65536)) d
    where
      new : List ℕ
      new = freed t.lines (i / 65536)

      kept : generation new (h / 65536) ≡ generation t.lines (h / 65536)
      kept = freed_same t.lines i e (h / 65536)

      off : h / 65536 ≡ i / 65536 → is_live new (h / 65536) ≡ false
      off q = rw q (freed_dead t.lines (i / 65536) (known_there t.lines i e))

      same_live : (h / 65536 ≡ i / 65536 → ⊥) → is_live new (h / 65536) ≡ is_live t.lines (h / 65536)
      same_live q = unfold freed in (live_other t.lines _ (i / 65536) refl (known_there t.lines i e) (h / 65536) q)

      go : (h / 65536 ≡ i / 65536) ⊎ (h / 65536 ≡ i / 65536 → ⊥) → Dead t h
          → ((is_live new (h / 65536) ≡ false) × (h % 65536 ≤ generation new (h / 65536))) ⊎ (h % 65536 < generation new (h / 65536))
      go (inl q) (inl k) = inl (off q, omega (arith, kept, k.1))
      go (inr q) (inl k) = inl (same_live q ∙ k.0, omega (arith, kept, k.1))
      go p (inr k) = inr (omega (arith, kept, k))

  dead_step : (t : Tables) (c : Call) (h : ℕ) → Dead t h → Dead (reply_to rule t c).after h
  unfolding reply_to
  dead_step t (insert g) h d = dead_insert t g h (insert_is t g) d
  dead_step t (delete i) h d = dead_delete t i h (delete_is t i) d
  dead_step t (locate ps as') h d = d
  dead_step t (show x y) h d = d
  dead_step t (window w slots) h d = d

  -- an accepted delete leaves its number dead
  dies : (t : Tables) (h : ℕ) → (delete_of rule t h).answer ≡ Ok 0 → Dead (delete_of rule t h).after h
  unfolding rebuilt
  dies t h e = go (delete_is t h) e
    where
      go : {r : Reply} → Deleted t h r → r.answer ≡ Ok 0 → Dead r.after h
      go (refused r k) q = absurd (nope (subst (λ (a : Answer). 0 < refusal_of a) q k))
        where
          nope : 0 < 0 → ⊥
          nope h = omega arith
      go (removed k) q =
          inl (freed_dead t.lines (h / 65536) (known_there t.lines h k), omega (arith, freed_same t.lines h k (h / 65536), gen_is k))
        where
          gen_is : known t.lines h ≡ true → generation t.lines (h / 65536) ≡ h % 65536
          gen_is k = unfold known in (eqb-true _ _ (and_r (ltb (h / 65536) (length t.lines / 8) && is_live t.lines (h / 65536)) (eqb (generation t.lines (h / 65536)) (h % 65536)) k))

  -- a dead number is refused
  dead_refused : (t : Tables) (h : ℕ) → Dead t h → 0 < refusal_of (delete_of rule t h).answer
  dead_refused t h d = go (delete_is t h)
    where
      no_more : known t.lines h ≡ true → Dead t h → ⊥
      no_more k (inl q) = no_path (sym q.0 ∙ unfold known in (and_r (ltb (h / 65536) (length t.lines / 8)) (is_live t.lines (h / 65536)) (and_l (ltb (h / 65536) (length t.lines / 8) && is_live t.lines (h / 65536)) (eqb (generation t.lines (h / 65536)) (h % 65536)) k)))
      no_more k (inr q) = clash q (unfold known in (eqb-true _ _ (and_r (ltb (h / 65536) (length t.lines / 8) && is_live t.lines (h / 65536)) (eqb (generation t.lines (h / 65536)) (h % 65536)) k)))
        where
          clash : {a b : ℕ} → a < b → b ≡ a → ⊥
          clash p q = omega arith

      go : {r : Reply} → Deleted t h r → 0 < refusal_of r.answer
      go (refused r k) = k
      go (removed k) = absurd (no_more k d)

  dead_after : (cs : List Call) (t : Tables) (h : ℕ) → Dead t h → Dead (after_all rule t cs) h
  unfolding after_all
  dead_after [] t h d = d
  dead_after (c ∷ more) t h d = dead_after more (reply_to rule t c).after h (dead_step t c h d)

  -- A deleted number is refused ever after
  pub refused_ever_after : (t : Tables) (h : ℕ) → (delete_of rule t h).answer ≡ Ok 0 → (cs : List Call)
      → 0 < refusal_of (delete_of rule (after_all rule (delete_of rule t h).after cs) h).answer
  refused_ever_after t h e cs = dead_refused _ h (dead_after cs (delete_of rule t h).after h (dies t h e))
