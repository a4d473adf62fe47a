-- Insert and delete keep a map sound, and so do any calls after a start.
use Rattle.definitions.specs.Answer.{Answer}
use Rattle.definitions.specs.declared.Refusal.TheVariants.{Lengths, Damaged, OffGrid, NoLength, Conflict, NoSlot, NoRoom}
use Rattle.definitions.specs.declared.Given.{Given}
use Rattle.algebra.specs.Lists.{of_those, in_those, every→, every←, padded_length}
use Rattle.algebra.specs.Tests.{no_path, and_l, and_r, and_b, or_l, or_r, false_by}
use Rattle.algebra.specs.Words.{those, every, padded}
use Rattle.definitions.specs.Calls.{cleared, given_line, Reply, reply, refusal_of, insert_of, delete_of, rebuilt, placed, freed, all_on_grid, no_length, conflicting, conflict_detail, free_slots, room_for, known}
use Rattle.definitions.specs.History.{Call, insert, delete, locate, show, window, reply_to, after_all}
use Rattle.definitions.specs.Shape.{within, Line, conflict, on, is_end, parts, left_of, right_of}
use Rattle.definitions.specs.Tables.{Tables, generation, is_live, slots_of, live_slots, line_at, live_lines, live_sound, empty_sound, slot_sound, none_conflict, node_table, listing_table, lengths_fit, sound}
use Rattle.definitions.specs.Tree.{leaf, listed, tree, nodes_of, listings_of, Rule}
use Rattle.meaning.specs.Fair.{Fair}
use Rattle.plane.specs.Crossing.{Proper}
use Rattle.meaning.specs.Rules.{fewer, by_leaf}
use Rattle.meaning.specs.Changes.{slots_freed, apart_freed, sub_freed, slots_placed}
use Rattle.meaning.specs.Slots.{same_or_not, placed_slots, others_live, others_line, new_line, zero_at, none_live, no_lines}
use Rattle.meaning.specs.Sound.{Sound, sound←, fits_nodes, fits_listings, conflict_back, grid_proper, live_proper}
use Rattle.history.proofs.Cascade.{branch, by_first}
use Rattle.history.proofs.Ledger.{free_first, Deleted, refused, removed, delete_is, known_there}
use Rattle.std.specs.Prelude.{◌≡◌, ◌⊎◌, Bool, ◌&&◌, ◌||◌, leb, ltb, eqb, length, Ok, Err}
use Rattle.std.proofs.Math.Path.{refl, ap}
use Rattle.std.proofs.Common.{sym, ◌∙◌, inl, inr}
use Rattle.std.proofs.Math.Bool.{true, false, not}
use mathlib.Core.List.Memᴰ
use mathlib.Core.List.{List, [], ◌∷◌, Memᴰ}
use Prim.Native.Nat.{ℕ, zero, suc, ◌+◌, ◌*◌, ◌-◌, ◌/◌, ◌%◌, ◌≤◌, ◌<◌}
use native.Mathlib.Omega.{arith}
use Rattle.std.proofs.Math.ListN.{replicate, length-replicate}
use borrow.Author.Tests.{leb-true, eq-eqb, not-false}

-- Start leaves a sound map
zero_slot : (n x : ℕ) → slot_sound (replicate n 0) x ≡ true
unfolding slot_sound empty_sound
zero_slot n x =
    or_r (is_live (replicate n 0) x && live_sound (replicate n 0) x) (empty_sound (replicate n 0) x)
    (rw (zero_at n (8 * x + 0), zero_at n (8 * x + 2), zero_at n (8 * x + 3), zero_at n (8 * x + 4), zero_at n (8 * x + 5), zero_at n (8 * x + 6), zero_at n (8 * x + 7)) refl)

module _ (rule : Rule) (fair : Fair rule) where
  -- rebuilt tables are sound where the slots are, and the tree fits
  pub rebuilt_sound : (t : Tables) (lines : List ℕ) → every (slot_sound lines) (slots_of lines) ≡ true → none_conflict lines ≡ true
      → length (nodes_of (tree rule (live_lines lines))) ≤ length t.nodes → length (listings_of (tree rule (live_lines lines))) ≤ length t.listings
      → Sound rule (rebuilt rule t lines)
  unfolding rebuilt node_table listing_table
  rebuilt_sound t lines a b h k =
      record {
        slots = a;
        apart = b;
        nodes = ap (λ (n : ℕ). padded n (nodes_of (tree rule (live_lines lines)))) (sym (padded_length _ _ h));
        listings = ap (λ (n : ℕ). padded n (listings_of (tree rule (live_lines lines)))) (sym (padded_length _ _ k));
      }

  -- Delete keeps a map sound, and always has room
  pub delete_sound : (t : Tables) (h : ℕ) → Sound rule t → Sound rule (delete_of rule t h).after
  delete_sound t h s = go (delete_is rule t h)
    where
      live_known : known t.lines h ≡ true → is_live t.lines (h / 65536) ≡ true
      live_known k = unfold known in (and_r (ltb (h / 65536) (length t.lines / 8)) (is_live t.lines (h / 65536)) (and_l (ltb (h / 65536) (length t.lines / 8) && is_live t.lines (h / 65536)) (eqb (generation t.lines (h / 65536)) (h % 65536)) k))

      go : {r : Reply} → Deleted rule t h r → Sound rule r.after
      go (refused r k) = s
      go (removed k) =
          let f = known_there t.lines h k in
          let u = fewer rule fair (sub_freed t.lines (h / 65536) f (live_known k)) in
          rebuilt_sound t (freed t.lines (h / 65536)) (slots_freed t.lines (h / 65536) f s.slots) (apart_freed t.lines (h / 65536) f s.apart)
          (omega (arith, u.nodes, fits_nodes rule t s)) (omega (arith, u.listings, fits_listings rule t s))

  -- Insert, with all that its tests showed
  pub record Passed (t : Tables) (g : Given) (s : ℕ) (more : List ℕ) : Type 0 where
    pub fit : lengths_fit t ≡ true
    pub ok : sound rule t ≡ true
    pub grid : all_on_grid g ≡ true
    pub long : no_length g ≡ false
    pub clear : conflicting t.lines g ≡ []
    pub slot : free_slots t.lines ≡ s ∷ more
    pub room : room_for rule t (placed t.lines s g) ≡ true

  pub data Outcome (t : Tables) (g : Given) : Reply → Type 0 where
    kept : (r : Answer) → 0 < refusal_of r → Outcome t g (reply r t)
    took : (s : ℕ) (more : List ℕ) → Passed t g s more
        → Outcome t g (reply (Ok (s * 65536 + (generation t.lines s + 1))) (rebuilt rule t (placed t.lines s g)))

  pub insert_outcome : (t : Tables) (g : Given) → Outcome t g (insert_of rule t g)
  unfolding insert_of
  insert_outcome t g =
      branch O (not (lengths_fit t)) (λ e. kept (Err Lengths) (omega arith))
      (λ e1. branch O (not (sound rule t)) (λ e. kept (Err Damaged) (omega arith))
      (λ e2. branch O (not (all_on_grid g)) (λ e. kept (Err OffGrid) (omega arith))
      (λ e3. branch O (no_length g) (λ e. kept (Err NoLength) (omega arith))
      (λ e4. by_first O (conflicting t.lines g) (λ s more e. kept (Err (Conflict (conflict_detail t.lines s g))) (omega arith))
      (λ e5. by_first O (free_slots t.lines)
      (λ s more e6. branch O (not (room_for rule t (placed t.lines s g))) (λ e. kept (Err NoRoom) (omega arith))
      (λ e7. took s more (record { fit = not-false _ e1; ok = not-false _ e2; grid = not-false _ e3; long = e4; clear = e5; slot = e6; room = not-false _ e7 })))
      (λ e. kept (Err NoSlot) (omega arith)))))))
    where
      O : Reply → Type 0
      O = Outcome t g

  -- the line in its slot, whether or not its tree has room
  module _ (t : Tables) (g : Given) (s : ℕ) (grid : all_on_grid g ≡ true) (long : no_length g ≡ false) (clear : conflicting t.lines g ≡ []) (sd : Sound rule t) (fits : 8 * s + 8 ≤ length t.lines) where
    abbrev new : List ℕ
    new = placed t.lines s g

    slots_as : slots_of new ≡ slots_of t.lines
    slots_as = placed_slots t.lines g s fits

    was : (x : ℕ) → (x ≡ s → ⊥) → Memᴰ x (live_slots new) → Memᴰ x (live_slots t.lines)
    unfolding live_slots
    was x q m =
        let n = of_those (is_live new) (slots_of new) m in
        in_those (is_live t.lines) (slots_of t.lines) (rw slots_as at n.0)
        (sym (others_live t.lines g s fits x q) ∙ n.1)

    line_as : (x : ℕ) → (x ≡ s → ⊥) → line_at new x ≡ line_at t.lines x
    line_as x q = others_line t.lines g s fits x q

    given_proper : Proper (given_line g)
    unfolding given_line
    given_proper = unfold no_length in (grid_proper 0 g.x1 g.y1 g.x2 g.y2 long)

    old_proper : (y : ℕ) → Memᴰ y (live_slots t.lines) → Proper (line_at t.lines y)
    old_proper y m = unfold live_slots in
        (let n = of_those (is_live t.lines) (slots_of t.lines) m in
        live_proper t.lines y (every→ (slot_sound t.lines) (slots_of t.lines) sd.slots n.0) n.1)

    pub clear_of : (y : ℕ) → Memᴰ y (live_slots t.lines) → conflict (line_at t.lines y) (given_line g) ≡ false
    unfolding conflicting live_slots
    clear_of y m =
        let n = of_those (is_live t.lines) (slots_of t.lines) m in
        false_by _ (λ k. Memᴰ.not-nil (rw clear at
        (in_those (λ u. is_live t.lines u && conflict (line_at t.lines u) (given_line g)) (slots_of t.lines) n.0 (and_b _ _ n.1 k))))

    -- the slot number plays no part in a conflict
    new_second : (l : Line) → conflict l (line_at new s) ≡ conflict l (given_line g)
    unfolding conflict within on is_end parts left_of right_of given_line
    new_second l = rw (new_line t.lines g s fits) refl

    new_first : (l : Line) → conflict (line_at new s) l ≡ conflict (given_line g) l
    unfolding conflict within on is_end parts left_of right_of given_line
    new_first l = rw (new_line t.lines g s fits) refl

    pub apart_placed : none_conflict new ≡ true
    unfolding none_conflict
    apart_placed = every← _ (live_slots new) (λ x m. every← _ (live_slots new) (λ y n. pair x y m n (same_or_not x s) (same_or_not y s)))
      where
        fine : (a b : Bool) → b ≡ false → a || not b ≡ true
        fine a b e = or_r a (not b) (ap not e)

        pair : (x y : ℕ) → Memᴰ x (live_slots new) → Memᴰ y (live_slots new) → (x ≡ s) ⊎ (x ≡ s → ⊥) → (y ≡ s) ⊎ (y ≡ s → ⊥)
            → eqb x y || not (conflict (line_at new x) (line_at new y)) ≡ true
        pair x y m n (inl q) (inl r) = or_l (eqb x y) _ (eq-eqb x y (q ∙ sym r))
        pair x y m n (inl q) (inr r) =
            fine (eqb x y) (conflict (line_at new x) (line_at new y))
            (rw (q, line_as y r) (new_first (line_at t.lines y) ∙ false_by _ (λ k. no_path (sym (clear_of y (was y r n)) ∙ conflict_back (given_line g) (line_at t.lines y) given_proper (old_proper y (was y r n)) k))))
        pair x y m n (inr q) (inl r) =
            fine (eqb x y) (conflict (line_at new x) (line_at new y))
            (rw (r, line_as x q) (new_second (line_at t.lines x) ∙ clear_of x (was x q m)))
        pair x y m n (inr q) (inr r) =
            rw (line_as x q, line_as y r)
            (every→ (λ u. eqb x u || not (conflict (line_at t.lines x) (line_at t.lines u))) (live_slots t.lines)
            (every→ (λ w. every (λ u. eqb w u || not (conflict (line_at t.lines w) (line_at t.lines u))) (live_slots t.lines)) (live_slots t.lines) sd.apart (was x q m)) (was y r n))

  -- Insert keeps a map sound
  pub insert_sound : (t : Tables) (g : Given) → Sound rule t → Sound rule (insert_of rule t g).after
  insert_sound t g sd = go (insert_outcome t g)
    where
      go : {r : Reply} → Outcome t g r → Sound rule r.after
      go (kept r k) = sd
      go (took s more p) =
          let f = (free_first t.lines s more p.slot).there in
          rebuilt_sound t (placed t.lines s g) (slots_placed t.lines g s f sd.slots p.grid p.long) (apart_placed t g s p.grid p.long p.clear sd f)
          (unfold room_for in (leb-true _ _ (and_l (leb (length (nodes_of (tree rule (live_lines (placed t.lines s g))))) (length t.nodes)) (leb (length (listings_of (tree rule (live_lines (placed t.lines s g))))) (length t.listings)) p.room)))
          (unfold room_for in (leb-true _ _ (and_r (leb (length (nodes_of (tree rule (live_lines (placed t.lines s g))))) (length t.nodes)) (leb (length (listings_of (tree rule (live_lines (placed t.lines s g))))) (length t.listings)) p.room)))

  -- so any calls on a sound map leave it sound
  pub calls_sound : (cs : List Call) (t : Tables) → Sound rule t → Sound rule (after_all rule t cs)
  unfolding after_all reply_to
  calls_sound [] t s = s
  calls_sound (insert g ∷ more) t s = calls_sound more (insert_of rule t g).after (insert_sound t g s)
  calls_sound (delete h ∷ more) t s = calls_sound more (delete_of rule t h).after (delete_sound t h s)
  calls_sound (locate ps as' ∷ more) t s = calls_sound more t s
  calls_sound (show x y ∷ more) t s = calls_sound more t s
  calls_sound (window w slots ∷ more) t s = calls_sound more t s

  empty_tree : tree rule [] ≡ leaf []
  unfolding tree
  empty_tree = by_leaf rule [] 13 0 0 (fair.bare _) ∙ unfold listed those in refl

  empty_nodes : nodes_of (tree rule []) ≡ 0 ∷ []
  unfolding nodes_of
  empty_nodes = rw empty_tree refl

  empty_listings : listings_of (tree rule []) ≡ []
  unfolding listings_of
  empty_listings = rw empty_tree refl

  zero_nodes : (n m : ℕ) → 1 ≤ m → replicate m 0 ≡ node_table rule (length (replicate {A = ℕ} m 0)) (replicate n 0)
  unfolding node_table padded
  zero_nodes n zero h = absurd (omega arith)
  zero_nodes n (suc m) h = rw (no_lines n, empty_nodes, length-replicate {A = ℕ} (suc m) 0) (let e : m ≡ suc m - 1 = omega arith in ap (λ (k : ℕ). 0 ∷ replicate k 0) e)

  zero_listings : (n m : ℕ) → replicate m 0 ≡ listing_table rule (length (replicate {A = ℕ} m 0)) (replicate n 0)
  unfolding listing_table padded
  zero_listings n m = rw (no_lines n, empty_listings, length-replicate {A = ℕ} m 0) (let e : m ≡ m - 0 = omega arith in ap (λ (k : ℕ). replicate k 0) e)

  pub start_sound : (t : Tables) → 1 ≤ length t.nodes → Sound rule (cleared t)
  unfolding cleared none_conflict live_slots
  start_sound t h =
      record {
        slots = every← (slot_sound (replicate (length t.lines) 0)) (slots_of (replicate (length t.lines) 0)) (λ x m. zero_slot (length t.lines) x);
        apart = every← _ _ (λ x m. absurd (Memᴰ.not-nil (rw (none_live (length t.lines) (slots_of (replicate (length t.lines) 0))) at m)));
        nodes = zero_nodes (length t.lines) (length t.nodes) h;
        listings = zero_listings (length t.lines) (length t.listings);
      }

  -- any calls after a start
  pub history_sound : (t : Tables) → 1 ≤ length t.nodes → (cs : List Call) → sound rule (after_all rule (cleared t) cs) ≡ true
  history_sound t h cs = sound← rule (after_all rule (cleared t) cs) (calls_sound cs (cleared t) (start_sound t h))
