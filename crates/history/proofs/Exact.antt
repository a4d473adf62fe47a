-- The calls answer by the refusal table, and a refusal leaves all as it was.
use Rattle.std.specs.Prelude.{◌≡◌, ◌⊎◌, ◌↔◌, true, not, ◌&&◌, List, [], ◌∷◌, ℕ, ◌+◌, ◌*◌, ◌/◌, ◌≤◌, ◌<◌, Ok, Err}
use Rattle.std.proofs.Math.Path.{refl}
use Rattle.std.proofs.Common.{sym, ◌∙◌, ap, subst, inl, inr, arith, eqb-true}
use Rattle.std.proofs.Math.Dec.{eqb}
use Rattle.std.proofs.Math.ListN.{length}
use Rattle.std.proofs.lemmas.Bool.{not-false}
use Rattle.algebra.specs.Tests.{false_by, and_r}
use Rattle.definitions.specs.Answer.{Answer}
use Rattle.definitions.specs.declared.Refusal.TheVariants.{Lengths, Damaged, OffGrid, NoLength, Conflict, NoSlot, NoRoom, UnknownHandle}
use Rattle.definitions.specs.declared.Given.{Given}
use Rattle.definitions.specs.declared.Kind.{Kind}
use Rattle.definitions.specs.Calls.{Reply, reply, cleared, start_of, given_line, all_on_grid, no_length, conflicting, conflict_detail, free_slots, placed, known, freed, rebuilt, room_for, insert_of, delete_of}
use Rattle.definitions.specs.Lookup.{Located, Showing, answers_to, not_shown, shown_at, leaf_over, locate_of, show_of}
use Rattle.definitions.specs.Meaning.{Live, KindIs}
use Rattle.definitions.specs.Shape.{Block, conflict, kind_of}
use Rattle.definitions.specs.Tables.{Tables, lengths_fit, generation, is_live, slots_of, line_at, live_lines, on_grid, sound}
use Rattle.definitions.specs.Tree.{Rule}
use Rattle.plane.specs.Crossing.{Proper, conflict_iff}
use Rattle.plane.specs.Kinds.{kind_iff, one_kind}
use Rattle.meaning.specs.Chain.{stable}
use Rattle.meaning.specs.Fair.{Fair}
use Rattle.meaning.specs.Show.{ShowsLeaf}
use Rattle.meaning.proofs.Show.{show_leaf}
use Rattle.meaning.specs.Sound.{sound→, grid_proper}
use Rattle.meaning.specs.SoundMeans.{sound_means, live_is_proper}
use Rattle.history.proofs.Cascade.{tested, gives, by_first, Came, kept, made, plain, detailed, done_0, alone}
use Rattle.history.specs.Refusals.{None, Some, Retired, Lowest, Named, WrongLengths, Unsound, EndsEqual, InTheWay, AllTaken, Vacant, NeedsMore, TooLarge, Handle, Nothing, All0, PutIn, TakenOut, AnswersAll, StartExact, InsertExact, DeleteExact, LocateExact, ShowExact, insert_tests, delete_tests, locate_tests, show_tests}
use Rattle.history.proofs.Left.{cleared_all0, put_in, taken_out, answers_all}
use Rattle.history.proofs.Conditions.{lengths_mean, wrong_means, unsound_means, above_means, place_means, ends_mean, lowest_first, none_passes, lowest_only, way_means, vacant_means, taken_means, not_taken, room_means, unknown_means, lists_mean}

-- ---- The calls

module _ (t : Tables) where
  abbrev Started : Reply → Type 0
  Started = Came (λ (r : Reply). r.answer) (λ (r : Reply). r.after ≡ t) (λ (r : Reply). r.after ≡ cleared t) ((λ d. Err Lengths) ∷ []) (WrongLengths t ∷ []) (λ d. d ≡ 0) (λ s. ⊥)

  came_start : Started (start_of t)
  unfolding start_of
  came_start =
      tested Started (lengths_fit t) (lengths_mean t)
      (λ f. gives (reply (Ok 0) (cleared t)) refl (tt, (λ w. w f, tt)) (refl, refl))
      (λ w. gives (reply (Err Lengths) t) refl (w, tt) refl)

  pub start_made : (d : ℕ) → (start_of t).answer ≡ Ok d → (start_of t).after ≡ cleared t
  start_made = made came_start

  pub start_exact : StartExact t
  start_exact =
      record {
        lengths = alone (plain came_start (Err Lengths) (λ d. refl));
        done = done_0 came_start (λ d e. e) (λ d. refl) tt;
        all0 = λ d e. subst (All0 t) (sym (start_made d e)) (cleared_all0 t);
        kept = kept came_start;
      }

module _ (rule : Rule) (t : Tables) (h : ℕ) where
  abbrev Deleted : Reply → Type 0
  Deleted = Came (λ (r : Reply). r.answer) (λ (r : Reply). r.after ≡ t) (λ (r : Reply). r.after ≡ rebuilt rule t (freed t.lines (h / 65536))) ((λ d. Err Lengths) ∷ (λ d. Err Damaged) ∷ (λ d. Err UnknownHandle) ∷ []) (delete_tests rule t h) (λ d. d ≡ 0) (λ s. ⊥)

  came_delete : Deleted (delete_of rule t h)
  unfolding delete_of
  came_delete =
      tested Deleted (not (lengths_fit t)) (wrong_means t) (λ c. gives (reply (Err Lengths) t) refl (c, tt) refl)
      (λ n1. tested Deleted (not (sound rule t)) (unsound_means rule t) (λ c. gives (reply (Err Damaged) t) refl (c, (n1, tt)) refl)
      (λ n2. tested Deleted (not (known t.lines h)) (unknown_means t.lines h) (λ c. gives (reply (Err UnknownHandle) t) refl (c, (n1, (n2, tt))) refl)
      (λ n3. gives (reply (Ok 0) (rebuilt rule t (freed t.lines (h / 65536)))) refl (tt, (n1, (n2, (n3, tt)))) (refl, refl))))

  emptied : Fair rule → (d : ℕ) → (delete_of rule t h).answer ≡ Ok d → TakenOut rule t (h / 65536) (delete_of rule t h).after
  emptied fair d e =
      let n = ((done_0 came_delete (λ d e. e) (λ d. refl) tt d).0 e).1 in
      subst (TakenOut rule t (h / 65536)) (sym (made came_delete d e))
      (taken_out rule fair t h (sound→ rule t ((sound_means rule t).1 (stable (sound rule t) (sound_means rule t) n.1.0)))
      (not-false (known t.lines h) (false_by _ (λ q. n.1.1.0 ((unknown_means t.lines h).0 q)))))

  pub delete_exact : DeleteExact rule t h
  delete_exact =
      record {
        lengths = alone (plain came_delete (Err Lengths) (λ d. refl));
        damaged = plain came_delete (Err Damaged) (λ d. refl);
        unknown = plain came_delete (Err UnknownHandle) (λ d. refl);
        done = done_0 came_delete (λ d e. e) (λ d. refl) tt;
        emptied = emptied;
        kept = kept came_delete;
      }

module _ (rule : Rule) (t : Tables) (points answers : List ℕ) where
  abbrev Answered : Located → Type 0
  Answered = Came (λ (r : Located). r.answer) (λ (r : Located). r.answers ≡ answers) (λ (r : Located). r.answers ≡ answers_to t.lines points) ((λ d. Err Lengths) ∷ (λ d. Err Damaged) ∷ []) (locate_tests rule t points answers) (λ d. d ≡ 0) (λ s. ⊥)

  abbrev located : Answer → List ℕ → Located
  located r after = record { answer = r; answers = after }

  came_locate : Answered (locate_of rule t points answers)
  unfolding locate_of
  came_locate =
      tested Answered (not (lengths_fit t && eqb (length points) (2 * length answers))) (lists_mean t points answers) (λ c. gives (located (Err Lengths) answers) refl (c, tt) refl)
      (λ n1. tested Answered (not (sound rule t)) (unsound_means rule t) (λ c. gives (located (Err Damaged) answers) refl (c, (n1, tt)) refl)
      (λ n2. gives (located (Ok 0) (answers_to t.lines points)) refl (tt, (n1, (n2, tt))) (refl, refl)))

  answered : (d : ℕ) → (locate_of rule t points answers).answer ≡ Ok d → AnswersAll t.lines points answers (locate_of rule t points answers).answers
  answered d e =
      let n = ((done_0 came_locate (λ d e. e) (λ d. refl) tt d).0 e).1 in
      let w = not-false (lengths_fit t && eqb (length points) (2 * length answers)) (false_by _ (λ q. n.0 ((lists_mean t points answers).0 q))) in
      subst (AnswersAll t.lines points answers) (sym (made came_locate d e))
      (answers_all rule t points answers ((sound_means rule t).1 (stable (sound rule t) (sound_means rule t) n.1.0)) (eqb-true _ _ (and_r (lengths_fit t) (eqb (length points) (2 * length answers)) w)))

  pub locate_exact : LocateExact rule t points answers
  locate_exact =
      record {
        lengths = alone (plain came_locate (Err Lengths) (λ d. refl));
        damaged = plain came_locate (Err Damaged) (λ d. refl);
        done = done_0 came_locate (λ d e. e) (λ d. refl) tt;
        answered = answered;
        kept = kept came_locate;
      }

module _ (rule : Rule) (t : Tables) (x y : ℕ) where
  abbrev Showed : Showing → Type 0
  Showed = Came (λ (r : Showing). r.told.answer) Nothing (λ (r : Showing). r ≡ shown_at (leaf_over rule t x y) t.listings) ((λ d. Err Lengths) ∷ (λ d. Err Damaged) ∷ (λ d. Err OffGrid) ∷ []) (show_tests rule t x y) (λ d. d ≡ 0) (λ s. ⊥)

  nothing : (r : Answer) → Nothing (not_shown r)
  nothing r = record { side = refl; west = refl; south = refl; first = refl; part = refl }

  came_show : Showed (show_of rule t x y)
  unfolding show_of
  came_show =
      tested Showed (not (lengths_fit t)) (wrong_means t) (λ c. gives (not_shown (Err Lengths)) refl (c, tt) (nothing (Err Lengths)))
      (λ n1. tested Showed (not (sound rule t)) (unsound_means rule t) (λ c. gives (not_shown (Err Damaged)) refl (c, (n1, tt)) (nothing (Err Damaged)))
      (λ n2. tested Showed (not (on_grid x && on_grid y)) (place_means x y) (λ c. gives (not_shown (Err OffGrid)) refl (c, (n1, (n2, tt))) (nothing (Err OffGrid)))
      (λ n3. gives (shown_at (leaf_over rule t x y) t.listings) refl (tt, (n1, (n2, (n3, tt)))) (refl, refl))))

  leaf_shown : (d : ℕ) → (show_of rule t x y).told.answer ≡ Ok d → (place : Block) × ShowsLeaf rule t x y place (show_of rule t x y)
  leaf_shown d e =
      let n = ((done_0 came_show (λ d e. e) (λ d. refl) tt d).0 e).1 in (
        (leaf_over rule t x y).place,
        show_leaf rule t x y
            (not-false (lengths_fit t) (false_by _ (λ q. n.0 ((wrong_means t).0 q))))
            (sound→ rule t ((sound_means rule t).1 (stable (sound rule t) (sound_means rule t) n.1.0)))
            (not-false (on_grid x && on_grid y) (false_by _ (λ q. n.1.1.0 ((place_means x y).0 q)))),
      )

  pub show_exact : ShowExact rule t x y
  show_exact =
      record {
        lengths = alone (plain came_show (Err Lengths) (λ d. refl));
        damaged = plain came_show (Err Damaged) (λ d. refl);
        off_grid = plain came_show (Err OffGrid) (λ d. refl);
        done = done_0 came_show (λ d e. e) (λ d. refl) tt;
        leaf = leaf_shown;
        nothing = kept came_show;
      }

module _ (rule : Rule) (t : Tables) (g : Given) where
  abbrev Inserted : Reply → Type 0
  Inserted = Came (λ (r : Reply). r.answer) (λ (r : Reply). r.after ≡ t) (λ (r : Reply). Some (λ s. Lowest (Vacant t.lines) s × (r.after ≡ rebuilt rule t (placed t.lines s g)))) ((λ d. Err Lengths) ∷ (λ d. Err Damaged) ∷ (λ d. Err OffGrid) ∷ (λ d. Err NoLength) ∷ (λ d. Err (Conflict d)) ∷ (λ d. Err NoSlot) ∷ (λ d. Err NoRoom) ∷ []) (insert_tests rule t g) (Handle t.lines) (Named t.lines g)

  given_proper : ¬ EndsEqual g → Proper (given_line g)
  unfolding given_line no_length
  given_proper n = grid_proper 0 g.x1 g.y1 g.x2 g.y2 (false_by (no_length g) (λ e. n ((ends_mean g).0 e)))

  module _ (n2 : ¬ Unsound rule t) (n4 : ¬ EndsEqual g) where
    lines_proper : (u : ℕ) → Live t.lines u → Proper (line_at t.lines u)
    lines_proper = live_is_proper t.lines (sound→ rule t ((sound_means rule t).1 (stable (sound rule t) (sound_means rule t) n2))).slots

    way_is : (u : ℕ) → ((u < length t.lines / 8) × (is_live t.lines u && conflict (line_at t.lines u) (given_line g) ≡ true)) ↔ InTheWay t.lines g u
    way_is = way_means t.lines g lines_proper (given_proper n4)

    pub first_way : (s : ℕ) (more : List ℕ) → conflicting t.lines g ≡ s ∷ more → Lowest (InTheWay t.lines g) s
    unfolding conflicting slots_of
    first_way s more e = lowest_first _ _ way_is e

    -- how its line conflicts
    way_kind : (s : ℕ) → InTheWay t.lines g s → (k : Kind) → (kind_of (line_at t.lines s) (given_line g) ≡ k) ↔ KindIs (line_at t.lines s) (given_line g) k
    way_kind s w = kind_iff (line_at t.lines s) (given_line g) proper (given_proper n4) ((conflict_iff _ _ proper (given_proper n4)).1 w.conflicts)
      where
        proper : Proper (line_at t.lines s)
        proper = lines_proper s w.lives

    named : (s : ℕ) → Lowest (InTheWay t.lines g) s → Named t.lines g (conflict_detail t.lines s g)
    unfolding conflict_detail
    named s low = (s, kind_of (line_at t.lines s) (given_line g), low, (way_kind s low.holds _).0 refl, refl)

    pub no_way : conflicting t.lines g ≡ [] → ¬ Some (InTheWay t.lines g)
    unfolding conflicting slots_of
    no_way e = none_passes _ _ way_is e

  pub first_free : (s : ℕ) (more : List ℕ) → free_slots t.lines ≡ s ∷ more → Lowest (Vacant t.lines) s
  unfolding free_slots slots_of
  first_free s more e = lowest_first _ _ (vacant_means t.lines) e

  pub no_free : free_slots t.lines ≡ [] → AllTaken t.lines
  unfolding free_slots slots_of
  no_free e = taken_means t.lines (none_passes _ _ (vacant_means t.lines) e)

  roomy : (s : ℕ) → Lowest (Vacant t.lines) s → ¬ NeedsMore rule t (live_lines (placed t.lines s g)) → ¬ TooLarge rule t g
  roomy s low n l = n (subst (λ (u : ℕ). NeedsMore rule t (live_lines (placed t.lines u g))) (lowest_only _ _ l.takes low) l.more)

  handle_only : (h k : ℕ) → Handle t.lines h → Handle t.lines k → h ≡ k
  handle_only h k a b = let e : a.0 ≡ b.0 = lowest_only _ _ a.1 b.1 in cc (a.2, b.2)

  -- no line conflicts in two ways
  named_only : (d e : ℕ) → Named t.lines g d → Named t.lines g e → d ≡ e
  named_only d e a b =
      let f : a.0 ≡ b.0 = lowest_only _ _ a.2 b.2 in
      let k : a.1 ≡ b.1 = one_kind (line_at t.lines b.0) (given_line g) a.1 b.1 (subst (λ (s : ℕ). KindIs (line_at t.lines s) (given_line g) a.1) f a.3) b.3 in
      cc (a.4, b.4)

  came_insert : Inserted (insert_of rule t g)
  unfolding insert_of
  came_insert =
      tested Inserted (not (lengths_fit t)) (wrong_means t) (λ c. gives (reply (Err Lengths) t) refl (c, tt) refl)
      (λ n1. tested Inserted (not (sound rule t)) (unsound_means rule t) (λ c. gives (reply (Err Damaged) t) refl (c, (n1, tt)) refl)
      (λ n2. tested Inserted (not (all_on_grid g)) (above_means g) (λ c. gives (reply (Err OffGrid) t) refl (c, (n1, (n2, tt))) refl)
      (λ n3. tested Inserted (no_length g) (ends_mean g) (λ c. gives (reply (Err NoLength) t) refl (c, (n1, (n2, (n3, tt)))) refl)
      (λ n4. by_first Inserted (conflicting t.lines g)
      (λ s more e. let low = first_way n2 n4 s more e in gives (reply (Err (Conflict (conflict_detail t.lines s g))) t) refl ((s, low.holds), (n1, (n2, (n3, (n4, tt))))) (named n2 n4 s low, refl))
      (λ e. let n5 = no_way n2 n4 e in by_first Inserted (free_slots t.lines)
      (λ s more f. let low = first_free s more f in let n6 = not_taken t.lines low.holds in
      tested Inserted (not (room_for rule t (placed t.lines s g))) (room_means rule t (placed t.lines s g))
      (λ c. gives (reply (Err NoRoom) t) refl (record { slot = s; takes = low; more = c }, (n1, (n2, (n3, (n4, (n5, (n6, tt))))))) refl)
      (λ n. gives (reply (Ok (s * 65536 + (generation t.lines s + 1))) (rebuilt rule t (placed t.lines s g))) refl (tt, (n1, (n2, (n3, (n4, (n5, (n6, (roomy s low n, tt)))))))) ((s, low, refl), (s, (low, refl)))))
      (λ f. gives (reply (Err NoSlot) t) refl (no_free f, (n1, (n2, (n3, (n4, (n5, tt)))))) refl))))))

  put : (h s : ℕ) → (insert_of rule t g).answer ≡ Ok h → Lowest (Vacant t.lines) s → PutIn rule t g s (insert_of rule t g).after
  put h s e low =
      let m = made came_insert h e in
      let n = ((detailed came_insert Ok 0 (Handle t.lines) (λ d. refl) (λ d. refl) (λ d a. a.0) handle_only (λ d a. tt) h).0 e).1 in
      subst (PutIn rule t g s) (sym (m.1.1 ∙ ap (λ (u : ℕ). rebuilt rule t (placed t.lines u g)) (lowest_only _ _ m.1.0 low)))
      (put_in rule t g s (omega (arith, low.holds.there)) (λ q. n.1.1.1.1.1.1.0 (record { slot = s; takes = low; more = q })))

  pub insert_exact : InsertExact rule t g
  insert_exact =
      record {
        lengths = alone (plain came_insert (Err Lengths) (λ d. refl));
        damaged = plain came_insert (Err Damaged) (λ d. refl);
        off_grid = plain came_insert (Err OffGrid) (λ d. refl);
        no_length = plain came_insert (Err NoLength) (λ d. refl);
        conflict = detailed came_insert (λ d. Err (Conflict d)) 5 (Named t.lines g) (λ d. refl) (λ d. refl) (λ d a. a.0) named_only (λ d a. (a.0, a.2.holds));
        no_slot = plain came_insert (Err NoSlot) (λ d. refl);
        no_room = plain came_insert (Err NoRoom) (λ d. refl);
        done = detailed came_insert Ok 0 (Handle t.lines) (λ d. refl) (λ d. refl) (λ d a. a.0) handle_only (λ d a. tt);
        put = put;
        kept = kept came_insert;
      }

  -- where entries have 16 bits, a retired slot is one of generation 65,535
  pub no_slot_16 : ((s : ℕ) → generation t.lines s ≤ 65535)
      → ((insert_of rule t g).answer ≡ Err NoSlot) ↔ ((s : ℕ) → s < length t.lines / 8 → Live t.lines s ⊎ (generation t.lines s ≡ 65535)) × None 5 (insert_tests rule t g)
  no_slot_16 small = (
    λ e. let h = insert_exact.no_slot.0 e in (λ s k. last s (h.0 s k), h.1),
    λ h. insert_exact.no_slot.1 (λ s k. retired s (h.0 s k), h.1),
  )
    where
      last : (s : ℕ) → Live t.lines s ⊎ Retired t.lines s → Live t.lines s ⊎ (generation t.lines s ≡ 65535)
      last s (inl v) = inl v
      last s (inr r) = inr (omega (arith, small s))

      retired : (s : ℕ) → Live t.lines s ⊎ (generation t.lines s ≡ 65535) → Live t.lines s ⊎ Retired t.lines s
      retired s (inl v) = inl v
      retired s (inr e) = inr (omega arith)
