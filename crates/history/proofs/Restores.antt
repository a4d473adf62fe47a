-- An accepted insert followed at once by its delete restores both tree tables.
use Rattle.definitions.specs.Answer.{Answer}
use Rattle.definitions.specs.declared.Given.{Given}
use Rattle.algebra.specs.Lists.{those_yes, those_no, padded_length}
use Rattle.algebra.specs.Tests.{no_path, and_l, and_r, and_b}
use Rattle.algebra.specs.Words.{those, up_from}
use Rattle.definitions.specs.Calls.{Reply, reply, refusal_of, insert_of, delete_of, rebuilt, placed, freed, room_for, known}
use Rattle.definitions.specs.Tables.{Tables, generation, is_live, slots_of, live_slots, line_at, live_lines, node_table, listing_table, lengths_fit, sound}
use Rattle.definitions.specs.Tree.{tree, nodes_of, listings_of, Rule}
use Rattle.meaning.specs.Fair.{Fair}
use Rattle.meaning.specs.Slots.{same_or_not, put_at, as_long, others_live, others_line, rest_line, gift_lives, rest_live, bare_dead, as_long'}
use Rattle.meaning.specs.Sound.{Sound, sound→, sound←}
use Rattle.history.specs.Demand.{Restored}
use Rattle.history.proofs.Held.{free_dead}
use Rattle.history.proofs.Kept.{Passed, Outcome, kept, took, insert_outcome, insert_sound}
use Rattle.history.proofs.Ledger.{Free, free_first}
use Rattle.std.specs.Prelude.{◌≡◌, ◌⊎◌, Bool, true, false, List, [], ◌∷◌, map, ℕ, ◌+◌, ◌*◌, ◌/◌, ◌%◌, ◌≤◌, ◌<◌, leb, Ok}
use Rattle.std.proofs.Math.Path.{refl}
use Rattle.std.proofs.Common.{sym, ◌∙◌, ap, subst, inl, inr, arith, leb-true, lt-ltb, eq-eqb}
use Rattle.std.proofs.Math.ListN.{length}

-- two line tables that have the same live slots and lines
those_same : {A : Type 0} (p q : A → Bool) → ((x : A) → p x ≡ q x) → (xs : List A) → those p xs ≡ those q xs
unfolding those
those_same p q f [] = refl
those_same p q f (x ∷ xs) = go (p x) refl (those_same p q f xs)
  where
    go : (b : Bool) → p x ≡ b → those p xs ≡ those q xs → those p (x ∷ xs) ≡ those q (x ∷ xs)
    go true e h = those_yes p x xs e ∙ ap (λ ys. x ∷ ys) h ∙ sym (those_yes q x xs (sym (f x) ∙ e))
    go false e h = those_no p x xs e ∙ h ∙ sym (those_no q x xs (sym (f x) ∙ e))

lines_same : (a b : List ℕ) → ((x : ℕ) → is_live a x ≡ is_live b x) → ((x : ℕ) → is_live b x ≡ true → line_at a x ≡ line_at b x) → (xs : List ℕ)
    → map (line_at a) (those (is_live a) xs) ≡ map (line_at b) (those (is_live b) xs)
unfolding those
lines_same a b f g [] = refl
lines_same a b f g (x ∷ xs) = go (is_live b x) refl (lines_same a b f g xs)
  where
    go : (t : Bool) → is_live b x ≡ t → map (line_at a) (those (is_live a) xs) ≡ map (line_at b) (those (is_live b) xs)
        → map (line_at a) (those (is_live a) (x ∷ xs)) ≡ map (line_at b) (those (is_live b) (x ∷ xs))
    go true e h = rw (those_yes (is_live a) x xs (f x ∙ e), those_yes (is_live b) x xs e, g x e, h) refl
    go false e h = rw (those_no (is_live a) x xs (f x ∙ e), those_no (is_live b) x xs e) h

pub live_same : (a b : List ℕ) → length a ≡ length b → ((x : ℕ) → is_live a x ≡ is_live b x) → ((x : ℕ) → is_live b x ≡ true → line_at a x ≡ line_at b x)
    → live_lines a ≡ live_lines b
unfolding live_lines live_slots slots_of
live_same a b e f g = rw e (lines_same a b f g (up_from 0 (length b / 8)))

module _ (rule : Rule) (fair : Fair rule) where
  -- delete, where all its tests pass
  pub delete_done : (t : Tables) (h : ℕ) → lengths_fit t ≡ true → sound rule t ≡ true → known t.lines h ≡ true
      → delete_of rule t h ≡ reply (Ok 0) (rebuilt rule t (freed t.lines (h / 65536)))
  unfolding delete_of
  delete_done t h e f g = rw (e, f, g) refl

  module _ (t : Tables) (g : Given) (s : ℕ) (more : List ℕ) (p : Passed rule fair t g s more) where
    abbrev new : List ℕ
    new = placed t.lines s g

    abbrev handle : ℕ
    handle = s * 65536 + (generation t.lines s + 1)

    f : Free t.lines s
    f = free_first t.lines s more p.slot

    d : is_live t.lines s ≡ false
    d = free_dead t.lines s more p.slot

    slot_is : handle / 65536 ≡ s
    slot_is = omega (arith, f.young)

    part_is : handle % 65536 ≡ generation t.lines s + 1
    part_is = omega (arith, f.young)

    known_new : known new handle ≡ true
    unfolding known
    known_new =
        rw (slot_is, part_is)
        (and_b _ _ (and_b _ _ (lt-ltb s (length new / 8) (rw (as_long t.lines g s f.there) (omega (arith, f.there)))) (gift_lives t.lines g s f.there))
        (eq-eqb _ _ (put_at t.lines g s f.there 1 (omega arith))))

    there : 8 * s + 8 ≤ length new
    there = rw (as_long t.lines g s f.there) f.there

    again_live : (x : ℕ) → is_live (freed new s) x ≡ is_live t.lines x
    again_live x = go (same_or_not x s)
      where
        go : (x ≡ s) ⊎ (x ≡ s → ⊥) → is_live (freed new s) x ≡ is_live t.lines x
        go (inl e) = rw e (bare_dead new s there ∙ sym d)
        go (inr q) = rest_live new s there x q ∙ others_live t.lines g s f.there x q

    again_lines : live_lines (freed new s) ≡ live_lines t.lines
    again_lines = live_same (freed new s) t.lines (as_long' new s there ∙ as_long t.lines g s f.there) again_live same
      where
        same : (x : ℕ) → is_live t.lines x ≡ true → line_at (freed new s) x ≡ line_at t.lines x
        same x v = rest_line new s there x q ∙ others_line t.lines g s f.there x q
          where
            q : x ≡ s → ⊥
            q e = no_path (sym d ∙ ap (is_live t.lines) (sym e) ∙ v)

    nodes_long : length (rebuilt rule t new).nodes ≡ length t.nodes
    unfolding rebuilt node_table room_for
    nodes_long = padded_length _ _ (leb-true _ _ (and_l (leb (length (nodes_of (tree rule (live_lines new)))) (length t.nodes)) (leb (length (listings_of (tree rule (live_lines new)))) (length t.listings)) p.room))

    listings_long : length (rebuilt rule t new).listings ≡ length t.listings
    unfolding rebuilt listing_table room_for
    listings_long = padded_length _ _ (leb-true _ _ (and_r (leb (length (nodes_of (tree rule (live_lines new)))) (length t.nodes)) (leb (length (listings_of (tree rule (live_lines new)))) (length t.listings)) p.room))

    pub fit_new : lengths_fit (rebuilt rule t new) ≡ true
    unfolding lengths_fit
    fit_new = rw (nodes_long, listings_long, lines_long) (unfold lengths_fit in p.fit)
      where
        lines_long : length (rebuilt rule t new).lines ≡ length t.lines
        lines_long = unfold rebuilt in (as_long t.lines g s f.there)

    restored : sound rule (rebuilt rule t new) ≡ true → Restored t (delete_of rule (rebuilt rule t new) handle)
    unfolding rebuilt node_table listing_table
    restored ok =
        rw (delete_done (rebuilt rule t new) handle fit_new ok known_new, slot_is)
        record {
          done = refl;
          nodes = rw (nodes_long, again_lines) (sym sd.nodes);
          listings = rw (listings_long, again_lines) (sym sd.listings);
        }
      where
        sd : Sound rule t
        sd = sound→ rule t p.ok

  -- An accepted insert followed at once by the delete of its handle is accepted, and both tree tables are as before
  pub restores : (t : Tables) (g : Given) (h : ℕ) → (insert_of rule t g).answer ≡ Ok h → Restored t (delete_of rule (insert_of rule t g).after h)
  restores t g h e = go (insert_outcome rule fair t g) e (insert_sound rule fair t g)
    where
      go : {r : Reply} → Outcome rule fair t g r → r.answer ≡ Ok h → (Sound rule t → Sound rule r.after) → Restored t (delete_of rule r.after h)
      go (kept r k) q v = absurd (nope (subst (λ (a : Answer). 0 < refusal_of a) q k))
        where
          nope : 0 < 0 → ⊥
          nope h = omega arith
      go (took s more p) q v =
          let same : handle t g s more p ≡ h = cc in
          rw (← same) (restored t g s more p (sound← rule _ (v (sound→ rule t p.ok))))
