-- Deleting gives the tree of what remains.
use Rattle.std.specs.Prelude.{◌≡◌, ◌⊎◌, true, false, ℕ, ◌+◌, ◌*◌, ◌/◌, ◌≤◌, ◌<◌, eqb, length, Ok}
use Rattle.std.proofs.Math.Path.{refl, ap}
use Rattle.std.proofs.Common.{sym, ◌∙◌, subst, inl, inr, arith, eq-eqb, ne_eqb}
use Rattle.std.proofs.Math.Bool.{Bool, not}
use mathlib.Core.List.{List, [], ◌∷◌, map}
use Rattle.definitions.specs.Answer.{Answer}
use Rattle.algebra.specs.Lists.{those_yes, those_no}
use Rattle.algebra.specs.Words.{those, up_from, padded}
use Rattle.definitions.specs.Calls.{Reply, refusal_of, delete_of, rebuilt, freed}
use Rattle.definitions.specs.Shape.{Line}
use Rattle.definitions.specs.Tables.{Tables, is_live, slots_of, live_slots, line_at, live_lines, node_table, listing_table}
use Rattle.definitions.specs.Tree.{tree, nodes_of, listings_of, Rule}
use Rattle.meaning.specs.Leaves.{slot_of_line}
use Rattle.meaning.specs.Slots.{same_or_not, bare_dead, as_long', rest_live, rest_line}
use Rattle.history.proofs.Ledger.{known_there, Deleted, delete_is, Deleted.refused as d_refused, Deleted.removed as d_removed}
use mathlib.Core.List.{List, [], ◌∷◌, map}
use mathlib.Core.List.{List, [], ◌∷◌, map}

-- Deleting leaves the live lines but that one
module _ (lines : List ℕ) (s : ℕ) (fits : 8 * s + 8 ≤ length lines) where
  left_of : (xs : List ℕ) → map (line_at (freed lines s)) (those (is_live (freed lines s)) xs) ≡ those (λ l. not (eqb l.slot s)) (map (line_at lines) (those (is_live lines) xs))
  unfolding those
  left_of [] = refl
  left_of (x ∷ xs) = go (same_or_not x s) (is_live lines x) refl (left_of xs)
    where
      test : Line → Bool
      test l = not (eqb l.slot s)

      rest : List Line
      rest = map (line_at lines) (those (is_live lines) xs)

      IH : Type 0
      IH = map (line_at (freed lines s)) (those (is_live (freed lines s)) xs) ≡ those (λ l. not (eqb l.slot s)) rest

      Goal : Type 0
      Goal = map (line_at (freed lines s)) (those (is_live (freed lines s)) (x ∷ xs)) ≡ those (λ l. not (eqb l.slot s)) (map (line_at lines) (those (is_live lines) (x ∷ xs)))

      drop_s : x ≡ s → those (λ l. not (eqb l.slot s)) (line_at lines x ∷ rest) ≡ those (λ l. not (eqb l.slot s)) rest
      drop_s q = those_no (λ l. not (eqb l.slot s)) (line_at lines x) rest (ap not (eq-eqb _ s (slot_of_line lines x ∙ q)))

      keep_x : (x ≡ s → ⊥) → those (λ l. not (eqb l.slot s)) (line_at lines x ∷ rest) ≡ line_at lines x ∷ those (λ l. not (eqb l.slot s)) rest
      keep_x d = those_yes (λ l. not (eqb l.slot s)) (line_at lines x) rest (ap not (ne_eqb _ s (λ e. d (sym (slot_of_line lines x) ∙ e))))

      go : (x ≡ s) ⊎ (x ≡ s → ⊥) → (b : Bool) → is_live lines x ≡ b → IH → Goal
      go (inl q) true e h = rw (those_no (is_live (freed lines s)) x xs (ap (is_live (freed lines s)) q ∙ bare_dead lines s fits), those_yes (is_live lines) x xs e) (h ∙ sym (drop_s q))
      go (inl q) false e h = rw (those_no (is_live (freed lines s)) x xs (ap (is_live (freed lines s)) q ∙ bare_dead lines s fits), those_no (is_live lines) x xs e) h
      go (inr d) true e h = rw (those_yes (is_live (freed lines s)) x xs (rest_live lines s fits x d ∙ e), those_yes (is_live lines) x xs e, rest_line lines s fits x d) (ap (λ ls. line_at lines x ∷ ls) h ∙ sym (keep_x d))
      go (inr d) false e h = rw (those_no (is_live (freed lines s)) x xs (rest_live lines s fits x d ∙ e), those_no (is_live lines) x xs e) h

  pub delete_lines : live_lines (freed lines s) ≡ those (λ l. not (eqb l.slot s)) (live_lines lines)
  unfolding live_lines live_slots slots_of
  delete_lines = rw (as_long' lines s fits) (left_of (up_from 0 (length lines / 8)))

-- Deleting gives the tree of what remains
pub record Remains (rule : Rule) (t u : Tables) (s : ℕ) : Type 0 where
  pub nodes : u.nodes ≡ padded (length t.nodes) (nodes_of (tree rule (those (λ l. not (eqb l.slot s)) (live_lines t.lines))))
  pub listings : u.listings ≡ padded (length t.listings) (listings_of (tree rule (those (λ l. not (eqb l.slot s)) (live_lines t.lines))))

pub delete_tree : (rule : Rule) (t : Tables) (h : ℕ) → (delete_of rule t h).answer ≡ Ok 0 → Remains rule t (delete_of rule t h).after (h / 65536)
delete_tree rule t h e = go (delete_is rule t h) e
  where
    go : {r : Reply} → Deleted rule t h r → r.answer ≡ Ok 0 → Remains rule t r.after (h / 65536)
    go (d_refused r q) p = absurd (nope (subst (λ (a : Answer). 0 < refusal_of a) p q))
      where
        nope : 0 < 0 → ⊥
        nope h = omega arith
    go (d_removed q) p =
        let e = delete_lines t.lines (h / 65536) (known_there t.lines h q) in
        unfold rebuilt node_table listing_table in
        (record {
          nodes = ap (λ (ls : List Line). padded (length t.nodes) (nodes_of (tree rule ls))) e;
          listings = ap (λ (ls : List Line). padded (length t.listings) (listings_of (tree rule ls))) e;
        })
