-- What an accepted call leaves, entry by entry: the tables that the definitions build are those that the paper says.
use Rattle.std.specs.Prelude.{◌≡◌, true, get_or}
use Rattle.std.proofs.Math.Path.{refl}
use Rattle.std.proofs.Common.{◌∙◌, inl, inr}
use mathlib.Core.List.{List, [], ◌∷◌}
use Prim.Native.Nat.{ℕ, zero, suc, ◌+◌, ◌*◌, ◌-◌, ◌/◌, ◌≤◌, ◌<◌}
use native.Mathlib.Omega.{arith}
use Rattle.std.proofs.Math.ListN.{length}
use Rattle.std.proofs.lemmas.List.{length-replicate}
use Rattle.algebra.specs.Lists.{padded_length}
use Rattle.algebra.specs.Words.{padded}
use Rattle.definitions.specs.declared.Given.{Given}
use Rattle.definitions.specs.Calls.{cleared, placed, freed, rebuilt, known}
use Rattle.definitions.specs.Lookup.{answer_to, answers_to}
use Rattle.definitions.specs.Meaning.{Tabled, EmptySlot}
use Rattle.definitions.specs.Tables.{Tables, entry, live_lines, node_table, listing_table, sound}
use Rattle.definitions.specs.Tree.{Rule, Tree, tree, nodes_of, listings_of}
use Rattle.meaning.specs.Changes.{sub_freed}
use Rattle.plane.specs.Compare.{not_more}
use Rattle.meaning.specs.Fair.{Fair}
use Rattle.meaning.specs.Plain.{locate_iff}
use Rattle.meaning.specs.Rules.{fewer}
use Rattle.meaning.specs.Slots.{zero_at, put, put_at, as_long, bare, bare_at, as_long', other_slot}
use Rattle.meaning.specs.Sound.{Sound, fits_nodes, fits_listings}
use Rattle.meaning.specs.Stored.{lists_stored}
use Rattle.history.proofs.Held.{known_live}
use Rattle.history.proofs.Ledger.{known_there}
use Rattle.history.specs.Refusals.{AsLong, All0, OnlySlot, PutIn, TakenOut, AnswersAll, NeedsMore}

-- ---- Start
pub cleared_all0 : (t : Tables) → All0 t (cleared t)
unfolding cleared
cleared_all0 t =
    record {
      long = record { lines = length-replicate (length t.lines) 0; nodes = length-replicate (length t.nodes) 0; listings = length-replicate (length t.listings) 0 };
      lines = zero_at (length t.lines);
      nodes = zero_at (length t.nodes);
      listings = zero_at (length t.listings);
    }

-- ---- The tables built anew
module _ (rule : Rule) (t : Tables) (lines : List ℕ) where
  abbrev T : Tree
  T = tree rule (live_lines lines)

  rebuilt_tabled : Tabled T (rebuilt rule t lines).nodes (rebuilt rule t lines).listings
  unfolding rebuilt node_table listing_table padded
  rebuilt_tabled =
      record {
        nodes_after = _;
        listings_after = _;
        stored = lists_stored T _ _ refl refl;
        nodes0 = zero_at (length t.nodes - length (nodes_of T));
        listings0 = zero_at (length t.listings - length (listings_of T));
      }

  rebuilt_long : length lines ≡ length t.lines → length (nodes_of T) ≤ length t.nodes → length (listings_of T) ≤ length t.listings → AsLong t (rebuilt rule t lines)
  unfolding rebuilt node_table listing_table
  rebuilt_long e h k = record { lines = e; nodes = padded_length _ _ h; listings = padded_length _ _ k }

  only_slot : (s : ℕ) → length lines ≡ length t.lines → length (nodes_of T) ≤ length t.nodes → length (listings_of T) ≤ length t.listings
      → ((u k : ℕ) → ¬ (u ≡ s) → k < 8 → entry lines u k ≡ entry t.lines u k) → OnlySlot rule t s (rebuilt rule t lines)
  unfolding rebuilt
  only_slot s e h k f = record { long = rebuilt_long e h k; others = f; tables = rebuilt_tabled }

-- ---- Insert
pub put_in : (rule : Rule) (t : Tables) (g : Given) (s : ℕ) → 8 * s + 8 ≤ length t.lines → ¬ NeedsMore rule t (live_lines (placed t.lines s g))
    → PutIn rule t g s (rebuilt rule t (placed t.lines s g))
unfolding rebuilt
put_in rule t g s fits room =
    record {
      lives = put_at t.lines g s fits 0 (omega arith);
      raised = put_at t.lines g s fits 1 (omega arith);
      end1 = (put_at t.lines g s fits 2 (omega arith), put_at t.lines g s fits 3 (omega arith));
      end2 = (put_at t.lines g s fits 4 (omega arith), put_at t.lines g s fits 5 (omega arith));
      labels = (put_at t.lines g s fits 6 (omega arith), put_at t.lines g s fits 7 (omega arith));
      rest = only_slot rule t (placed t.lines s g) s (as_long t.lines g s fits) (not_more (λ h. room (inl h))) (not_more (λ h. room (inr h)))
          (λ u k d h. unfold placed in (other_slot t.lines (put t.lines g s fits) s refl fits u k h d));
    }

-- ---- Delete
pub taken_out : (rule : Rule) → Fair rule → (t : Tables) (h : ℕ) → Sound rule t → known t.lines h ≡ true → TakenOut rule t (h / 65536) (rebuilt rule t (freed t.lines (h / 65536)))
unfolding rebuilt
taken_out rule fair t h sd k =
    let u = fewer rule fair (sub_freed t.lines s fits (known_live t.lines h k)) in
    record {
      kept = bare_at t.lines s fits 1 (omega arith);
      empty = empty;
      rest = only_slot rule t (freed t.lines s) s (as_long' t.lines s fits) (omega (arith, u.nodes, fits_nodes rule t sd)) (omega (arith, u.listings, fits_listings rule t sd))
          (λ u k d h. unfold freed in (other_slot t.lines (bare t.lines s fits) s refl fits u k h d));
    }
  where
    s : ℕ
    s = h / 65536

    fits : 8 * s + 8 ≤ length t.lines
    fits = known_there t.lines h k

    zero_of : (j : ℕ) → j < 8 → ¬ (j ≡ 1) → get_or (bare t.lines s fits) j 0 ≡ 0
    zero_of zero q n = refl
    zero_of (suc zero) q n = absurd (n refl)
    zero_of (suc (suc zero)) q n = refl
    zero_of (suc (suc (suc zero))) q n = refl
    zero_of (suc (suc (suc (suc zero)))) q n = refl
    zero_of (suc (suc (suc (suc (suc zero))))) q n = refl
    zero_of (suc (suc (suc (suc (suc (suc zero)))))) q n = refl
    zero_of (suc (suc (suc (suc (suc (suc (suc zero))))))) q n = refl
    zero_of (suc (suc (suc (suc (suc (suc (suc (suc j)))))))) q n = absurd (omega arith)

    empty : EmptySlot (freed t.lines s) s
    empty j q n = bare_at t.lines s fits j q ∙ zero_of j q n

-- ---- Locate
module _ (lines : List ℕ) where
  answer_each : (points : List ℕ) (i : ℕ) → 2 * i + 1 < length points → get_or (answers_to lines points) i 0 ≡ answer_to lines (get_or points (2 * i) 0) (get_or points (2 * i + 1) 0)
  unfolding answers_to
  answer_each [] i h = absurd (omega arith)
  answer_each (x ∷ []) i h = absurd (omega arith)
  answer_each (x ∷ y ∷ more) zero h = refl
  answer_each (x ∷ y ∷ more) (suc i) h =
      let e : 2 * suc i ≡ suc (suc (2 * i)) = omega arith in
      let f : suc (suc (2 * i)) + 1 ≡ suc (suc (2 * i + 1)) = omega arith in
      rw (e, f) (answer_each more i (omega arith))

  answers_long : (points : List ℕ) (n : ℕ) → length points ≡ 2 * n → length (answers_to lines points) ≡ n
  unfolding answers_to
  answers_long [] n e = omega arith
  answers_long (x ∷ []) n e = absurd (omega arith)
  answers_long (x ∷ y ∷ more) zero e = absurd (omega arith)
  answers_long (x ∷ y ∷ more) (suc n) e = let f = answers_long more n (omega arith) in omega (arith, f)

pub answers_all : (rule : Rule) (t : Tables) (points answers : List ℕ) → sound rule t ≡ true → length points ≡ 2 * length answers → AnswersAll t.lines points answers (answers_to t.lines points)
answers_all rule t points answers ok e =
    record {
      long = answers_long t.lines points (length answers) e;
      each = λ i h. (locate_iff rule t ok _ _ _).0 (answer_each t.lines points i (omega arith));
    }
