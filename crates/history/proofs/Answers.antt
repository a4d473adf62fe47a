-- After any calls a map is sound, and a deleted number is refused with 8.
use Rattle.definitions.specs.declared.Refusal.TheVariants.{UnknownHandle}
use Rattle.definitions.specs.declared.Given.{Given}
use Rattle.algebra.specs.Lists.{padded_length}
use Rattle.algebra.specs.Tests.{and_l, and_r}
use Rattle.definitions.specs.Calls.{Reply, refusal_of, cleared, insert_of, delete_of, rebuilt, freed, known}
use Rattle.definitions.specs.History.{Call, insert, delete, locate, show, window, reply_to, after_all}
use Rattle.definitions.specs.Tables.{Tables, lengths_fit, node_table, listing_table}
use Rattle.definitions.specs.Tree.{Rule}
use Rattle.meaning.specs.Fair.{Fair}
use Rattle.meaning.specs.Rules.{fewer}
use Rattle.meaning.specs.Slots.{as_long'}
use Rattle.meaning.specs.Sound.{Sound, sound←, fits_nodes, fits_listings}
use Rattle.history.proofs.Held.{known_live}
use Rattle.meaning.specs.Changes.{sub_freed}
use Rattle.history.proofs.Kept.{Outcome, kept, took, insert_outcome, insert_sound, delete_sound, start_sound, calls_sound}
use Rattle.history.proofs.Ledger.{known_there, Deleted, delete_is, refused_ever_after, Deleted.refused as d_refused, Deleted.removed as d_removed}
use Rattle.history.proofs.Restores.{fit_new, delete_done}
use Rattle.std.specs.Prelude.{◌≡◌, Bool, ◌&&◌, ℕ, ◌/◌, ◌%◌, ◌≤◌, ◌<◌, leb, eqb, length, Ok, Err}
use Rattle.std.proofs.Math.Path.{refl}
use Rattle.std.proofs.Math.Bool.{true, false}
use mathlib.Core.List.{List, [], ◌∷◌}
use native.Mathlib.Omega.{arith}
use Rattle.std.proofs.lemmas.List.{length-replicate}
use Rattle.std.proofs.Common.{leb-true}

-- a map of these lengths fits as one of those
same_fit : (t u : Tables) → length u.lines ≡ length t.lines → length u.nodes ≡ length t.nodes → length u.listings ≡ length t.listings → lengths_fit t ≡ true → lengths_fit u ≡ true
unfolding lengths_fit
same_fit t u a b c e = rw (a, b, c) e

some_nodes : (t : Tables) → lengths_fit t ≡ true → 1 ≤ length t.nodes
unfolding lengths_fit
some_nodes t e = leb-true _ _ (and_r p (leb 1 (length t.nodes)) (and_l (p && leb 1 (length t.nodes)) (leb (length t.nodes) 16384) (and_l (p && leb 1 (length t.nodes) && leb (length t.nodes) 16384) (leb (length t.listings) 16384) e)))
  where
    p : Bool
    p = eqb (length t.lines % 8) 0 && leb 8 (length t.lines) && leb (length t.lines) 8192

cleared_fit : (t : Tables) → lengths_fit t ≡ true → lengths_fit (cleared t) ≡ true
cleared_fit t e = same_fit t (cleared t) (unfold cleared in (length-replicate (length t.lines) 0)) (unfold cleared in (length-replicate (length t.nodes) 0)) (unfold cleared in (length-replicate (length t.listings) 0)) e

module _ (rule : Rule) (fair : Fair rule) where
  insert_fit : (t : Tables) (g : Given) → lengths_fit t ≡ true → lengths_fit (insert_of rule t g).after ≡ true
  insert_fit t g e = go (insert_outcome rule fair t g)
    where
      go : {r : Reply} → Outcome rule fair t g r → lengths_fit r.after ≡ true
      go (kept r k) = e
      go (took s more p) = fit_new rule fair t g s more p

  delete_fit : (t : Tables) (h : ℕ) → Sound rule t → lengths_fit t ≡ true → lengths_fit (delete_of rule t h).after ≡ true
  delete_fit t h sd e = go (delete_is rule t h)
    where
      go : {r : Reply} → Deleted rule t h r → lengths_fit r.after ≡ true
      go (d_refused r k) = e
      go (d_removed k) =
          let f = known_there t.lines h k in
          let u = fewer rule fair (sub_freed t.lines (h / 65536) f (known_live t.lines h k)) in
          same_fit t (rebuilt rule t (freed t.lines (h / 65536))) (unfold rebuilt in (as_long' t.lines (h / 65536) f))
          (unfold rebuilt node_table in (padded_length _ _ (omega (arith, u.nodes, fits_nodes rule t sd))))
          (unfold rebuilt listing_table in (padded_length _ _ (omega (arith, u.listings, fits_listings rule t sd)))) e

  pub calls_fit : (cs : List Call) (t : Tables) → Sound rule t → lengths_fit t ≡ true → lengths_fit (after_all rule t cs) ≡ true
  unfolding after_all reply_to
  calls_fit [] t s e = e
  calls_fit (insert g ∷ more) t s e = calls_fit more (insert_of rule t g).after (insert_sound rule fair t g s) (insert_fit t g e)
  calls_fit (delete h ∷ more) t s e = calls_fit more (delete_of rule t h).after (delete_sound rule fair t h s) (delete_fit t h s e)
  calls_fit (locate ps as' ∷ more) t s e = calls_fit more t s e
  calls_fit (show x y ∷ more) t s e = calls_fit more t s e
  calls_fit (window w slots ∷ more) t s e = calls_fit more t s e

  -- so after a start tests 1 and 2 always pass
  pub record Ready (t : Tables) : Type 0 where
    pub fit : lengths_fit t ≡ true
    pub ok : Sound rule t

  pub history_ready : (t : Tables) → lengths_fit t ≡ true → (cs : List Call) → Ready (after_all rule (cleared t) cs)
  history_ready t e cs =
      let s = start_sound rule fair t (some_nodes t e) in
      record { fit = calls_fit cs (cleared t) s (cleared_fit t e); ok = calls_sound rule fair cs (cleared t) s }

  ready_after : (t : Tables) (h : ℕ) → Ready t → (cs : List Call) → Ready (after_all rule (delete_of rule t h).after cs)
  ready_after t h r cs =
      let s = delete_sound rule fair t h r.ok in
      record { fit = calls_fit cs (delete_of rule t h).after s (delete_fit t h r.ok r.fit); ok = calls_sound rule fair cs (delete_of rule t h).after s }

  -- on a ready map a delete is done or answers 8
  delete_8 : (t : Tables) (h : ℕ) → Ready t → 0 < refusal_of (delete_of rule t h).answer → (delete_of rule t h).answer ≡ Err UnknownHandle
  unfolding delete_of
  delete_8 t h r k = go (known t.lines h) refl
    where
      go : (b : Bool) → known t.lines h ≡ b → (delete_of rule t h).answer ≡ Err UnknownHandle
      go true e = absurd (none (rw (delete_done rule fair t h r.fit (sound← rule t r.ok) e) at k))
        where
          none : 0 < 0 → ⊥
          none h = omega arith
      go false e = rw (r.fit, sound← rule t r.ok, e) refl

  -- A deleted number answers 8 ever after
  pub deleted_8 : (t : Tables) → lengths_fit t ≡ true → (cs : List Call) (h : ℕ) → (delete_of rule (after_all rule (cleared t) cs) h).answer ≡ Ok 0 → (ds : List Call)
      → (delete_of rule (after_all rule (delete_of rule (after_all rule (cleared t) cs) h).after ds) h).answer ≡ Err UnknownHandle
  deleted_8 t e cs h q ds =
      delete_8 _ h (ready_after (after_all rule (cleared t) cs) h (history_ready t e cs) ds) (refused_ever_after rule (after_all rule (cleared t) cs) h q ds)
