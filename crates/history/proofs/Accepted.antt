-- What is accepted leaves a sound map; and the one number that the host gets tells the whole answer.
use Rattle.std.specs.Prelude.{◌≡◌, refl, List, [], ◌∷◌, ℕ, ◌<◌, Ok, Err}
use Rattle.std.proofs.Common.{sym, ◌∙◌, subst, arith}
use Rattle.definitions.specs.Answer.{Answer}
use Rattle.definitions.specs.declared.Refusal.TheVariants.{Lengths, Damaged, OffGrid, NoLength, Conflict, NoSlot, NoRoom, UnknownHandle, BadWindow, ListShort}
use Rattle.definitions.specs.declared.Given.{Given}
use Rattle.definitions.specs.Calls.{refusal_of, detail_of, number_of, start_of, insert_of, delete_of}
use Rattle.definitions.specs.Meaning.{SoundMap}
use Rattle.definitions.specs.Tables.{Tables, lengths_fit, sound}
use Rattle.definitions.specs.Tree.{Rule}
use Rattle.meaning.specs.Chain.{stable}
use Rattle.meaning.specs.Fair.{Fair}
use Rattle.meaning.specs.Sound.{Sound, sound→, sound←}
use Rattle.meaning.specs.SoundMeans.{sound_means}
use Rattle.history.proofs.Cascade.{place, standing}
use Rattle.history.proofs.Conditions.{lengths_mean}
use Rattle.history.proofs.Exact.{start_made, start_exact, insert_exact, delete_exact}
use Rattle.history.proofs.Kept.{insert_sound, delete_sound, start_sound}
use Rattle.history.specs.Refusals.{Unsound}

module _ (rule : Rule) (fair : Fair rule) (t : Tables) where
  was_sound : ¬ Unsound rule t → Sound rule t
  was_sound n = sound→ rule t ((sound_means rule t).1 (stable (sound rule t) (sound_means rule t) n))

  is_sound : {u : Tables} → Sound rule u → SoundMap rule u
  is_sound {u} s = (sound_means rule u).0 (sound← rule u s)

  pub insert_accepted : (g : Given) {h : ℕ} → (insert_of rule t g).answer ≡ Ok h → SoundMap rule (insert_of rule t g).after
  insert_accepted g {h} e = is_sound (insert_sound rule fair t g (was_sound (((insert_exact rule t g).done h).0 e).1.1.0))

  pub delete_accepted : (h : ℕ) {d : ℕ} → (delete_of rule t h).answer ≡ Ok d → SoundMap rule (delete_of rule t h).after
  delete_accepted h {d} e = is_sound (delete_sound rule fair t h (was_sound (((delete_exact rule t h).done d).0 e).1.1.0))

  pub start_accepted : {d : ℕ} → (start_of t).answer ≡ Ok d → SoundMap rule (start_of t).after
  start_accepted {d} e =
      let fit = stable (lengths_fit t) (lengths_mean t) (((start_exact t).done d).0 e).1.0 in
      is_sound (subst (Sound rule) (sym (start_made t d e)) (start_sound rule fair t fit.nodes.0))

-- ---- The number

-- the one law by cases on the answers: each is told by its refusal and its detail
abbrev refusals : List (ℕ → Answer)
refusals = (λ d. Err Lengths) ∷ (λ d. Err Damaged) ∷ (λ d. Err OffGrid) ∷ (λ d. Err NoLength) ∷ (λ d. Err (Conflict d)) ∷ (λ d. Err NoSlot) ∷ (λ d. Err NoRoom) ∷ (λ d. Err UnknownHandle) ∷ (λ d. Err BadWindow) ∷ (λ d. Err ListShort) ∷ []

answer_is : (a : Answer) → a ≡ standing refusals (place refusals (refusal_of a)) (detail_of a)
answer_is (Ok d) = refl
answer_is (Err Lengths) = refl
answer_is (Err Damaged) = refl
answer_is (Err OffGrid) = refl
answer_is (Err NoLength) = refl
answer_is (Err (Conflict d)) = refl
answer_is (Err NoSlot) = refl
answer_is (Err NoRoom) = refl
answer_is (Err UnknownHandle) = refl
answer_is (Err BadWindow) = refl
answer_is (Err ListShort) = refl

pub number_tells : (a b : Answer) → detail_of a < 4294967296 → detail_of b < 4294967296 → number_of a ≡ number_of b → a ≡ b
number_tells a b h k e = answer_is a ∙ (λ i. standing refusals (place refusals (refusal i)) (detail i)) ∙ sym (answer_is b)
  where
    refusal : refusal_of a ≡ refusal_of b
    refusal = omega arith

    detail : detail_of a ≡ detail_of b
    detail = omega arith
