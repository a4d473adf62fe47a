-- A slot put in place: its own entries, and those of the others as they were; and the slots of a table of zeros.
use Rattle.definitions.specs.declared.Given.{Given}
use Rattle.algebra.specs.Lists.{those_no}
use Rattle.algebra.specs.Words.{those, up_from}
use Rattle.definitions.specs.Calls.{placed, freed, with_slot, given_line}
use Rattle.definitions.specs.Tables.{entry, generation, is_live, slots_of, live_slots, line_at, live_lines, live_sound, empty_sound, slot_sound}
use Rattle.plane.specs.Compare.{order}
use Rattle.std.specs.Prelude.{◌≡◌, ◌⊎◌, true, false, List, [], ◌∷◌, ◌++◌, ℕ, zero, suc, ◌+◌, ◌*◌, ◌-◌, ◌/◌, ◌≤◌, ◌<◌, length, take, replicate}
use Rattle.std.proofs.Math.Path.{refl, ap, subst}
use Rattle.std.proofs.Common.{◌∙◌, inl, inr, arith, length-drop, get_or-append-add, length-take-le}
use Rattle.std.proofs.Math.ListN.{drop, get_or, length-append, length-take, get_or-append}
use Rattle.std.proofs.Math.Seq.{get_or-take, get_or-drop}

-- an entry after slot s is put in place
module _ (lines new : List ℕ) (s : ℕ) (eight : length new ≡ 8) (fits : 8 * s + 8 ≤ length lines) where
  front : length (take (8 * s) lines) ≡ 8 * s
  front = length-take-le (8 * s) lines (omega arith)

  before_slot : (i : ℕ) → i < 8 * s → get_or (with_slot lines s new) i 0 ≡ get_or lines i 0
  unfolding with_slot
  before_slot i h =
      get_or-append (take (8 * s) lines ++ new) (drop (8 * s + 8) lines) 0 i (simp length-append (omega (arith, front)))
      ∙ get_or-append (take (8 * s) lines) new 0 i (omega (arith, front))
      ∙ get_or-take (8 * s) lines i 0 h

  pub in_slot : (k : ℕ) → k < 8 → get_or (with_slot lines s new) (8 * s + k) 0 ≡ get_or new k 0
  unfolding with_slot
  in_slot k h =
      get_or-append (take (8 * s) lines ++ new) (drop (8 * s + 8) lines) 0 (8 * s + k) (simp length-append (omega (arith, front)))
      ∙ subst (λ (n : ℕ). get_or (take (8 * s) lines ++ new) (n + k) 0 ≡ get_or new k 0) front (get_or-append-add (take (8 * s) lines) new k 0)

  after_slot : (i : ℕ) → get_or (with_slot lines s new) (8 * s + 8 + i) 0 ≡ get_or lines (8 * s + 8 + i) 0
  unfolding with_slot
  after_slot i =
      subst (λ (n : ℕ). get_or (take (8 * s) lines ++ new ++ drop (8 * s + 8) lines) (n + i) 0 ≡ get_or (drop (8 * s + 8) lines) i 0)
      (simp length-append (omega (arith, front)))
      (get_or-append-add (take (8 * s) lines ++ new) (drop (8 * s + 8) lines) i 0)
      ∙ get_or-drop (8 * s + 8) lines i 0

  -- the entry k of slot x
  pub other_slot : (x k : ℕ) → k < 8 → (x ≡ s → ⊥) → entry (with_slot lines s new) x k ≡ entry lines x k
  other_slot x k h diff = go (order x s)
    where
      go : (x ≤ s) ⊎ (s < x) → entry (with_slot lines s new) x k ≡ entry lines x k
      go (inl le) = before_slot (8 * x + k) (omega arith)
      go (inr lt) =
          subst (λ (n : ℕ). get_or (with_slot lines s new) n 0 ≡ get_or lines n 0) {x = 8 * s + 8 + (8 * x + k - (8 * s + 8))} (omega arith)
          (after_slot (8 * x + k - (8 * s + 8)))

  pub same_length : length (with_slot lines s new) ≡ length lines
  unfolding with_slot
  same_length = simp (length-append, length-take, length-drop) (omega arith)

  pub same_slots : slots_of (with_slot lines s new) ≡ slots_of lines
  unfolding slots_of
  same_slots = ap (λ (n : ℕ). up_from 0 (n / 8)) same_length

  module _ (x : ℕ) (other : x ≡ s → ⊥) where
    at : (k : ℕ) → k < 8 → entry (with_slot lines s new) x k ≡ entry lines x k
    at k h = other_slot x k h other

    pub sound_other : slot_sound (with_slot lines s new) x ≡ slot_sound lines x
    unfolding slot_sound live_sound empty_sound is_live
    sound_other =
        rw (at 0 (omega arith), at 1 (omega arith), at 2 (omega arith), at 3 (omega arith), at 4 (omega arith), at 5 (omega arith), at 6 (omega arith), at 7 (omega arith)) refl

    pub lives_other : is_live (with_slot lines s new) x ≡ is_live lines x
    unfolding is_live
    lives_other = rw (at 0 (omega arith)) refl

    pub line_other : line_at (with_slot lines s new) x ≡ line_at lines x
    unfolding line_at
    line_other = rw (at 2 (omega arith), at 3 (omega arith), at 4 (omega arith), at 5 (omega arith)) refl

pub same_or_not : (x s : ℕ) → (x ≡ s) ⊎ (x ≡ s → ⊥)
same_or_not x s = go (order x s) (order s x)
  where
    go : (x ≤ s) ⊎ (s < x) → (s ≤ x) ⊎ (x < s) → (x ≡ s) ⊎ (x ≡ s → ⊥)
    go (inl a) (inl b) = inl (omega arith)
    go (inl a) (inr b) = inr (λ e. omega arith)
    go (inr a) b = inr (λ e. omega arith)

-- ---- Insert: the line put in place
module _ (lines : List ℕ) (g : Given) (s : ℕ) (fits : 8 * s + 8 ≤ length lines) where
  abbrev pub put : List ℕ
  put = 1 ∷ (generation lines s + 1) ∷ g.x1 ∷ g.y1 ∷ g.x2 ∷ g.y2 ∷ g.left ∷ g.right ∷ []

  pub put_at : (k : ℕ) → k < 8 → entry (placed lines s g) s k ≡ get_or put k 0
  unfolding placed
  put_at k h = in_slot lines _ s refl fits k h

  pub gift_lives : is_live (placed lines s g) s ≡ true
  unfolding is_live
  gift_lives = rw (put_at 0 (omega arith)) refl

  pub new_line : line_at (placed lines s g) s ≡ record { slot = s; a = (given_line g).a; b = (given_line g).b }
  unfolding line_at given_line
  new_line = rw (put_at 2 (omega arith), put_at 3 (omega arith), put_at 4 (omega arith), put_at 5 (omega arith)) refl

  pub as_long : length (placed lines s g) ≡ length lines
  unfolding placed
  as_long = same_length lines put s refl fits

  pub placed_slots : slots_of (placed lines s g) ≡ slots_of lines
  unfolding placed
  placed_slots = same_slots lines put s refl fits

  module _ (x : ℕ) (d : x ≡ s → ⊥) where
    pub others_sound : slot_sound (placed lines s g) x ≡ slot_sound lines x
    unfolding placed
    others_sound = sound_other lines put s refl fits x d

    pub others_live : is_live (placed lines s g) x ≡ is_live lines x
    unfolding placed
    others_live = lives_other lines put s refl fits x d

    pub others_line : line_at (placed lines s g) x ≡ line_at lines x
    unfolding placed
    others_line = line_other lines put s refl fits x d

    pub others_gen : generation (placed lines s g) x ≡ generation lines x
    unfolding placed
    others_gen = other_slot lines put s refl fits x 1 (omega arith) d

-- ---- Delete: the slot emptied
module _ (lines : List ℕ) (s : ℕ) (fits : 8 * s + 8 ≤ length lines) where
  abbrev pub bare : List ℕ
  bare = 0 ∷ generation lines s ∷ 0 ∷ 0 ∷ 0 ∷ 0 ∷ 0 ∷ 0 ∷ []

  pub bare_at : (j : ℕ) → j < 8 → entry (freed lines s) s j ≡ get_or bare j 0
  unfolding freed
  bare_at j q = in_slot lines _ s refl fits j q

  pub bare_dead : is_live (freed lines s) s ≡ false
  unfolding is_live
  bare_dead = rw (bare_at 0 (omega arith)) refl

  pub as_long' : length (freed lines s) ≡ length lines
  unfolding freed
  as_long' = same_length lines bare s refl fits

  pub freed_slots : slots_of (freed lines s) ≡ slots_of lines
  unfolding freed
  freed_slots = same_slots lines bare s refl fits

  module _ (x : ℕ) (d : x ≡ s → ⊥) where
    pub rest_sound : slot_sound (freed lines s) x ≡ slot_sound lines x
    unfolding freed
    rest_sound = sound_other lines bare s refl fits x d

    pub rest_live : is_live (freed lines s) x ≡ is_live lines x
    unfolding freed
    rest_live = lives_other lines bare s refl fits x d

    pub rest_line : line_at (freed lines s) x ≡ line_at lines x
    unfolding freed
    rest_line = line_other lines bare s refl fits x d

    pub rest_gen : generation (freed lines s) x ≡ generation lines x
    unfolding freed
    rest_gen = other_slot lines bare s refl fits x 1 (omega arith) d

-- ---- Start: a table of zeros
pub zero_at : (n i : ℕ) → ◌≡◌ {A = ℕ} (get_or (replicate n 0) i 0) 0
zero_at zero i = refl
zero_at (suc n) zero = refl
zero_at (suc n) (suc i) = zero_at n i

pub zero_dead : (n x : ℕ) → is_live (replicate n 0) x ≡ false
unfolding is_live
zero_dead n x = rw (zero_at n (8 * x + 0)) refl

pub none_live : (n : ℕ) (xs : List ℕ) → those (is_live (replicate n 0)) xs ≡ []
unfolding those
none_live n [] = refl
none_live n (x ∷ xs) = those_no (is_live (replicate n 0)) x xs (zero_dead n x) ∙ none_live n xs

pub no_lines : (n : ℕ) → live_lines (replicate n 0) ≡ []
unfolding live_lines live_slots
no_lines n = rw (none_live n (slots_of (replicate n 0))) refl
