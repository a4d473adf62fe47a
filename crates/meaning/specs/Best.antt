-- The best candidate is the same in whatever order they are scanned, also by turns.
use Rattle.std.specs.Prelude.{◌≡◌, ◌⊎◌, Bool, ◌&&◌, ◌||◌, ℕ, ◌+◌, ◌*◌, ◌≤◌, ◌<◌, ltb, eqb, if◌then◌else◌}
use Rattle.std.proofs.Math.Path.{refl, ap}
use Rattle.std.proofs.Common.{sym, ◌∙◌, subst, arith, le-leb, le-ltb, eqb-true}
use Rattle.std.proofs.Math.Logic.{inl, inr}
use Rattle.std.proofs.Math.Bool.{true, false}
use mathlib.Core.List.Memᴰ
use mathlib.Core.List.{List, [], ◌∷◌, ◌++◌, Memᴰ}
use Rattle.std.proofs.lemmas.Bool.{eqb-false}
use Rattle.meaning.specs.Found.{Found}
use Rattle.std.specs.Prelude.{None, Some}
use Rattle.definitions.specs.declared.Point.{Point}
use Rattle.algebra.specs.Signs.{positive_is}
use Rattle.algebra.specs.Tests.{no_path}
use Rattle.algebra.specs.Words.{is_zero}
use Rattle.definitions.specs.Lookup.{west_end, east_end, run, higher}
use Rattle.definitions.specs.Meaning.{Live}
use Rattle.definitions.specs.Shape.{Line, turn}
use Rattle.definitions.specs.Tables.{line_at, none_conflict}
use Rattle.meaning.specs.Answering.{none_conflicts}
use Rattle.meaning.specs.Ahead.{Ahead, ahead, ahead_by_turns, ahead→, ahead←, ahead_trans, ahead_asym}
use Rattle.meaning.specs.Rank.{Over, higher_not, asym, by_turns, run_some}
use Rattle.plane.specs.Turns.{turn_is, higher_by_turns}

-- one more slot looked at: q says whether its line counts, first which of two goes first
unfoldable pub better : (lines : List ℕ) (q : Line → Bool) (first : Line → Line → Bool) → Found → ℕ → Found
better lines q first None s = if q (line_at lines s) then Some s else None
better lines q first (Some t) s = if q (line_at lines s) && first (line_at lines s) (line_at lines t) then Some s else Some t

unfoldable pub scan : (lines : List ℕ) (q : Line → Bool) (first : Line → Line → Bool) → Found → List ℕ → Found
scan lines q first c [] = c
scan lines q first c (s ∷ ss) = scan lines q first (better lines q first c s) ss

pub scan_append : (lines : List ℕ) (q : Line → Bool) (first : Line → Line → Bool) (c : Found) (ss us : List ℕ) → scan lines q first c (ss ++ us) ≡ scan lines q first (scan lines q first c ss) us
unfolding scan
scan_append lines q first c [] us = refl
scan_append lines q first c (s ∷ ss) us = scan_append lines q first (better lines q first c s) ss us

-- a slot whose line lives and counts
pub record CountsAt (lines : List ℕ) (x : ℕ) (q : Line → Bool) (s : ℕ) : Type 0 where
  pub lives : Live lines s
  pub passes : q (line_at lines s) ≡ true
  pub over : Over x (line_at lines s)

module _ (lines : List ℕ) (d : Bool) (x : ℕ) (q : Line → Bool) where
  -- c is the best of the lines in A that upFrom
  pub data Tops (A : ℕ → Type 0) : Found → Type 0 where
    no_top : ((u : ℕ) → A u → CountsAt lines x q u → ⊥) → Tops A None
    top : (s : ℕ) → CountsAt lines x q s → ((u : ℕ) → A u → CountsAt lines x q u → Ahead d x (line_at lines u) (line_at lines s) → ⊥) → Tops A (Some s)

  pub tops_less : (A B : ℕ → Type 0) (c : Found) → ((u : ℕ) → CountsAt lines x q u → B u → A u) → Tops A c → Tops B c
  tops_less A B c f (no_top g) = no_top (λ u b k. g u (f u k b) k)
  tops_less A B c f (top s k g) = top s k (λ u b i. g u (f u i b) i)

  runs : (s : ℕ) → CountsAt lines x q s → 0 < run (line_at lines s)
  runs s k = run_some x (line_at lines s) k.over

  pub tops_better : (A : ℕ → Type 0) (c : Found) (s : ℕ) → Live lines s → (q (line_at lines s) ≡ true → Over x (line_at lines s)) → Tops A c → Tops (λ u. A u ⊎ (u ≡ s)) (better lines q (ahead d x) c s)
  unfolding better
  tops_better A c s v o (no_top f) = go (q (line_at lines s)) refl
    where
      none : q (line_at lines s) ≡ false → (u : ℕ) → A u ⊎ (u ≡ s) → CountsAt lines x q u → ⊥
      none e u (inl a) k = f u a k
      none e u (inr i) k = no_path (sym e ∙ ap (λ (n : ℕ). q (line_at lines n)) (sym i) ∙ k.passes)

      one : (u : ℕ) → A u ⊎ (u ≡ s) → CountsAt lines x q u → Ahead d x (line_at lines u) (line_at lines s) → ⊥
      one u (inl a) k h = f u a k
      one u (inr i) k h = let j = subst (λ (n : ℕ). Ahead d x (line_at lines n) (line_at lines s)) i h in ahead_asym d x _ _ j j

      go : (t : Bool) → q (line_at lines s) ≡ t → Tops (λ (u : ℕ). A u ⊎ (u ≡ s)) (if t then Some s else None)
      go true e = top s (record { lives = v; passes = e; over = o e }) one
      go false e = no_top (none e)
  tops_better A c s v o (top t k f) = go (q (line_at lines s)) refl (ahead d x (line_at lines s) (line_at lines t)) refl
    where
      kept : q (line_at lines s) ≡ false → (u : ℕ) → A u ⊎ (u ≡ s) → CountsAt lines x q u → Ahead d x (line_at lines u) (line_at lines t) → ⊥
      kept e u (inl a) k h = f u a k h
      kept e u (inr i) k h = no_path (sym e ∙ ap (λ (n : ℕ). q (line_at lines n)) (sym i) ∙ k.passes)

      held : ahead d x (line_at lines s) (line_at lines t) ≡ false → (u : ℕ) → A u ⊎ (u ≡ s) → CountsAt lines x q u → Ahead d x (line_at lines u) (line_at lines t) → ⊥
      held e u (inl a) k h = f u a k h
      held e u (inr i) k h = no_path (sym e ∙ ahead← d x (line_at lines s) (line_at lines t) (subst (λ (n : ℕ). Ahead d x (line_at lines n) (line_at lines t)) i h))

      new : (c : CountsAt lines x q s) → ahead d x (line_at lines s) (line_at lines t) ≡ true → (u : ℕ) → A u ⊎ (u ≡ s) → CountsAt lines x q u → Ahead d x (line_at lines u) (line_at lines s) → ⊥
      new c e u (inl a) j h = f u a j (ahead_trans d x (line_at lines u) (line_at lines s) (line_at lines t) (runs u j) (runs s c) (runs t k) h (ahead→ d x _ _ e))
      new c e u (inr i) j h = let b = subst (λ (n : ℕ). Ahead d x (line_at lines n) (line_at lines s)) i h in ahead_asym d x _ _ b b

      go : (b : Bool) → q (line_at lines s) ≡ b → (a : Bool) → ahead d x (line_at lines s) (line_at lines t) ≡ a → Tops (λ (u : ℕ). A u ⊎ (u ≡ s)) (if b && a then Some s else Some t)
      go true e true f = let c : CountsAt lines x q s = record { lives = v; passes = e; over = o e } in top s c (new c f)
      go true e false f = top t k (held f)
      go false e a f = top t k (kept e)

  -- a list of slots looked at, in any order
  pub tops_scan : (A : ℕ → Type 0) (c : Found) (ss : List ℕ) → ((s : ℕ) → Memᴰ s ss → Live lines s) → ((s : ℕ) → q (line_at lines s) ≡ true → Over x (line_at lines s))
      → Tops A c → Tops (λ u. A u ⊎ Memᴰ u ss) (scan lines q (ahead d x) c ss)
  unfolding scan
  tops_scan A c [] v o t = tops_less A (λ (u : ℕ). A u ⊎ Memᴰ u []) c only t
    where
      only : (u : ℕ) → CountsAt lines x q u → A u ⊎ Memᴰ u [] → A u
      only u k (inl a) = a
      only u k (inr m) = absurd (Memᴰ.not-nil m)
  tops_scan A c (s ∷ ss) v o t =
      tops_less (λ (u : ℕ). (A u ⊎ (u ≡ s)) ⊎ Memᴰ u ss) (λ (u : ℕ). A u ⊎ Memᴰ u (s ∷ ss)) (scan lines q (ahead d x) (better lines q (ahead d x) c s) ss) split
      (tops_scan (λ (u : ℕ). A u ⊎ (u ≡ s)) (better lines q (ahead d x) c s) ss (λ n m. v n (Memᴰ.tail m)) o (tops_better A c s (v s (Memᴰ.head refl)) (o s) t))
    where
      split : (u : ℕ) → CountsAt lines x q u → A u ⊎ Memᴰ u (s ∷ ss) → (A u ⊎ (u ≡ s)) ⊎ Memᴰ u ss
      split u k (inl a) = inl (inl a)
      split u k (inr (Memᴰ.head e)) = inl (inr e)
      split u k (inr (Memᴰ.tail m)) = inr m

-- the best of all lines that count
unfoldable pub Best : (lines : List ℕ) (d : Bool) (x : ℕ) (q : Line → Bool) → Found → Type 0
Best lines d x q c = Tops lines d x q (λ (u : ℕ). ℕ) c

-- a line is not higher than itself by turns
self_turns : (l : Line) → higher_by_turns l l ≡ false
unfolding higher_by_turns
self_turns l =
    rw (le-leb (west_end l).x.0 (west_end l).x.0 (omega arith), positive_is (turn_is (west_end l) (east_end l) (west_end l)), positive_is (turn_is (west_end l) (east_end l) (east_end l)))
    (none _ _ _ _ (is_zero (turn (west_end l) (east_end l) (west_end l))) (level (west_end l).x.0 (west_end l).y.0 (east_end l).x.0 (east_end l).y.0) (level' (west_end l).x.0 (west_end l).y.0 (east_end l).x.0 (east_end l).y.0))
  where
    level : (ax ay bx by : ℕ) → bx * ay + ay * ax + by * ax ≤ bx * ay + ax * ay + by * ax
    level ax ay bx by = omega arith

    level' : (ax ay bx by : ℕ) → bx * by + ay * bx + by * ax ≤ bx * ay + ax * by + by * bx
    level' ax ay bx by = omega arith

    none : (a b c d : ℕ) (z : Bool) → a ≤ b → c ≤ d → (ltb b a || z && ltb d c) ≡ false
    none a b c d z h k = rw (le-ltb b a h, le-ltb d c k) (never z)
      where
        never : (z : Bool) → (false || z && false) ≡ false
        never true = refl
        never false = refl

module _ (lines : List ℕ) (p : Point) (sound : none_conflict lines ≡ true) where
  -- of live lines over p's x, a line and itself too: by heights is by turns
  pub live_by_turns : (s u : ℕ) → Live lines s → Live lines u → Over p.x.0 (line_at lines s) → Over p.x.0 (line_at lines u)
      → higher p.x.0 (line_at lines s) (line_at lines u) ≡ higher_by_turns (line_at lines s) (line_at lines u)
  live_by_turns s u v w o q = go (eqb s u) refl
    where
      same : s ≡ u → higher p.x.0 (line_at lines s) (line_at lines u) ≡ higher_by_turns (line_at lines s) (line_at lines u)
      same e =
          subst (λ (n : ℕ). higher p.x.0 (line_at lines s) (line_at lines n) ≡ higher_by_turns (line_at lines s) (line_at lines n)) e
          (higher_not p.x.0 (line_at lines s) (line_at lines s) (λ h. asym p.x.0 _ _ h h) ∙ sym (self_turns (line_at lines s)))

      go : (t : Bool) → eqb s u ≡ t → higher p.x.0 (line_at lines s) (line_at lines u) ≡ higher_by_turns (line_at lines s) (line_at lines u)
      go true e = same (eqb-true s u e)
      go false e = by_turns p.x.0 (line_at lines s) (line_at lines u) o q (none_conflicts lines sound s u v w (eqb-false s u e))

  pub ahead_by_turns_lem : (d : Bool) (s u : ℕ) → Live lines s → Live lines u → Over p.x.0 (line_at lines s) → Over p.x.0 (line_at lines u)
      → ahead d p.x.0 (line_at lines s) (line_at lines u) ≡ ahead_by_turns d (line_at lines s) (line_at lines u)
  unfolding ahead ahead_by_turns
  ahead_by_turns_lem true s u v w o q = live_by_turns s u v w o q
  ahead_by_turns_lem false s u v w o q = live_by_turns u s w v q o

  -- one more slot looked at, by turns
  pub better_by_turns : (d : Bool) (q : Line → Bool) (A : ℕ → Type 0) (c : Found) (s : ℕ) → Live lines s → (q (line_at lines s) ≡ true → Over p.x.0 (line_at lines s)) → Tops lines d p.x.0 q A c
      → better lines q (ahead d p.x.0) c s ≡ better lines q (ahead_by_turns d) c s
  unfolding better
  better_by_turns d q A c s v o (no_top f) = refl
  better_by_turns d q A c s v o (top t k f) = go (q (line_at lines s)) refl
    where
      go : (b : Bool) → q (line_at lines s) ≡ b
          → (if b && ahead d p.x.0 (line_at lines s) (line_at lines t) then Some s else Some t) ≡ (if b && ahead_by_turns d (line_at lines s) (line_at lines t) then Some s else Some t)
      go true e = ap (λ (b : Bool). if b then Some s else Some t) (ahead_by_turns_lem d s t v k.lives (o e) k.over)
      go false e = refl

  pub scan_by_turns : (d : Bool) (q : Line → Bool) (A : ℕ → Type 0) (c : Found) (ss : List ℕ) → ((s : ℕ) → Memᴰ s ss → Live lines s) → ((s : ℕ) → q (line_at lines s) ≡ true → Over p.x.0 (line_at lines s))
      → Tops lines d p.x.0 q A c → scan lines q (ahead d p.x.0) c ss ≡ scan lines q (ahead_by_turns d) c ss
  unfolding scan
  scan_by_turns d q A c [] v o t = refl
  scan_by_turns d q A c (s ∷ ss) v o t =
      scan_by_turns d q (λ (u : ℕ). A u ⊎ (u ≡ s)) (better lines q (ahead d p.x.0) c s) ss (λ n m. v n (Memᴰ.tail m)) o (tops_better lines d p.x.0 q A c s (v s (Memᴰ.head refl)) (o s) t)
      ∙ ap (λ (r : Found). scan lines q (ahead_by_turns d) r ss) (better_by_turns d q A c s (v s (Memᴰ.head refl)) (o s) t)
