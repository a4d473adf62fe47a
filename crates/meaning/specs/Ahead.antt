-- Two ways from a point. True is south: lines that pass below it, the higher first. False is north: lines that pass above it, the lower first.
use Rattle.std.specs.Prelude.{◌≡◌, ◌⊎◌, Bool, true, false, ℕ, ◌<◌, ℤ}
use Rattle.std.proofs.Common.{inl, inr}
use Rattle.algebra.specs.Words.{is_positive, is_negative}
use Rattle.definitions.specs.declared.Point.{Point}
use Rattle.definitions.specs.Lookup.{below, above, run, higher}
use Rattle.definitions.specs.Shape.{Line}
use Rattle.meaning.specs.Height.{below→, above→}
use Rattle.meaning.specs.Rank.{Over, Clear, Higher, higher→, higher←, asym, higher_trans, higher_total}
use Rattle.plane.specs.Turns.{higher_by_turns}

-- the lines that count
unfoldable pub counts : Bool → Point → Line → Bool
counts true p l = below p l
counts false p l = above p l

pub counts_over : (d : Bool) (p : Point) (l : Line) → counts d p l ≡ true → Over p.x.0 l
unfolding counts
counts_over true p l e = (below→ p l e).0
counts_over false p l e = (above→ p l e).0

-- by the turn of a line and a point: the way from the point meets the line
unfoldable pub beyond : Bool → ℤ → Bool
beyond true t = is_positive t
beyond false t = is_negative t

-- which of two goes first: by heights, computed, and by turns
unfoldable pub Ahead : Bool → ℕ → Line → Line → Type 0
Ahead true x l m = Higher x l m
Ahead false x l m = Higher x m l

unfoldable pub ahead : Bool → ℕ → Line → Line → Bool
ahead true x l m = higher x l m
ahead false x l m = higher x m l

unfoldable pub ahead_by_turns : Bool → Line → Line → Bool
ahead_by_turns true l m = higher_by_turns l m
ahead_by_turns false l m = higher_by_turns m l

pub ahead→ : (d : Bool) (x : ℕ) (l m : Line) → ahead d x l m ≡ true → Ahead d x l m
unfolding Ahead ahead
ahead→ true x l m e = higher→ x l m e
ahead→ false x l m e = higher→ x m l e

pub ahead← : (d : Bool) (x : ℕ) (l m : Line) → Ahead d x l m → ahead d x l m ≡ true
unfolding Ahead ahead
ahead← true x l m e = higher← x l m e
ahead← false x l m e = higher← x m l e

pub ahead_trans : (d : Bool) (x : ℕ) (l m n : Line) → 0 < run l → 0 < run m → 0 < run n → Ahead d x l m → Ahead d x m n → Ahead d x l n
unfolding Ahead
ahead_trans true x l m n h i j e f = higher_trans x l m n h i j e f
ahead_trans false x l m n h i j e f = higher_trans x n m l j i h f e

pub ahead_asym : (d : Bool) (x : ℕ) (l m : Line) → Ahead d x l m → Ahead d x m l → ⊥
unfolding Ahead
ahead_asym true x l m e f = asym x l m e f
ahead_asym false x l m e f = asym x m l e f

pub ahead_total : (d : Bool) (x : ℕ) (l m : Line) → Over x l → Over x m → Clear l m → Ahead d x l m ⊎ Ahead d x m l
unfolding Ahead
ahead_total true x l m o q c = higher_total x l m o q c
ahead_total false x l m o q c = turn_about (higher_total x l m o q c)
  where
    turn_about : {A B : Type 0} → A ⊎ B → B ⊎ A
    turn_about (inl a) = inr a
    turn_about (inr b) = inl b
