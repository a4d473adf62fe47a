-- A fan parted by a way from its common end: each side is tested for itself.
use Rattle.std.specs.Prelude.{◌≡◌, Bool, ℕ, ◌≤◌, length, take}
use Rattle.std.proofs.Math.Path.{refl, ap}
use Rattle.std.proofs.Common.{sym, ◌∙◌, ap₂, arith}
use Rattle.std.proofs.Math.Bool.{true, false, not, ◌&&◌, beq}
use mathlib.Core.List.{List, [], ◌∷◌, Memᴰ}
use Rattle.algebra.specs.Words.{those, every}
use Rattle.algebra.specs.Lists.{those_yes, those_no, in_those, of_those, those_length, every→, every←}
use Rattle.algebra.specs.Tests.{both_ways, false_by, no_path}
use Rattle.definitions.specs.declared.Point.{Point}
use Rattle.definitions.specs.Shape.{is_end, conflict}
use Rattle.definitions.specs.Tables.{line_at}
use Rattle.geometry.specs.Range.{End}
use Rattle.leaves.specs.Fans.{leaves_left, one_side}
use Rattle.leaves.specs.Pass.{clear_of, leaf_apart, Good}

-- v is an end of the slot's line
abbrev pub ends_at : List ℕ → Point → ℕ → Bool
ends_at lines v s = is_end v (line_at lines s)

-- the slot's line leaves v to the left of the way from v to w, or, for the side false, not so
unfoldable pub on_side : List ℕ → Point → Point → Bool → ℕ → Bool
on_side lines v w side s = beq (leaves_left v w (line_at lines s)) side

-- slots of a fan at v, so few that the scratch array of a level holds them
pub record Fan (lines : List ℕ) (v : Point) (slots : List ℕ) : Type 0 where
  pub good : Good lines slots
  pub ends : every (ends_at lines v) slots ≡ true
  pub hub : End v
  pub few : length slots ≤ 1024

-- the r slots that pass the test stand at the front of a table
pub record Kept (p : ℕ → Bool) (slots after : List ℕ) (r : ℕ) : Type 0 where
  pub count : r ≡ length (those p slots)
  pub front : take r after ≡ those p slots

-- ---- slots that a test parts so that two of them conflict only within a part

-- what holds of every element outside a part holds of all, if it holds of the part
every_part : (c p : ℕ → Bool) (slots : List ℕ) → ((y : ℕ) → Memᴰ y slots → c y ≡ false → p y ≡ true) → every p slots ≡ every p (those c slots)
every_part c p slots f =
    both_ways _ _
    (λ e. every← p (those c slots) (λ y m. every→ p slots e (of_those c slots m).0))
    (λ e. every← p slots (λ y m. by (c y) refl e m))
  where
    by : {y : ℕ} (t : Bool) → c y ≡ t → every p (those c slots) ≡ true → Memᴰ y slots → p y ≡ true
    by true g e m = every→ p (those c slots) e (in_those c slots m g)
    by false g e m = f _ m g

first : (x a b : Bool) → x && (a && b) ≡ x && a && b
first true a b = refl
first false a b = refl

second : (x a b : Bool) → x && (a && b) ≡ a && (x && b)
second true a b = refl
second false true b = refl
second false false b = refl

module _ (lines : List ℕ) (c : ℕ → Bool) where
  abbrev part : Bool → ℕ → Bool
  part side s = beq (c s) side

  abbrev Parted : List ℕ → Type 0
  Parted slots = (x y : ℕ) → Memᴰ x slots → Memᴰ y slots → conflict (line_at lines x) (line_at lines y) ≡ true → c x ≡ c y

  -- the first of the slots conflicts with none but those of its part
  clear_part : (side : Bool) (s : ℕ) (more : List ℕ) → Parted (s ∷ more) → part side s ≡ true
      → clear_of lines (line_at lines s) more ≡ clear_of lines (line_at lines s) (those (part side) more)
  unfolding clear_of
  clear_part side s more f e = every_part (part side) _ more (λ y m g.
      ap not (false_by _ (λ k. no_path (sym g ∙ ap (λ (b : Bool). beq b side) (sym (f s y (Memᴰ.head refl) (Memᴰ.tail m) k)) ∙ e))))

  abbrev apart : Bool → List ℕ → Bool
  apart side slots = leaf_apart lines (those (part side) slots)

  pub parted : (slots : List ℕ) → Parted slots → leaf_apart lines slots ≡ apart true slots && apart false slots
  unfolding leaf_apart those
  parted [] f = refl
  parted (s ∷ more) f = go (c s) (λ side. refl) (parted more (λ x y m n. f x y (Memᴰ.tail m) (Memᴰ.tail n)))
    where
      go : (t : Bool) → ((side : Bool) → part side s ≡ beq t side) → leaf_apart lines more ≡ apart true more && apart false more
          → leaf_apart lines (s ∷ more) ≡ apart true (s ∷ more) && apart false (s ∷ more)
      go true k h = rw (those_yes (part true) s more (k true), those_no (part false) s more (k false))
          (ap₂ ◌&&◌ (clear_part true s more f (k true)) h ∙ first (clear_of lines (line_at lines s) (those (part true) more)) (apart true more) (apart false more))
      go false k h = rw (those_no (part true) s more (k true), those_yes (part false) s more (k false))
          (ap₂ ◌&&◌ (clear_part false s more f (k false)) h ∙ second (clear_of lines (line_at lines s) (those (part false) more)) (apart true more) (apart false more))

-- ---- the two sides of a way from v
module _ {lines : List ℕ} {v : Point} {slots : List ℕ} (f : Fan lines v slots) where
  pub fan_those : (p : ℕ → Bool) → Fan lines v (those p slots)
  fan_those p = record {
    good = λ s m. f.good s (of_those p slots m).0;
    ends = every← (ends_at lines v) (those p slots) (λ s m. every→ (ends_at lines v) slots f.ends (of_those p slots m).0);
    hub = f.hub;
    few = omega (arith, those_length p slots, f.few);
  }

  pub sides : (w : Point) → leaf_apart lines slots ≡ leaf_apart lines (those (on_side lines v w true) slots) && leaf_apart lines (those (on_side lines v w false) slots)
  unfolding on_side
  sides w = parted lines (λ s. leaves_left v w (line_at lines s)) slots (λ x y m n e.
      one_side v w (line_at lines x) (line_at lines y) (f.good x m).proper (f.good y n).proper
      (every→ (ends_at lines v) slots f.ends m) (every→ (ends_at lines v) slots f.ends n) e)
