-- What is found on a way answers, and where nothing is found on both ways the answer is 0.
use mathlib.Core.Path.{◌≡◌, sym, ap, ◌∙◌}
use mathlib.Core.Bool.{Bool, true, false}
use mathlib.Core.List.{List, [], ◌∷◌}
use lib.ListN.{get_or}
use Prim.Native.Nat.{ℕ, zero, suc, ◌+◌, ◌≤◌, ◌<◌}
use native.Mathlib.Omega.{arith}
use Rattle.definitions.specs.declared.Point.{Point}
use Rattle.definitions.specs.Tables.{none_conflict}
use Rattle.definitions.specs.Lookup.{on_line, answering, answer_of, answer_at}
use Rattle.meaning.specs.Found.{Found}
use Rattle.std.specs.Prelude.{Option, None, Some}
use Rattle.meaning.specs.Column.{found_below, found_above, found_none}
use Rattle.scan.specs.Asked.{label_by, Plain, BestOn}
use Rattle.lookup.specs.declared.Map.{Map}
use Rattle.lookup.specs.Asked.{Ready, ToldBy, Turn, at_once, none_below, FoundIs}

pub ready_plain : {map : Map} → Ready map → Plain map.lines.now map.live.now
ready_plain r = record { slots = r.chart.map.sound.slots; apart = r.chart.map.sound.apart; all = r.all }

module _ {lines : List ℕ} {p : Point} where
  -- a line through p
  pub found_on : {d : Bool} {answer s : ℕ} → answer ≡ 65536 + s → on_line s ≡ answering lines p → FoundIs lines d p (Some answer)
  unfolding answer_at answer_of
  found_on f g = record { answers = λ e _. (let same : _ ≡ _ = cc (sym e) in same) ∙ ap (answer_of lines) g; nothing = λ e. cc }

  module _ (apart : none_conflict lines ≡ true) where
    by_label : (d : Bool) {s : ℕ} → Turn lines p d → BestOn lines d p (Some s) → label_by lines d s ≡ answer_at lines p
    unfolding answer_at answer_of
    by_label true {s} at_once b = ap (answer_of lines) (found_below lines p apart b.none_on s b.best)
    by_label false {s} (none_below n) b = ap (answer_of lines) (found_above lines p apart b.none_on s n.best b.best)

    -- the best line on the way
    pub found_best : (d : Bool) (c : Found) {found : Option ℕ} → BestOn lines d p c → ToldBy lines d c found → FoundIs lines d p found
    found_best d None b t = record { answers = λ e. cc; nothing = λ _. b }
    found_best d (Some s) b t = record { answers = λ e turn. let w : _ ≡ label_by lines d s = cc in w ∙ by_label d turn b; nothing = λ e. cc }

-- ---- The ways, one after the other

abbrev way_at : ℕ → Bool
way_at i = get_or (true ∷ false ∷ []) i false

-- nothing was found on the ways before this one
pub record Passed (lines : List ℕ) (p : Point) (i : ℕ) : Type 0 where
  pub below : 0 < i → BestOn lines true p None
  pub above : 1 < i → BestOn lines false p None

module _ {lines : List ℕ} {p : Point} where
  pub turn_at : (i : ℕ) → Passed lines p i → Turn lines p (way_at i)
  turn_at zero h = at_once
  turn_at (suc zero) h = none_below (h.below (omega arith))
  turn_at (suc (suc i)) h = none_below (h.below (omega arith))

  pub pass : (i : ℕ) {found : Option ℕ} → i < 2 → FoundIs lines (way_at i) p found → found ≡ None → Passed lines p i → Passed lines p (i + 1)
  pass zero l f e h = record { below = λ _. f.nothing e; above = λ k. absurd (omega arith) }
  pass (suc zero) l f e h = record { below = λ _. h.below (omega arith); above = λ _. f.nothing e }
  pass (suc (suc i)) l f e h = absurd (omega arith)

  pub none_found : (i : ℕ) → none_conflict lines ≡ true → 2 ≤ i → Passed lines p i → 0 ≡ answer_at lines p
  unfolding answer_at answer_of
  none_found i apart l h = let n = h.below (omega arith) in ap (answer_of lines) (found_none lines p apart n.none_on n.best (h.above (omega arith)).best)
