-- Everything in the window: a slot is listed exactly if its line lives and shares a point with the closed rectangle; each once, rising; no other list is so.
use Rattle.std.specs.Prelude.{◌≡◌, ◌↔◌, Bool, true, ◌&&◌, ℕ, ◌/◌, ◌≤◌, length}
use Rattle.std.proofs.Common.{sym, subst, arith}
use mathlib.Core.List.{List, Memᴰ}
use Rattle.algebra.specs.Lists.{in_those, of_those, those_rising, up_from_rising, rising_same}
use Rattle.algebra.specs.Tests.{both→, both←}
use Rattle.algebra.specs.Words.{those}
use Rattle.definitions.specs.declared.Window.{Window}
use Rattle.definitions.specs.Shape.{Line, meets_area}
use Rattle.definitions.specs.Tables.{is_live, slots_of, line_at, live_slots}
use Rattle.definitions.specs.Window.{area_in, slots_in}
use Rattle.definitions.specs.Meaning.{Live, MeetsWindow, InWindow}
use Rattle.plane.specs.Meeting.{meets_area_iff}
use Rattle.meaning.specs.Answering.{live→, live←}

-- no two lists are so
pub one_list : (lines : List ℕ) (w : Window) {slots more : List ℕ} → InWindow lines w slots → InWindow lines w more → slots ≡ more
one_list lines w h k = rising_same h.rising k.rising (λ s. (λ m. (k.exactly s).1 ((h.exactly s).0 m), λ m. (h.exactly s).1 ((k.exactly s).0 m)))

module _ (lines : List ℕ) (w : Window) (east_more : w.west ≤ w.east) (north_more : w.south ≤ w.north) where
  abbrev area_iff : (l : Line) → (meets_area (area_in w) l ≡ true) ↔ MeetsWindow w l
  area_iff = meets_area_iff (area_in w) (omega (arith, east_more)) (omega (arith, north_more))

  abbrev test : ℕ → Bool
  test s = is_live lines s && meets_area (area_in w) (line_at lines s)

  seen : (s : ℕ) → Memᴰ s (those test (slots_of lines)) → Live lines s × MeetsWindow w (line_at lines s)
  unfolding live_slots
  seen s m =
      let h = of_those test (slots_of lines) m in
      let b = both→ (is_live lines s) (meets_area (area_in w) (line_at lines s)) h.1 in
      (live→ lines s (in_those (is_live lines) (slots_of lines) h.0 b.0), (area_iff (line_at lines s)).0 b.1)

  shown : (s : ℕ) → Live lines s × MeetsWindow w (line_at lines s) → Memᴰ s (those test (slots_of lines))
  unfolding live_slots
  shown s (v, m) = let h = of_those (is_live lines) (slots_of lines) (live← lines s v) in in_those test (slots_of lines) h.0 (both← h.1 ((area_iff (line_at lines s)).1 m))

  window_holds : InWindow lines w (slots_in lines (area_in w))
  unfolding slots_in slots_of
  window_holds = record { rising = those_rising test (up_from_rising 0 (length lines / 8)); exactly = λ s. (seen s, shown s) }

  -- the computed list is the paper's, and no other
  pub window_iff : (slots : List ℕ) → (slots ≡ slots_in lines (area_in w)) ↔ InWindow lines w slots
  window_iff slots = (λ e. subst (InWindow lines w) (sym e) window_holds, λ h. one_list lines w h window_holds)
