-- Window answers by the refusal table: its tests mean the table's conditions, and what it leaves is what the table says.
use Rattle.std.specs.Prelude.{◌≡◌, ◌↔◌, Bool, true, List, [], ◌∷◌, ◌++◌, ℕ, ◌+◌, ◌-◌, ◌≤◌, leb, ltb, length, get_or, Ok, Err}
use Rattle.std.proofs.Math.Path.{refl, ap}
use Rattle.std.proofs.Common.{sym, ◌∙◌, subst, inl, inr, arith, length-append, length-drop, get_or-append-add, get_or-drop}
use Rattle.std.proofs.Math.Bool.{not}
use Rattle.std.proofs.Math.ListN.{drop}
use Rattle.std.proofs.Math.Seq.{take-append_seam}
use borrow.Author.Tests.{leb-true, leb-false, ltb-true, lt-ltb, not-true}
use Rattle.algebra.specs.Tests.{false_by}
use Rattle.definitions.specs.declared.Refusal.TheVariants.{Lengths, Damaged, BadWindow, ListShort}
use Rattle.definitions.specs.declared.Window.{Window}
use Rattle.definitions.specs.Meaning.{InWindow}
use Rattle.definitions.specs.Tables.{Tables, lengths_fit, on_grid, sound}
use Rattle.definitions.specs.Tree.{Rule}
use Rattle.definitions.specs.Window.{Windowed, windowed, window_fits, area_in, slots_in, listed_in, window_of}
use Rattle.plane.specs.Compare.{not_more}
use Rattle.meaning.specs.Chain.{Each, chain→, chain_fails}
use Rattle.meaning.specs.Window.{one_list, window_iff}
use Rattle.history.proofs.Cascade.{tested, gives, Came, kept, made, plain, detailed, alone}
use Rattle.history.proofs.Conditions.{wrong_means, unsound_means}
use Rattle.history.specs.Refusals.{None, WrongLengths, Unsound, WrongWindow, off_grid, inverted_x, inverted_y, Number, TooShort, FrontShows, WindowExact, window_tests}

-- ---- 9
module _ (w : Window) where
  abbrev tests_of_window : List Bool
  tests_of_window = on_grid w.south ∷ on_grid w.east ∷ on_grid w.north ∷ leb w.west w.east ∷ leb w.south w.north ∷ []

  window_means : (not (window_fits w) ≡ true) ↔ WrongWindow w
  unfolding window_fits
  window_means = (
    λ e. chain_fails (on_grid w.west) tests_of_window (not-true (window_fits w) e) (λ f. off_grid (inl (leb-false _ _ f)))
        (λ f. off_grid (inr (inl (leb-false _ _ f))), (λ f. off_grid (inr (inr (inl (leb-false _ _ f)))), (λ f. off_grid (inr (inr (inr (leb-false _ _ f)))), (λ f. inverted_x (leb-false _ _ f), (λ f. inverted_y (leb-false _ _ f), tt))))),
    λ h. ap not (false_by (window_fits w) (λ e. back h (chain→ (on_grid w.west) tests_of_window e))),
  )
    where
      back : WrongWindow w → (on_grid w.west ≡ true) × Each tests_of_window → ⊥
      back (off_grid (inl h)) e = omega (arith, leb-true w.west 16383 e.0)
      back (off_grid (inr (inl h))) e = omega (arith, leb-true w.south 16383 e.1.0)
      back (off_grid (inr (inr (inl h)))) e = omega (arith, leb-true w.east 16383 e.1.1.0)
      back (off_grid (inr (inr (inr h)))) e = omega (arith, leb-true w.north 16383 e.1.1.1.0)
      back (inverted_x h) e = omega (arith, leb-true w.west w.east e.1.1.1.1.0)
      back (inverted_y h) e = omega (arith, leb-true w.south w.north e.1.1.1.1.1.0)

-- ---- 10
number_only : (lines : List ℕ) (w : Window) (n m : ℕ) → Number lines w n → Number lines w m → n ≡ m
number_only lines w n m (these, h, e) (others, k, f) = e ∙ ap length (one_list lines w h k) ∙ sym f

module _ (lines : List ℕ) (w : Window) (fits : ¬ WrongWindow w) where
  abbrev slots : List ℕ
  slots = slots_in lines (area_in w)

  in_window : InWindow lines w slots
  in_window = (window_iff lines w (not_more (λ h. fits (inverted_x h))) (not_more (λ h. fits (inverted_y h))) slots).0 refl

  number : Number lines w (length slots)
  number = (slots, in_window, refl)

  short_means : (list : List ℕ) → (ltb (length list) (length slots) ≡ true) ↔ TooShort lines w list
  short_means list = (
    λ e. (length slots, number, ltb-true _ _ e),
    λ (n, c, h). lt-ltb (length list) (length slots) (omega (arith, number_only lines w n (length slots) c number)),
  )

-- ---- What it leaves
module _ (lines : List ℕ) (w : Window) (slots list : List ℕ) (seen : InWindow lines w slots) (room : length slots ≤ length list) where
  front_shows : FrontShows lines w (length slots) list (slots ++ drop (length slots) list)
  front_shows =
      record {
        long = simp (length-append, length-drop) (omega (arith, room));
        front = subst (InWindow lines w) (sym (take-append_seam slots (drop (length slots) list))) seen;
        later = later;
      }
    where
      later : (i : ℕ) → length slots ≤ i → get_or (slots ++ drop (length slots) list) i 0 ≡ get_or list i 0
      later i h =
          let e : length slots + (i - length slots) ≡ i = omega arith in
          subst (λ (k : ℕ). get_or (slots ++ drop (length slots) list) k 0 ≡ get_or list k 0) e (get_or-append-add slots (drop (length slots) list) (i - length slots) 0 ∙ get_or-drop (length slots) list (i - length slots) 0)

  shows_number : (n : ℕ) → Number lines w n → FrontShows lines w n list (slots ++ drop (length slots) list)
  shows_number n c = subst (λ (k : ℕ). FrontShows lines w k list (slots ++ drop (length slots) list)) (number_only lines w (length slots) n (slots, seen, refl) c) front_shows

-- ---- The call
module _ (rule : Rule) (t : Tables) (w : Window) (list : List ℕ) where
  abbrev Viewed : Windowed → Type 0
  Viewed =
      Came (λ (r : Windowed). r.answer) (λ (r : Windowed). r.slots ≡ list) (λ (r : Windowed). (n : ℕ) → Number t.lines w n → FrontShows t.lines w n list r.slots)
      ((λ d. Err Lengths) ∷ (λ d. Err Damaged) ∷ (λ d. Err BadWindow) ∷ (λ d. Err ListShort) ∷ []) (window_tests rule t w list) (Number t.lines w) (λ d. ⊥)

  came_list : ¬ WrongLengths t → ¬ Unsound rule t → ¬ WrongWindow w → Viewed (listed_in (slots_in t.lines (area_in w)) list)
  unfolding listed_in
  came_list n1 n2 n3 =
      let slots = slots_in t.lines (area_in w) in
      tested Viewed (ltb (length list) (length slots)) (short_means t.lines w n3 list) (λ c. gives (windowed (Err ListShort) list) refl (c, (n1, (n2, (n3, tt)))) refl)
      (λ n4. gives (windowed (Ok (length slots)) (slots ++ drop (length slots) list)) refl (tt, (n1, (n2, (n3, (n4, tt))))) (number t.lines w n3, shows_number t.lines w slots list (in_window t.lines w n3) (not_more (λ k. n4 (length slots, number t.lines w n3, k)))))

  came_window : Viewed (window_of rule t w list)
  unfolding window_of
  came_window =
      tested Viewed (not (lengths_fit t)) (wrong_means t) (λ c. gives (windowed (Err Lengths) list) refl (c, tt) refl)
      (λ n1. tested Viewed (not (sound rule t)) (unsound_means rule t) (λ c. gives (windowed (Err Damaged) list) refl (c, (n1, tt)) refl)
      (λ n2. tested Viewed (not (window_fits w)) (window_means w) (λ c. gives (windowed (Err BadWindow) list) refl (c, (n1, (n2, tt))) refl)
      (λ n3. came_list n1 n2 n3)))

  done : (n : ℕ) → ((window_of rule t w list).answer ≡ Ok n) ↔ Number t.lines w n × None 4 (window_tests rule t w list)
  done = detailed came_window Ok 0 (Number t.lines w) (λ d. refl) (λ d. refl) (λ d a. a.0) (number_only t.lines w) (λ d a. tt)

  pub window_exact : WindowExact rule t w list
  window_exact =
      record {
        lengths = alone (plain came_window (Err Lengths) (λ d. refl));
        damaged = plain came_window (Err Damaged) (λ d. refl);
        bad_window = plain came_window (Err BadWindow) (λ d. refl);
        list_short = plain came_window (Err ListShort) (λ d. refl);
        done = done;
        shows = λ n e. made came_window n e n ((done n).0 e).0;
        kept = kept came_window;
      }
