-- Start, delete, locate and window as walks through their refusals: what each replies where the tests so far came out so.
use Rattle.std.specs.Prelude.{◌≡◌, true, false, ◌&&◌, List, ℕ, ◌*◌, ◌/◌, eqb, length, Ok, Err}
use Rattle.std.proofs.Math.Path.{refl}
use Rattle.definitions.specs.declared.Window.{Window}
use Rattle.definitions.specs.declared.Refusal.{Refusal}
use Rattle.definitions.specs.declared.Refusal.TheVariants.{Lengths, Damaged, UnknownHandle, BadWindow}
use Rattle.definitions.specs.Tree.{Rule}
use Rattle.definitions.specs.Tables.{Tables, lengths_fit, sound}
use Rattle.definitions.specs.Calls.{reply, cleared, start_of, known, freed, rebuilt, delete_of, insert_of}
use Rattle.definitions.specs.Lookup.{answers_to, locate_of}
use Rattle.soundness.specs.Checked.{Checked, short, damaged}
use Rattle.changes.specs.Steps.{insert_1, insert_2}
use Rattle.definitions.specs.declared.Given.{Given}
use Rattle.definitions.specs.Window.{windowed, window_fits, area_in, slots_in, listed_in, window_of}

pub start_1 : (t : Tables) → lengths_fit t ≡ false → start_of t ≡ reply (Err Lengths) t
unfolding start_of
start_1 t e = rw e refl

pub start_0 : (t : Tables) → lengths_fit t ≡ true → start_of t ≡ reply (Ok 0) (cleared t)
unfolding start_of
start_0 t e = rw e refl

module _ (rule : Rule) (t : Tables) where
  module _ (h : ℕ) where
    pub delete_1 : lengths_fit t ≡ false → delete_of rule t h ≡ reply (Err Lengths) t
    unfolding delete_of
    delete_1 e = rw e refl

    module _ (fit : lengths_fit t ≡ true) where
      pub delete_2 : sound rule t ≡ false → delete_of rule t h ≡ reply (Err Damaged) t
      unfolding delete_of
      delete_2 e = rw (fit, e) refl

      module _ (ok : sound rule t ≡ true) where
        pub delete_8 : known t.lines h ≡ false → delete_of rule t h ≡ reply (Err UnknownHandle) t
        unfolding delete_of
        delete_8 e = rw (fit, ok, e) refl

        pub delete_0 : known t.lines h ≡ true → delete_of rule t h ≡ reply (Ok 0) (rebuilt rule t (freed t.lines (h / 65536)))
        unfolding delete_of
        delete_0 e = rw (fit, ok, e) refl

  module _ (points answers : List ℕ) where
    pub locate_1 : (lengths_fit t && eqb (length points) (2 * length answers)) ≡ false → locate_of rule t points answers ≡ record { answer = Err Lengths; answers = answers }
    unfolding locate_of
    locate_1 e = rw e refl

    module _ (fit : (lengths_fit t && eqb (length points) (2 * length answers)) ≡ true) where
      pub locate_2 : sound rule t ≡ false → locate_of rule t points answers ≡ record { answer = Err Damaged; answers = answers }
      unfolding locate_of
      locate_2 e = rw (fit, e) refl

      pub locate_0 : sound rule t ≡ true → locate_of rule t points answers ≡ record { answer = Ok 0; answers = answers_to t.lines points }
      unfolding locate_of
      locate_0 e = rw (fit, e) refl

  module _ (w : Window) (slots : List ℕ) where
    pub window_1 : lengths_fit t ≡ false → window_of rule t w slots ≡ windowed (Err Lengths) slots
    unfolding window_of
    window_1 e = rw e refl

    module _ (fit : lengths_fit t ≡ true) where
      pub window_2 : sound rule t ≡ false → window_of rule t w slots ≡ windowed (Err Damaged) slots
      unfolding window_of
      window_2 e = rw (fit, e) refl

      module _ (ok : sound rule t ≡ true) where
        pub window_9 : window_fits w ≡ false → window_of rule t w slots ≡ windowed (Err BadWindow) slots
        unfolding window_of
        window_9 e = rw (fit, ok, e) refl

        pub window_0 : window_fits w ≡ true → window_of rule t w slots ≡ listed_in (slots_in t.lines (area_in w)) slots
        unfolding window_of
        window_0 e = rw (fit, ok, e) refl

  -- ---- what the first two tests refuse

  pub insert_refused : (g : Given) {r : Refusal} → Checked rule t (Err r) → insert_of rule t g ≡ reply (Err r) t
  insert_refused g (short e) = insert_1 rule t g e
  insert_refused g (damaged f e) = insert_2 rule t g f e

  pub delete_refused : (h : ℕ) {r : Refusal} → Checked rule t (Err r) → delete_of rule t h ≡ reply (Err r) t
  delete_refused h (short e) = delete_1 h e
  delete_refused h (damaged f e) = delete_2 h f e

  pub window_refused : (w : Window) (slots : List ℕ) {r : Refusal} → Checked rule t (Err r) → window_of rule t w slots ≡ windowed (Err r) slots
  window_refused w slots (short e) = window_1 w slots e
  window_refused w slots (damaged f e) = window_2 w slots f e
