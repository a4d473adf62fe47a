-- Show leaf as a walk through its refusals: what it shows where the tests so far came out so.
use Rattle.std.specs.Prelude.{◌≡◌, true, false, ◌&&◌, ℕ, Err}
use Rattle.std.proofs.Math.Path.{refl}
use Rattle.definitions.specs.declared.Refusal.{Refusal}
use Rattle.definitions.specs.declared.Refusal.TheVariants.{Lengths, Damaged, OffGrid}
use Rattle.definitions.specs.Tree.{Rule}
use Rattle.definitions.specs.Tables.{Tables, lengths_fit, sound, on_grid}
use Rattle.definitions.specs.Lookup.{not_shown, shown_at, leaf_over, show_of}
use Rattle.soundness.specs.Checked.{Checked, short, damaged}

module _ (rule : Rule) (t : Tables) (x y : ℕ) where
  pub show_1 : lengths_fit t ≡ false → show_of rule t x y ≡ not_shown (Err Lengths)
  unfolding show_of
  show_1 e = rw e refl

  module _ (fit : lengths_fit t ≡ true) where
    pub show_2 : sound rule t ≡ false → show_of rule t x y ≡ not_shown (Err Damaged)
    unfolding show_of
    show_2 e = rw (fit, e) refl

    module _ (ok : sound rule t ≡ true) where
      pub show_3 : (on_grid x && on_grid y) ≡ false → show_of rule t x y ≡ not_shown (Err OffGrid)
      unfolding show_of
      show_3 e = rw (fit, ok, e) refl

      pub show_0 : (on_grid x && on_grid y) ≡ true → show_of rule t x y ≡ shown_at (leaf_over rule t x y) t.listings
      unfolding show_of
      show_0 e = rw (fit, ok, e) refl

  pub show_refused : {r : Refusal} → Checked rule t (Err r) → show_of rule t x y ≡ not_shown (Err r)
  show_refused (short e) = show_1 e
  show_refused (damaged f e) = show_2 f e
