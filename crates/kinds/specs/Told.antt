-- How the code tells the kind of a conflict.
use Rattle.std.specs.Prelude.{◌≡◌, refl, Bool, true, false}
use Rattle.std.proofs.Math.Path.{sym, ap₂}
use Rattle.std.proofs.Common.{◌∙◌}
use Rattle.std.proofs.Math.Bool.{◌&&◌}
use Rattle.algebra.specs.Words.{is_zero}
use Rattle.definitions.specs.Shape.{Line, turn, is_end, parts, left_of, right_of, in_line_of, kind_of}
use Rattle.definitions.specs.declared.Kind.TheVariants.{Crossing, Touching, Overlap, Same}
use Rattle.geometry.specs.Means.{both_apart}

parts_is : (l m : Line) → both_apart (turn l.a l.b m.a) (turn l.a l.b m.b) ≡ parts l m
unfolding both_apart parts left_of right_of
parts_is l m = refl

module _ (l m : Line) where
  pub told_same : is_end l.a m && is_end l.b m ≡ true → Same ≡ kind_of l m
  unfolding kind_of
  told_same e = sym (rw e refl)

  module _ (n : is_end l.a m && is_end l.b m ≡ false) {z w : Bool} (ez : is_zero (turn l.a l.b m.a) ≡ z) (ew : is_zero (turn l.a l.b m.b) ≡ w) where
    in_line : in_line_of l m ≡ z && w
    unfolding in_line_of
    in_line = ap₂ ◌&&◌ ez ew

    pub told_overlap : z && w ≡ true → Overlap ≡ kind_of l m
    unfolding kind_of
    told_overlap e = sym (rw (n, in_line ∙ e) refl)

    module _ (i : z && w ≡ false) {p q : Bool} (ep : both_apart (turn l.a l.b m.a) (turn l.a l.b m.b) ≡ p) (eq : both_apart (turn m.a m.b l.a) (turn m.a m.b l.b) ≡ q) where
      both_part : parts l m && parts m l ≡ p && q
      both_part = ap₂ ◌&&◌ (sym (parts_is l m) ∙ ep) (sym (parts_is m l) ∙ eq)

      pub told_crossing : p && q ≡ true → Crossing ≡ kind_of l m
      unfolding kind_of
      told_crossing e = sym (rw (n, in_line ∙ i, both_part ∙ e) refl)

      pub told_touching : p && q ≡ false → Touching ≡ kind_of l m
      unfolding kind_of
      told_touching e = sym (rw (n, in_line ∙ i, both_part ∙ e) refl)
