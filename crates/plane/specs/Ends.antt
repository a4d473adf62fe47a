-- Points against points and lines: what the tests say, with a point as a spot.
use Rattle.std.specs.Prelude.{◌≡◌, refl, ◌↔◌, ◌⊎◌, true, ◌≤◌, ◌<◌}
use Rattle.std.proofs.Common.{sym, ◌∙◌, arith, eqb-true, eq-eqb}
use Rattle.std.proofs.Math.Logic.Iff
use Rattle.std.proofs.Math.Logic.{⊎_map}
use Rattle.algebra.specs.Tests.{or_cases}
use Rattle.algebra.specs.Words.{is_zero}
use Rattle.algebra.specs.Signs.{zero_is, zero_of_equal}
use Rattle.definitions.specs.declared.Point.{Point}
use Rattle.definitions.specs.Shape.{Line, turn, min_x, max_x, min_y, max_y, same_point, is_end, on, within}
use Rattle.definitions.specs.Meaning.{spot_of, OnLine, AtPoint, AtEnd}
use Rattle.plane.specs.Turns.{lefts, rights, turn_is}
use Rattle.plane.specs.Says.{both, either, unless, le_says, eq_says}
use Rattle.plane.specs.Segments.{turn_at_is, straight_of, Proper, Weighed, weighed_line, no_end}

-- a point of the line, as numbers
pub record OnAt (p : Point) (l : Line) : Type 0 where
  pub even : lefts l.a l.b p ≡ rights l.a l.b p
  pub w : min_x l ≤ p.x.0
  pub e : p.x.0 ≤ max_x l
  pub s : min_y l ≤ p.y.0
  pub n : p.y.0 ≤ max_y l

pub straight_says : (l : Line) (p : Point) → (is_zero (turn l.a l.b p) ≡ true) ↔ (lefts l.a l.b p ≡ rights l.a l.b p)
straight_says l p = let z = zero_is (turn_is l.a l.b p) in (λ e. eqb-true _ _ (sym z ∙ e), λ h. z ∙ eq-eqb _ _ h)

on_at : (p : Point) (l : Line) → (on p l ≡ true) ↔ OnAt p l
unfolding on
on_at p l =
    Iff.trans
    (both (both (straight_says l p) (both (le_says _ _) (le_says _ _))) (both (le_says _ _) (le_says _ _)))
    (λ f. record { even = f.0.0; w = f.0.1.0; e = f.0.1.1; s = f.1.0; n = f.1.1 }, λ o. ((o.even, (o.w, o.e)), (o.s, o.n)))

pub on→ : (p : Point) (l : Line) → on p l ≡ true → OnAt p l
on→ p l = (on_at p l).0

pub on← : (p : Point) (l : Line) → OnAt p l → on p l ≡ true
on← p l = (on_at p l).1

pub spot_on : (p : Point) (l : Line) → OnAt p l → OnLine (spot_of p) l
unfolding spot_of
spot_on p l o =
    record {
      straight = zero_of_equal (turn_at_is l.a l.b (spot_of p)) (omega (arith, o.even));
      from_west = omega (arith, o.w);
      to_east = omega (arith, o.e);
      from_south = omega (arith, o.s);
      to_north = omega (arith, o.n);
    }

pub on_spot : (p : Point) (l : Line) → OnLine (spot_of p) l → OnAt p l
unfolding spot_of
on_spot p l o =
    let e = straight_of o in
    record { even = omega (arith, e); w = omega (arith, o.from_west); e = omega (arith, o.to_east); s = omega (arith, o.from_south); n = omega (arith, o.to_north) }

pub on_says : (p : Point) (l : Line) → (on p l ≡ true) ↔ OnLine (spot_of p) l
on_says p l = Iff.trans (on_at p l) (spot_on p l, on_spot p l)

pub same_says : (p q : Point) → (same_point p q ≡ true) ↔ AtPoint (spot_of p) q
unfolding same_point spot_of
same_says p q =
    Iff.trans (both (eq_says p.x.0 q.x.0) (eq_says p.y.0 q.y.0))
    (λ f. record { same_x = omega (arith, f.0); same_y = omega (arith, f.1) }, λ h. (omega (arith, h.same_x), omega (arith, h.same_y)))

pub same_refl : (p : Point) → same_point p p ≡ true
unfolding same_point
same_refl p = (both (eq_says p.x.0 p.x.0) (eq_says p.y.0 p.y.0)).1 (refl, refl)

pub same_path : (p q : Point) → same_point p q ≡ true → p ≡ q
unfolding same_point
same_path p q e =
    let (ex, ey) = (both (eq_says p.x.0 q.x.0) (eq_says p.y.0 q.y.0)).0 e in
    λ i. record { x = record { 0 = ex i }; y = record { 0 = ey i } }

pub end_cases : (p : Point) (l : Line) → is_end p l ≡ true → (p ≡ l.a) ⊎ (p ≡ l.b)
unfolding is_end
end_cases p l e = ⊎_map (same_path p l.a) (same_path p l.b) (or_cases (same_point p l.a) (same_point p l.b) e)

pub end_says : (p : Point) (l : Line) → (is_end p l ≡ true) ↔ AtEnd (spot_of p) l
unfolding is_end
end_says p l = either (same_says p l.a) (same_says p l.b)

-- a point of the line that is no end of it
abbrev pub Within : Point → Line → Type 0
Within p l = OnLine (spot_of p) l × (AtEnd (spot_of p) l → ⊥)

pub within_says : (p : Point) (l : Line) → (within p l ≡ true) ↔ Within p l
unfolding within
within_says p l = both (on_says p l) (unless (end_says p l))

pub within_by : (p : Point) {l : Line} → Proper l → (w : Weighed (spot_of p) l) → 0 < w.v → 0 < w.u → Within p l
within_by p pr w hv hu = (weighed_line w, no_end w pr hv hu)
