-- Turns that are asked for are small: at most two products of the differences of ends and corners.
use Rattle.std.specs.Prelude.{◌*◌, ◌≤◌, nat_abs, ◌*ℤ◌}
use Rattle.std.proofs.Math.IntN.{sub_ℕ}
use Rattle.algebra.specs.Size.{abs_sub_le, abs_mul_le}
use Rattle.definitions.specs.declared.Point.{Point}
use Rattle.definitions.specs.Shape.{turn}
use Rattle.geometry.specs.Range.{End, EndOrCorner, ends_x, ends_y, corner_x, corner_y}

pub turn_within : {a b c : Point} → End a → End b → EndOrCorner c → nat_abs (turn a b c) ≤ 2 * 32767 * 32766
unfolding turn
turn_within {a} {b} {c} e f g =
    let bx_ax = sub_ℕ b.x.0 a.x.0 in
    let cy_ay = sub_ℕ c.y.0 a.y.0 in
    let by_ay = sub_ℕ b.y.0 a.y.0 in
    let cx_ax = sub_ℕ c.x.0 a.x.0 in
    abs_sub_le (bx_ax *ℤ cy_ay) (by_ay *ℤ cx_ax) 1073643522 1073643522 (abs_mul_le bx_ax cy_ay 32766 32767 (ends_x e f) (corner_y e g)) (abs_mul_le by_ay cx_ax 32766 32767 (ends_y e f) (corner_x e g))
