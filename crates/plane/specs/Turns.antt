-- The turn as a difference of two sums of products of ℕ, and the order of two lines by turns of ends alone.
use Rattle.std.specs.Prelude.{Bool, ◌&&◌, ◌||◌, ℕ, ◌+◌, ◌*◌, leb, if◌then◌else◌}
use Rattle.std.proofs.Common.{arith}
use Rattle.algebra.specs.Words.{is_positive, is_negative, is_zero}
use Rattle.algebra.specs.Signs.{Is, sub_is, add_is, neg_is, mul_is, shift_is}
use Rattle.definitions.specs.declared.Point.{Point}
use Rattle.definitions.specs.Shape.{Line, turn}
use Rattle.definitions.specs.Lookup.{west_end, east_end}

-- the two sums whose difference is the turn
abbrev pub lefts : Point → Point → Point → ℕ
lefts a b c = b.x.0 * c.y.0 + a.y.0 * c.x.0 + b.y.0 * a.x.0

abbrev pub rights : Point → Point → Point → ℕ
rights a b c = b.x.0 * a.y.0 + a.x.0 * c.y.0 + b.y.0 * c.x.0

pub turn_is : (a b c : Point) → Is (turn a b c) (lefts a b c) (rights a b c)
unfolding turn
turn_is a b c =
    shift_is
    (add_is (mul_is (sub_is b.x.0 a.x.0) (sub_is c.y.0 a.y.0))
    (neg_is (mul_is (sub_is b.y.0 a.y.0) (sub_is c.x.0 a.x.0))))
    (omega arith)

-- of two lines over one x, which is higher, or as high and rises more steeply: by turns alone
unfoldable pub higher_by_turns : Line → Line → Bool
higher_by_turns l m =
    if leb (west_end m).x.0 (west_end l).x.0 then
    is_positive (turn (west_end m) (east_end m) (west_end l))
    || is_zero (turn (west_end m) (east_end m) (west_end l)) && is_positive (turn (west_end m) (east_end m) (east_end l))
    else is_negative (turn (west_end l) (east_end l) (west_end m))
