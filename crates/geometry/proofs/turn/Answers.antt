-- `geometry::turn` meets its contract: four differences, each with the bound that its ends give it.
use mathlib.Core.Path.{refl}
use lib.Dec.{lit<}
use lib.IntN.{sub_ℕ}
use mir.Syntax.{w32}
use mir.Val.{of_z}
use Rattle.algebra.specs.Machine.{Holds, sub_fits, sub_holds, mul_fits, mul_holds}
use Rattle.definitions.specs.Shape.{turn}
use Rattle.geometry.specs.Bits.{nearer, exact}
use Rattle.geometry.specs.Range.{ends_x, ends_y, corner_x, corner_y}
use Rattle.geometry.proofs.turn.Goals as goal
use Rattle.geometry.proofs.turn.Goals.{After-apart-4}

module _ (c : After-apart-4) where
  first : Holds w32 (of_z w32 c.apart.result) (sub_ℕ c.args.b.x.0 c.args.a.x.0) 32766
  first = nearer c.apart.type_inv c.apart.ensures (ends_x c.requires.0 c.requires.1)

  second : Holds w32 (of_z w32 c.apart-2.result) (sub_ℕ c.args.c.y.0 c.args.a.y.0) 32767
  second = nearer c.apart-2.type_inv c.apart-2.ensures (corner_y c.requires.0 c.requires.2)

  third : Holds w32 (of_z w32 c.apart-3.result) (sub_ℕ c.args.b.y.0 c.args.a.y.0) 32766
  third = nearer c.apart-3.type_inv c.apart-3.ensures (ends_y c.requires.0 c.requires.1)

  fourth : Holds w32 (of_z w32 c.apart-4.result) (sub_ℕ c.args.c.x.0 c.args.a.x.0) 32767
  fourth = nearer c.apart-4.type_inv c.apart-4.ensures (corner_x c.requires.0 c.requires.2)

pub overflow_mul-result : goal.overflow_mul-result
overflow_mul-result c =
    mul_fits (nearer c.apart.type_inv c.apart.ensures (ends_x c.requires.0 c.requires.1)) (nearer c.apart-2.type_inv c.apart-2.ensures (corner_y c.requires.0 c.requires.2)) (lit< tt)

pub overflow_mul-result-2 : goal.overflow_mul-result-2
overflow_mul-result-2 c = mul_fits (third c) (fourth c) (lit< tt)

pub overflow_sub-result : goal.overflow_sub-result
overflow_sub-result c = sub_fits (mul_holds (first c) (second c) (lit< tt)) (mul_holds (third c) (fourth c) (lit< tt)) (lit< tt)

pub returns : goal.returns
unfolding turn
returns c = exact (sub_holds (mul_holds (first c) (second c) (lit< tt)) (mul_holds (third c) (fourth c) (lit< tt)) (lit< tt)) refl
