-- `geometry::steps_of` meets its contract: each number as the integer it holds.
use mathlib.Core.Path.{◌≡◌, refl, sym}
use Prim.Native.Nat.{ℕ, ◌+◌, ◌≤◌, ◌<◌, ◌^◌}
use native.Mathlib.Nat.{le_trans}
use native.Mathlib.Omega.{arith}
use lib.Dec.{lit<}
use lib.IntN.{ℤ, pos, sub_ℕ, ◌+ℤ◌, ◌-ℤ◌, ◌*ℤ◌}
use lib.Signed.{mag}
use mir.Syntax.{w32}
use mir.Val.{of_z, to_z}
use Rattle.algebra.specs.Machine.{Holds, sub_fits, sub_holds, mul_fits, mul_holds, add_fits, add_holds}
use Rattle.geometry.specs.Bits.{called, nearer, exact}
use Rattle.geometry.specs.Parts.{over_of, under_of, over_most, less}
use Rattle.geometry.specs.Range.{ends_x, ends_y}
use Rattle.geometry.specs.Sons.{up_of, left_on}
use Rattle.geometry.proofs.steps_of.Goals as goal
use Rattle.geometry.proofs.steps_of.Goals.{After-apart, After-apart-2, After-above-2}

-- what above gives
above_holds : {v : ℕ} {z : ℤ} {b : ℕ} → Holds w32 v z b → {r : ℤ} → mag r < 2 ^ 31 → r ≡ pos (over_of (to_z w32 v)) → Holds w32 (of_z w32 r) (pos (over_of z)) b
above_holds {z = z} h ok e = called ok (record { value = rw h.value at e; within = le_trans (over_most z) h.within })

-- a number that is known by another name
named : {v : ℕ} {y z : ℤ} {b : ℕ} → Holds w32 v y b → y ≡ z → Holds w32 v z b
named h e = rw (sym e) h

-- h as a signed number
step_as : {h : ℕ} {r : ℤ} → mag r < 2 ^ 31 → r ≡ pos h → h ≤ 16384 → Holds w32 (of_z w32 r) (pos h) 16384
step_as ok e h = called ok (record { value = e; within = h })

-- how far the line runs east, and how far it rises
run_holds : (b : After-apart) → Holds w32 (of_z w32 b.apart.result) (sub_ℕ b.args.l.b.x.0 b.args.l.a.x.0) 32766
run_holds b = nearer b.apart.type_inv b.apart.ensures (ends_x b.requires.0.first b.requires.0.second)

climb_holds : (b : After-apart-2) → Holds w32 (of_z w32 b.apart-2.result) (sub_ℕ b.args.l.b.y.0 b.args.l.a.y.0) 32766
climb_holds b = nearer b.apart-2.type_inv b.apart-2.ensures (ends_y b.requires.0.first b.requires.0.second)

pub overflow_mul-up : goal.overflow_mul-up
overflow_mul-up c = mul_fits (run_holds c) (step_as c.from-step.type_inv c.from-step.ensures c.requires.1) (lit< tt)

pub overflow_mul-left : goal.overflow_mul-left
overflow_mul-left c = mul_fits (climb_holds c) (step_as c.from-step.type_inv c.from-step.ensures c.requires.1) (lit< tt)

module _ (b : After-above-2) where
  step_holds : Holds w32 (of_z w32 b.from-step.result) (pos b.args.h) 16384
  step_holds = step_as b.from-step.type_inv b.from-step.ensures b.requires.1

  abbrev up : ℤ
  up = up_of b.args.l.a b.args.l.b b.args.h

  abbrev left : ℤ
  left = left_on b.args.l.a b.args.l.b b.args.h

  abbrev upᴮ : ℕ
  upᴮ = of_z w32 (to_z w32 (of_z w32 b.apart.result) *ℤ to_z w32 (of_z w32 b.from-step.result))

  abbrev leftᴮ : ℕ
  leftᴮ = of_z w32 (to_z w32 (of_z w32 b.apart-2.result) *ℤ to_z w32 (of_z w32 b.from-step.result))

  up_holds : Holds w32 upᴮ up 536838144
  up_holds = mul_holds (nearer b.apart.type_inv b.apart.ensures (ends_x b.requires.0.first b.requires.0.second)) step_holds (lit< tt)

  left_holds : Holds w32 leftᴮ left 536838144
  left_holds = mul_holds (nearer b.apart-2.type_inv b.apart-2.ensures (ends_y b.requires.0.first b.requires.0.second)) step_holds (lit< tt)

  abbrev n : ℕ
  n = over_of up

  abbrev s : ℕ
  s = under_of up

  abbrev w : ℕ
  w = over_of left

  abbrev e : ℕ
  e = under_of left

  abbrev riseᴮ : ℕ
  riseᴮ = of_z w32 (to_z w32 (of_z w32 b.above.result) +ℤ to_z w32 (of_z w32 b.above-2.result))

  abbrev gainᴮ : ℕ
  gainᴮ = of_z w32 (to_z w32 riseᴮ -ℤ to_z w32 leftᴮ)

  n_holds : Holds w32 (of_z w32 b.above.result) (pos n) 536838144
  n_holds = above_holds up_holds b.above.type_inv b.above.ensures

  w_holds : Holds w32 (of_z w32 b.above-2.result) (pos w) 536838144
  w_holds = above_holds left_holds b.above-2.type_inv b.above-2.ensures

  rise_is : Holds w32 riseᴮ (pos (n + w)) 1073676288
  rise_is = add_holds n_holds w_holds (lit< tt)

  gain_is : Holds w32 gainᴮ (pos (n + e)) 1610514432
  gain_is = named (sub_holds rise_is left_holds (lit< tt)) (less left (n + w) (n + e) (omega arith))

  loss_is : Holds w32 (of_z w32 (to_z w32 riseᴮ -ℤ to_z w32 upᴮ)) (pos (s + w)) 1610514432
  loss_is = named (sub_holds rise_is up_holds (lit< tt)) (less up (n + w) (s + w) (omega arith))

  fall_is : Holds w32 (of_z w32 (to_z w32 gainᴮ -ℤ to_z w32 upᴮ)) (pos (s + e)) 2147352576
  fall_is = named (sub_holds gain_is up_holds (lit< tt)) (less up (n + e) (s + e) (omega arith))

pub overflow_add-rise : goal.overflow_add-rise
overflow_add-rise c = add_fits (n_holds c) (w_holds c) (lit< tt)

pub overflow_sub-gain : goal.overflow_sub-gain
overflow_sub-gain c = sub_fits (rise_is c) (left_holds c) (lit< tt)

pub overflow_sub-loss : goal.overflow_sub-loss
overflow_sub-loss c = sub_fits (rise_is c) (up_holds c) (lit< tt)

pub overflow_sub-fall : goal.overflow_sub-fall
overflow_sub-fall c = sub_fits (gain_is c) (up_holds c) (lit< tt)

pub returns : goal.returns
returns c = record { rise_is = exact (rise_is c) refl; gain_is = exact (gain_is c) refl; loss_is = exact (loss_is c) refl; fall_is = exact (fall_is c) refl }
