-- `geometry::sons_met` meets its contract: by the law of each son.
use mathlib.Core.Path.{◌≡◌, ◌∙◌, ap}
use mathlib.Core.Bool.{Bool, ◌&&◌}
use Prim.Native.Nat.{ℕ, ◌<◌, ◌^◌}
use native.Mathlib.Nat.{lt_of_le_of_lt}
use native.Mathlib.Omega.{arith}
use lib.Dec.{lit<}
use lib.IntN.{ℤ, pos, neg_ℤ, ◌-ℤ◌, +ℤ_idl}
use lib.Signed.{le_z}
use mir.Syntax.{w32}
use mir.Val.{of_z, to_z}
use mir.ValLaws.{to_z-of_z}
use Rattle.algebra.specs.Machine.{Holds, sub_fits, sub_holds}
use Rattle.algebra.specs.Size.{sfits_abs}
use Rattle.geometry.specs.Bits.{Exact, called, zero_holds}
use Rattle.geometry.specs.Means.{line_of, block_of}
use Rattle.geometry.specs.Parts.{from_to}
use Rattle.geometry.specs.Sons as sons
use Rattle.geometry.proofs.sons_met.Goals as goal

-- a result that is known exactly, where the machine's number has room for it
held : {r z : ℤ} {b : ℕ} → Exact r z b → b < 2 ^ 31 → Holds w32 (of_z w32 r) z b
held {r} e k = record { value = to_z-of_z w32 r (rw e.value (sfits_abs _ (lt_of_le_of_lt e.within k))) ∙ e.value; within = e.within }

from_to_says : {u v x y : ℕ} {z : ℤ} {lo hi a b d e : ℕ} → Holds w32 u z a → Holds w32 v (pos 0 -ℤ z) b → Holds w32 x (pos lo) d → Holds w32 y (pos hi) e → le_z (to_z w32 u) (to_z w32 y) && le_z (to_z w32 v) (to_z w32 x) ≡ from_to lo z hi
unfolding from_to
from_to_says {z = z} h k l m = rw (h.value, k.value, l.value, m.value, +ℤ_idl (neg_ℤ z))

pub turn-c-requires : goal.turn-c-requires
turn-c-requires c = let s = c.requires in (s.ends.first, s.ends.second, record { to_east = omega (arith, s.wide); to_north = omega (arith, s.tall) })

pub overflow_sub-d : goal.overflow_sub-d
overflow_sub-d c = sub_fits zero_holds (called c.turn-c.type_inv c.turn-c.ensures) (lit< tt)

pub steps_of-rise-requires : goal.steps_of-rise-requires
steps_of-rise-requires c = let s = c.requires in (s.ends, omega (arith, s.wide))

under₂ : (p q : Bool) {r s : Bool} → r ≡ s → p && q && r ≡ p && q && s
under₂ p q e = ap (λ t. p && q && t) e

pub returns : goal.returns
returns c =
    let k = block_of c.args.k in
    let l = line_of c.args.l in
    let s = c.steps_of-rise.ensures in
    let t = called c.turn-c.type_inv c.turn-c.ensures in
    let d = sub_holds zero_holds t (lit< tt) in
    let rise = held s.rise_is (lit< tt) in
    let gain = held s.gain_is (lit< tt) in
    let loss = held s.loss_is (lit< tt) in
    let fall = held s.fall_is (lit< tt) in
    record {
      nw = under₂ (sons.west_p k l c.requires) (sons.north_p k l c.requires) (from_to_says t d rise fall) ∙ sons.nw_is k l c.requires;
      ne = under₂ (sons.east_p k l c.requires) (sons.north_p k l c.requires) (from_to_says t d gain loss) ∙ sons.ne_is k l c.requires;
      sw = under₂ (sons.west_p k l c.requires) (sons.south_p k l c.requires) (from_to_says t d loss gain) ∙ sons.sw_is k l c.requires;
      se = under₂ (sons.east_p k l c.requires) (sons.south_p k l c.requires) (from_to_says t d fall rise) ∙ sons.se_is k l c.requires;
    }
