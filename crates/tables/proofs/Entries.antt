-- A slot's eight entries put back into the line table.
use mathlib.Core.Path.{◌≡◌, sym, ap, ◌∙◌}
use mathlib.Core.List.{List, ◌++◌, append_assoc}
use Prim.Native.Nat.{ℕ, ◌+◌, ◌-◌, ◌*◌, ◌≤◌}
use native.Mathlib.Omega.{arith}
use lib.ListN.{length, take, drop}
use borrow.Rule.Slice.PartMut.{put_mid, Post-is}
use Rattle.definitions.specs.Calls.{with_slot}

pub part_put : (lines : List ℕ) (s : ℕ) (new : List ℕ) → 8 * s + 8 ≤ length lines → put_mid (8 * s) (8 * s + 8 - 8 * s) lines new ≡ with_slot lines s new
unfolding with_slot
part_put lines s new h =
    ap (λ (z : List ℕ). take (8 * s) lines ++ (new ++ z)) (Post-is (8 * s) (8 * s + 8) lines (omega arith)) ∙ sym (append_assoc (take (8 * s) lines) new (drop (8 * s + 8) lines))
