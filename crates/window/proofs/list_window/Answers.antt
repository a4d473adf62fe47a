-- `window::list_window` meets its contract. No map has more than 1,024 live slots, so what is found has room.
use mathlib.Core.Path.{◌≡◌, subst}
use mathlib.Core.List.{List}
use Prim.Native.Nat.{ℕ}
use native.Mathlib.Omega.{arith}
use lib.ListN.{length-take}
use borrow.Author.Rules.{rules}
use Rattle.definitions.specs.Shape.{Area}
use Rattle.definitions.specs.Window.{slots_in}
use Rattle.tables.specs.Gathered.{Front, front_fits}
use Rattle.window.specs.Listed.{list_short, list_filled}
use Rattle.window.proofs.list_window.Goals as goal

found_in : (lines : List ℕ) {before found : List ℕ} {n : ℕ} {k j : Area} → k ≡ j → Front (slots_in lines k) before found n → Front (slots_in lines j) before found n
found_in lines {before} {found} {n} e = subst (λ (z : Area). Front (slots_in lines z) before found n) e

pub seen_slots-n-requires : goal.seen_slots-n-requires
seen_slots-n-requires c = (search rules, search rules, search rules)

pub returns-then-slots-n : goal.returns-then-slots-n
returns-then-slots-n c = list_short (found_in _ c.area_in.ensures c.seen_slots-n.ensures) _ c.if-slots-n.true

pub slice_bounds-found-end : goal.slice_bounds-found-end
slice_bounds-found-end c = omega (arith, front_fits c.seen_slots-n.ensures, c.seen_slots-n.auto.to)

pub slice_bounds-copy-end : goal.slice_bounds-copy-end
slice_bounds-copy-end c = simp length-take (omega (arith, front_fits c.seen_slots-n.ensures))

pub copy-requires : goal.copy-requires
copy-requires c = simp length-take (omega (arith, c.if-slots-n.false))

pub overflow_cast-result : goal.overflow_cast-result
overflow_cast-result c = record { fits = omega (arith, front_fits c.seen_slots-n.ensures, c.seen_slots-n.auto.to) }

pub returns : goal.returns
returns c =
    list_filled (found_in _ c.area_in.ensures c.seen_slots-n.ensures) _ c.if-slots-n.false c.copy.ensures
