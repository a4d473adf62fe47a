-- `leaves::leaf_conflicts` meets its contract: a fan is tested as one, any other leaf by its pairs.
use Prim.Native.Nat.{◌<◌}
use lib.ListN.{length}
use mathlib.Core.Path.{sym, ◌∙◌}
use native.Mathlib.Omega.{arith}
use Rattle.leaves.proofs.Turns.{good_at}
use Rattle.leaves.proofs.Fan.{not_few, not_long}
use Rattle.tables.specs.Rows.{line_ends}
use Rattle.leaves.proofs.leaf_conflicts.Goals as goal

pub line_at-l-requires : goal.line_at-l-requires
line_at-l-requires c =
    let h : 0 < length c.args.slots.now = omega (arith, not_few) in
    (good_at c.requires h).on_map

pub fan_conflicts-requires : goal.fan_conflicts-requires
fan_conflicts-requires c = let h : 0 < length c.args.slots.now = omega (arith, not_few) in
    record { good = c.requires; ends = sym c.all_end_at.ensures ∙ c.if-all_end_at.true; hub = (line_ends (good_at c.requires h).on_map c.line_at-l.ensures).first; few = omega (arith, not_long) }

pub fan_conflicts-requires-then-all_end_at-2 : goal.fan_conflicts-requires-then-all_end_at-2
fan_conflicts-requires-then-all_end_at-2 c = let h : 0 < length c.args.slots.now = omega (arith, not_few) in
    record { good = c.requires; ends = sym c.all_end_at-2.ensures ∙ c.if-all_end_at-2.true; hub = (line_ends (good_at c.requires h).on_map c.line_at-l.ensures).second; few = omega (arith, not_long) }
