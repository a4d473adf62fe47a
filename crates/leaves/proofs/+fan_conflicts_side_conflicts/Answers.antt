-- `leaves::fan_conflicts` and `leaves::side_conflicts` meet their contracts.
use native.Mathlib.Omega.{arith}
use Rattle.leaves.proofs.Parting.{pivot_end}
use Rattle.leaves.proofs.Fan.{not_few, not_none, first_side, second_side, kept_fan}
use Rattle.leaves.proofs.+fan_conflicts_side_conflicts.Goals as goal

pub fan_conflicts-side_conflicts-requires : goal.fan_conflicts-side_conflicts-requires
fan_conflicts-side_conflicts-requires t c = (omega (arith, not_none), (c.requires, rw c.pivot-w.ensures (pivot_end _ _ c.requires.good (omega (arith, not_few)))))

pub fan_conflicts-returns-then-side_conflicts : goal.fan_conflicts-returns-then-side_conflicts
fan_conflicts-returns-then-side_conflicts t c = first_side c.requires c.pivot-w.result c.side_conflicts.ensures c.if-side_conflicts.true

pub fan_conflicts-side_conflicts-requires-2 : goal.fan_conflicts-side_conflicts-requires-2
fan_conflicts-side_conflicts-requires-2 t c = (omega (arith, not_none), (c.requires, rw c.pivot-w.ensures (pivot_end _ _ c.requires.good (omega (arith, not_few)))))

pub fan_conflicts-returns : goal.fan_conflicts-returns
fan_conflicts-returns t c = second_side c.requires c.pivot-w.result c.side_conflicts.ensures c.if-side_conflicts.false c.side_conflicts-2.ensures

pub side_conflicts-fan_conflicts-requires : goal.side_conflicts-fan_conflicts-requires
side_conflicts-fan_conflicts-requires t c = (omega arith, kept_fan c.keep-n.ensures c.requires.0)
