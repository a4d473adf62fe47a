use Rattle.std.proofs.Common.{ℕ, Bool, ◌/◌, length}
use Rattle.tables.specs.Rows.{Tells}
use Rattle.tables.specs.Slots.{Onward}
use Rattle.tables.proofs.first_slot.Given as goal

abbrev pub invariant-loop-s : goal.invariant-loop-s
invariant-loop-s g l = (p : ℕ → Bool) → Tells (goal.F-post g l.test) l.lines p → Onward p (length l.lines / 8) l.s
