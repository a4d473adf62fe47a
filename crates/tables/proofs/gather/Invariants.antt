use Rattle.std.proofs.Common.{ℕ, Bool, ◌≤◌}
use Rattle.tables.specs.Rows.{Tells}
use Rattle.tables.specs.Gathered.{Laid}
use Rattle.tables.proofs.gather.Given as goal

abbrev pub invariant-loop-s : goal.invariant-loop-s
invariant-loop-s g l = (l.count ≤ l.s) × ((p : ℕ → Bool) → Tells (goal.F-post g l.test) l.lines p → Laid p l.initial.to l.to l.count l.s)
