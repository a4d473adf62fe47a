use Rattle.std.proofs.Common.{◌≡◌, take}
use Rattle.algebra.specs.Words.{over}
use Rattle.tables.proofs.copy.Given as goal

abbrev pub invariant-loop-i : goal.invariant-loop-i
invariant-loop-i l = l.to ≡ over 0 (take l.i l.from) l.initial.to
