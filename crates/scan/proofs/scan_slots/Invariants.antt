-- `scan::scan_slots` meets its contract. The invariant: the slots that are left, after the best line so far, tell the same as all slots.
use Rattle.scan.proofs.Scans.{Onward}
use Rattle.scan.proofs.scan_slots.Given as goal

abbrev pub invariant-loop-s : goal.invariant-loop-s
invariant-loop-s l = Onward l.lines l.fn.slots l.south l.p l.initial.best l.best l.s-index
