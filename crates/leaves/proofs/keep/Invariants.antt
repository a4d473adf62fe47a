-- `leaves::keep` meets its contract. The invariant: those of the slots read that pass stand at the front.
use Rattle.leaves.specs.Sides.{on_side}
use Rattle.leaves.proofs.Fan.{Laid}
use Rattle.leaves.proofs.keep.Given as goal

abbrev pub invariant-loop-s : goal.invariant-loop-s
invariant-loop-s l = Laid (on_side l.lines l.v l.w l.side) l.slots l.initial.kept l.kept l.n l.s-index
