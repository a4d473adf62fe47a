-- `leaves::mean_end` meets its contract. The invariant: what is summed up and what is left make the whole sum.
use Rattle.leaves.specs.Parting.{far_at}
use Rattle.leaves.proofs.Parting.{Summed}
use Rattle.leaves.proofs.mean_end.Given as goal

abbrev pub invariant-loop-s : goal.invariant-loop-s
invariant-loop-s l = Summed (λ s. (far_at l.lines l.v s).x.0) l.slots l.x l.s-index × Summed (λ s. (far_at l.lines l.v s).y.0) l.slots l.y l.s-index
