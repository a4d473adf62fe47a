use Rattle.geometry.specs.Means.{block_of}
use Rattle.candidates.proofs.Spreading.{Turned}
use Rattle.candidates.proofs.spread.Given as goal

abbrev pub invariant-loop-i : goal.invariant-loop-i
invariant-loop-i l = Turned l.lines (block_of l.k) l.fn.c.from l.fn.c.to l.fn.c.free l.n l.initial.slots l.slots l.nw l.ne l.sw l.se l.i
