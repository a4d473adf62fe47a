use native.Mathlib.Omega.{arith}
use lib.Seq.{take_all}
use Rattle.tables.proofs.Loops.{same_pointwise}
use Rattle.tables.proofs.same.Goals as goal

-- all of each is compared
pub returns : goal.returns
returns c = search (c.eq.ensures, same_pointwise, take_all, arith)
