use Rattle.std.proofs.Common.{refl, zero-add}
use Rattle.algebra.specs.Words.{over}
use Rattle.algebra.specs.Lists.{over_turn}
use Rattle.tables.proofs.copy.Goals as goal

pub loop-i-init : goal.loop-i-init
unfolding over
loop-i-init c = refl

pub loop-i-preserved : goal.loop-i-preserved
loop-i-preserved c = rw zero-add at (over_turn c.args.from.now c.args.to.now c.loop-i.to 0 c.loop-i.i c.loop-i-test.true c.loop-i.invariant)
