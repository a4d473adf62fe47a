use Rattle.std.proofs.Common.{arith}
use Rattle.lookup.proofs.Answering.{answered_turn, answered_end}
use Rattle.lookup.proofs.Map.answer_each.Goals as goal

pub loop-at-preserved : goal.loop-at-preserved
loop-at-preserved c = answered_turn _ _ c.loop-at.answers c.loop-at.at (omega arith) (omega (arith, c.requires.1)) c.answer_to.ensures c.loop-at.invariant

pub returns : goal.returns
returns c = answered_end _ _ c.loop-at.answers c.loop-at.at (omega arith) (omega (arith, c.requires.1)) c.loop-at.invariant
