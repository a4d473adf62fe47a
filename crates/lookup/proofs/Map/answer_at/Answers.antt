use Rattle.std.proofs.Common.{arith, ◌∙◌}
use Rattle.lookup.proofs.Found.{turn_at, pass, none_found}
use Rattle.lookup.proofs.Map.answer_at.Goals as goal

pub loop-south-preserved : goal.loop-south-preserved
loop-south-preserved c = record { passed = pass c.loop-south.south-index (omega arith) c.ask.ensures.found c.in_default.is c.loop-south.invariant.passed; kept = c.ask.ensures.kept ∙ c.loop-south.invariant.kept }

pub returns-in-Some : goal.returns-in-Some
returns-in-Some c = c.ask.ensures.found.answers c.in-Some.is (turn_at c.loop-south.south-index c.loop-south.invariant.passed)

pub returns : goal.returns
returns c = none_found c.loop-south.south-index c.requires.0.chart.map.sound.apart (omega arith) c.loop-south.invariant.passed
