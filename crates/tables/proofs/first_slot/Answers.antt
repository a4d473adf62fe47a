use Rattle.std.proofs.Common.{sym, ◌∙◌}
use Rattle.definitions.specs.Tables.{slots_of}
use Rattle.tables.specs.Slots.{onward_start, onward_next, onward_found, onward_none}
use Rattle.tables.proofs.first_slot.Goals as goal

pub loop-s-init : goal.loop-s-init
loop-s-init g c = λ p t. onward_start p _

pub returns-then-test : goal.returns-then-test
unfolding slots_of
returns-then-test g c =
    λ p t. sym (onward_found p _ _ c.loop-s-test.true (sym (t _ _ _ c.loop-s-test.true c.row_at.ensures c.test.ensures) ∙ c.if-test.true) (c.loop-s.invariant p t))

pub loop-s-preserved : goal.loop-s-preserved
loop-s-preserved g c =
    λ p t. onward_next p _ _ c.loop-s-test.true (sym (t _ _ _ c.loop-s-test.true c.row_at.ensures c.test.ensures) ∙ c.if-test.false) (c.loop-s.invariant p t)

pub returns : goal.returns
unfolding slots_of
returns g c = λ p t. sym (onward_none p _ _ c.loop-s-test.false (c.loop-s.invariant p t))
