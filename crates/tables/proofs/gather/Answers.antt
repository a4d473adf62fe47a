use Rattle.std.proofs.Common.{refl, ◌∙◌, sym, arith, rules}
use Rattle.algebra.specs.Words.{those, up_from, over}
use Rattle.definitions.specs.Tables.{slots_of}
use Rattle.tables.specs.Gathered.{laid_in, laid_out, laid_all}
use Rattle.tables.proofs.gather.Goals as goal
use Rattle.tables.proofs.gather.Goals.{then-test, else-test}

pub loop-s-init : goal.loop-s-init
unfolding those up_from over
loop-s-init g c = (search rules, λ p t. record { few = search rules; count = refl; laid = refl })

pub loop-s-preserved : goal.loop-s-preserved
loop-s-preserved g c =
    elim c.if-test.branch [
      | then-test w ↦ (
        omega arith,
        λ p t. rw (w.to-is, w.count-is) (laid_in p _ _ _ _ (c.loop-s.invariant.1 p t) (sym (t _ _ _ c.loop-s-test.true c.row_at.ensures c.test.ensures) ∙ w.if-test.true)),
      )
      | else-test w ↦ (
        omega arith,
        λ p t. rw (w.to-is, w.count-is) (laid_out p _ _ _ _ (c.loop-s.invariant.1 p t) (sym (t _ _ _ c.loop-s-test.true c.row_at.ensures c.test.ensures) ∙ w.if-test.false)),
      )
    ]

pub returns : goal.returns
unfolding slots_of
returns g c = λ p t. laid_all _ _ _ _ _ (c.loop-s.invariant.1 p t) _ (omega arith) (omega arith)
