-- `walk::son_over` meets its contract: the two tests pick the son.
use borrow.Author.Tests.{ltb-true, ltb-false}
use Rattle.walk.specs.Index.{in_nw, in_ne, in_sw, in_se}
use Rattle.walk.proofs.son_over.Goals as goal

pub returns-in-true-true : goal.returns-in-true-true
returns-in-true-true c = in_sw (ltb-true _ _ c.in-true-true.is-0) (ltb-true _ _ c.in-true-true.is-1)

pub returns-in-true-false : goal.returns-in-true-false
returns-in-true-false c = in_nw (ltb-true _ _ c.in-true-false.is-0) (ltb-false _ _ c.in-true-false.is-1)

pub returns-in-false-true : goal.returns-in-false-true
returns-in-false-true c = in_se (ltb-false _ _ c.in-false-true.is-0) (ltb-true _ _ c.in-false-true.is-1)

pub returns-in-false-false : goal.returns-in-false-false
returns-in-false-false c = in_ne (ltb-false _ _ c.in-false-false.is-0) (ltb-false _ _ c.in-false-false.is-1)
