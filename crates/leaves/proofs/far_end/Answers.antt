-- `leaves::far_end` meets its contract.
use Rattle.leaves.proofs.Parting.{far_end_is}
use Rattle.leaves.proofs.far_end.Goals as goal

pub returns-then-same_point : goal.returns-then-same_point
returns-then-same_point c = far_end_is c.args.v c.args.l c.same_point.ensures c.if-same_point.true

pub returns : goal.returns
returns c = far_end_is c.args.v c.args.l c.same_point.ensures c.if-same_point.false
