use mathlib.Core.Path.{refl, ◌∙◌}
use native.Mathlib.Omega.{arith}
use Rattle.path.specs.Placed.{placed_there}
use Rattle.path.proofs.Steps.{divided}
use Rattle.column.proofs.Column.{came_on, walking_on, less}
use Rattle.column.proofs.go_down.Goals as goal

pub bounds-nodes-node : goal.bounds-nodes-node
bounds-nodes-node c = omega (arith, placed_there c.loop-node.invariant.1.column.placed, c.loop-node.invariant.2)

pub loop-node-smaller : goal.loop-node-smaller
loop-node-smaller c = less c.loop-node.invariant.1.column (divided c.args.nodes.now c.loop-node.invariant.2 c.loop-node-test.true) c.go_on-at.ensures

pub loop-node-preserved : goal.loop-node-preserved
loop-node-preserved c = let l = c.loop-node.invariant in (came_on l.0 l.1 (divided c.args.nodes.now c.loop-node.invariant.2 c.loop-node-test.true) c.go_on-at.ensures, walking_on l.1 c.go_on-at.auto.later (divided c.args.nodes.now c.loop-node.invariant.2 c.loop-node-test.true) c.go_on-at.ensures, refl, c.go_on-at.auto.later ∙ l.3)
