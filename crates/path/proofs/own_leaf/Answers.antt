use mathlib.Core.Path.{refl, ◌∙◌}
use native.Mathlib.Omega.{arith}
use Rattle.path.specs.Placed.{placed_there}
use Rattle.path.proofs.Steps.{divided, held_top, enters, held_in, in_less}
use Rattle.path.proofs.own_leaf.Goals as goal

pub loop-node-init : goal.loop-node-init
loop-node-init c = (record { held = λ h. held_top h c.requires.point refl c.whole_map.ensures refl }, refl, refl)

pub offset_bounds-nodes-node : goal.offset_bounds-nodes-node
offset_bounds-nodes-node c = let q = (c.loop-node.invariant.0.held c.requires.chart).placed in omega (arith, placed_there q, q.chart.map.few_nodes, c.loop-node.invariant.2)

pub bounds-nodes-node : goal.bounds-nodes-node
bounds-nodes-node c = omega (arith, placed_there (c.loop-node.invariant.0.held c.requires.chart).placed, c.loop-node.invariant.2)

pub go_in-at-requires : goal.go_in-at-requires
go_in-at-requires c = enters (c.loop-node.invariant.0.held c.requires.chart) (divided c.args.nodes.now c.loop-node.invariant.2 c.loop-node-test.true) (c.loop-node.invariant.1 ∙ c.requires.room)

pub loop-node-smaller : goal.loop-node-smaller
loop-node-smaller c = in_less (c.loop-node.invariant.0.held c.requires.chart) (divided c.args.nodes.now c.loop-node.invariant.2 c.loop-node-test.true) c.go_in-at.ensures

pub loop-node-preserved : goal.loop-node-preserved
loop-node-preserved c = let l = c.loop-node.invariant in (record { held = λ h. held_in (l.0.held h) (divided c.args.nodes.now c.loop-node.invariant.2 c.loop-node-test.true) c.go_in-at.ensures }, c.go_in-at.auto.path ∙ l.1, refl)
