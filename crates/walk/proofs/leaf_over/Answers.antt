use mathlib.Core.Path.{◌≡◌, refl, ap}
use Prim.Native.Nat.{◌+◌, ◌/◌, ◌<◌}
use native.Mathlib.Omega.{arith}
use Rattle.definitions.specs.Lookup.{leaf_at}
use Rattle.definitions.specs.Tree.{Tree}
use Rattle.definitions.specs.Shape.{whole_map}
use Rattle.walk.specs.Placing.{there, leaf_within}
use Rattle.walk.specs.Index.{Standing, Indexed}
use Rattle.walk.proofs.Descent.{Reached, son_within, descend, arrive}
use Rattle.walk.proofs.leaf_over.Goals as goal
use Rattle.walk.proofs.leaf_over.Goals.{After-from-node}

pub loop-node-init : goal.loop-node-init
loop-node-init c = (λ t h i. record { tree = t; first = 0; standing = h; indexed = i; same = refl }, there c.requires.walkable.standing, omega arith, omega arith)

pub offset_bounds-index-entry : goal.offset_bounds-index-entry
offset_bounds-index-entry c = omega (arith, (son_within c.son_over-son.ensures).0)

pub bounds-index-entry : goal.bounds-index-entry
bounds-index-entry c = omega (arith, (son_within c.son_over-son.ensures).0)

-- a turn leads to a later node
step : (c : After-from-node) (t : Tree) →
    let a = c.args in
    let l = c.loop-node in
    let son = c.son_over-son.result in
    Standing a.nodes.now t 0 0 → Indexed a.index.now t 0 0 →
    (l.node < c.from-node.result) × Reached a.nodes.now a.index.now a.p (leaf_at a.p t whole_map 0) c.from-node.result son.west son.south (l.side / 2)
step c t h i =
    rw c.from-node.ensures (descend c.loop-node.side (c.loop-node.invariant.0 t h i) c.loop-node-test.true c.son_over-son.ensures)

pub loop-node-smaller : goal.loop-node-smaller
loop-node-smaller c = let w = c.requires in omega (arith, (step c w.walkable.tree w.walkable.standing w.indexed).0)

pub loop-node-preserved : goal.loop-node-preserved
loop-node-preserved c = let w = c.requires in let b = son_within c.son_over-son.ensures in (λ t h i. (step c t h i).1, there (step c w.walkable.tree w.walkable.standing w.indexed).1.standing, omega (arith, b.1), omega (arith, b.2))

pub returns : goal.returns
returns c = λ t h i.
    let a = c.args in
    let e : record { place = record { west = c.loop-node.west; south = c.loop-node.south; side = c.loop-node.side }; first = c.from.result; lists = c.from-2.result } ≡ leaf_at a.p t whole_map 0 =
    rw (c.from.ensures, c.from-2.ensures) (arrive (c.loop-node.invariant.0 t h i) c.loop-node-test.false) in
    record { leaf_is = e; within = omega (arith, leaf_within a.p t whole_map 0, ap (λ x. x.first + x.lists) e) }
