-- `walk::index_block` and `walk::index_sons` meet their contracts: each son stands past its block.
use mathlib.Core.Path.{refl, ◌∙◌}
use native.Mathlib.Omega.{arith}
use Rattle.walk.specs.Placing.{there}
use Rattle.walk.proofs.Filling.{head, four, next, asked, filled_leaf, filled_four}
use Rattle.walk.proofs.+index_block_index_sons.Goals as goal

pub index_block-bounds-nodes-node : goal.index_block-bounds-nodes-node
index_block-bounds-nodes-node t c = there c.requires.standing

pub index_block-bounds-index-node : goal.index_block-bounds-index-node
index_block-bounds-index-node t c = omega (arith, there c.requires.standing, c.requires.room)

pub index_block-returns-then-count : goal.index_block-returns-then-count
index_block-returns-then-count t c = λ u h. rw c.from.ensures (filled_leaf _ h c.if-count.true (omega (arith, there c.requires.standing, c.requires.room)))

-- the sons that are still to be walked
pub index_sons-index_block-ne-requires : goal.index_sons-index_block-ne-requires
index_sons-index_block-ne-requires t c =
    let w = c.requires.walkable in
    asked _ (four w.standing c.requires.mark).row (c.decreases, c.requires) refl

pub index_sons-index_block-sw-requires : goal.index_sons-index_block-sw-requires
index_sons-index_block-sw-requires t c =
    let w = c.requires.walkable in
    asked _ (next (four w.standing c.requires.mark).row c.index_block-ne.ensures) (c.decreases, c.requires) c.index_block-ne.auto.index

pub index_sons-index_block-se-requires : goal.index_sons-index_block-se-requires
index_sons-index_block-se-requires t c =
    let w = c.requires.walkable in
    let ne = next (four w.standing c.requires.mark).row c.index_block-ne.ensures in
    asked _ (next ne c.index_block-sw.ensures) (c.decreases, c.requires) (c.index_block-sw.auto.index ∙ c.index_block-ne.auto.index)

pub index_sons-index_block-next-requires : goal.index_sons-index_block-next-requires
index_sons-index_block-next-requires t c =
    let w = c.requires.walkable in
    let ne = next (four w.standing c.requires.mark).row c.index_block-ne.ensures in
    let sw = next ne c.index_block-sw.ensures in
    asked _ (next sw c.index_block-se.ensures) (c.decreases, c.requires) (c.index_block-se.auto.index ∙ c.index_block-sw.auto.index ∙ c.index_block-ne.auto.index)

-- the nodes of the four sons fit an entry
pub index_sons-overflow_cast-ne : goal.index_sons-overflow_cast-ne
index_sons-overflow_cast-ne t c =
    let w = c.requires.walkable in
    let ne = next (four w.standing c.requires.mark).row c.index_block-ne.ensures in
    omega (arith, w.few, there (head ne))

pub index_sons-overflow_cast-sw : goal.index_sons-overflow_cast-sw
index_sons-overflow_cast-sw t c =
    let w = c.requires.walkable in
    let ne = next (four w.standing c.requires.mark).row c.index_block-ne.ensures in
    let sw = next ne c.index_block-sw.ensures in
    omega (arith, w.few, there (head sw))

pub index_sons-overflow_cast-se : goal.index_sons-overflow_cast-se
index_sons-overflow_cast-se t c =
    let w = c.requires.walkable in
    let ne = next (four w.standing c.requires.mark).row c.index_block-ne.ensures in
    let sw = next ne c.index_block-sw.ensures in
    let se = next sw c.index_block-se.ensures in
    omega (arith, w.few, there (head se))

pub index_sons-put_four-requires : goal.index_sons-put_four-requires
index_sons-put_four-requires t c =
    let w = c.requires.walkable in
    omega (arith, there w.standing, w.room, c.index_block-next.auto.index, c.index_block-se.auto.index, c.index_block-sw.auto.index, c.index_block-ne.auto.index)

pub index_sons-returns : goal.index_sons-returns
index_sons-returns t c = λ u h. filled_four h c.requires.mark c.index_block-ne.ensures c.index_block-sw.ensures c.index_block-se.ensures c.index_block-next.ensures c.put_four.ensures
