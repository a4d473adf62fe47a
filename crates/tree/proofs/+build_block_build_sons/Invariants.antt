-- `tree::build_block` and `tree::build_sons`. The level falls: a block at twice its level, its sons one more.
use Rattle.std.proofs.Common.{◌*◌, ◌+◌, Some}
use Rattle.geometry.specs.Means.{block_of}
use Rattle.tree.proofs.Sons.{SoFar}
use Rattle.tree.proofs.+build_block_build_sons.Given as goal

abbrev pub decreases-build_block : goal.decreases-build_block
decreases-build_block l = 2 * l.level

abbrev pub decreases-build_sons : goal.decreases-build_sons
decreases-build_sons l = 2 * l.level + 1

-- After each son the tables hold its lists.
abbrev pub invariant-build_sons-loop-son : goal.invariant-build_sons-loop-son
invariant-build_sons-loop-son l =
    SoFar l.lines l.fn.slots l.fn.c (block_of l.fn.k) l.level l.fn.at l.initial.slots l.initial.nodes l.initial.listings l.son-index l.nodes l.listings l.slots (Some l.next)
