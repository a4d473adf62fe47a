-- What is left of the node table falls: a block at one more than its sons, which stand past it.
use Rattle.std.proofs.Common.{◌*◌, ◌+◌, ◌-◌, length}
use Rattle.walk.proofs.+index_block_index_sons.Given as goal

abbrev pub decreases-index_block : goal.decreases-index_block
decreases-index_block l = 2 * (length l.nodes.now - l.at.node) + 1

abbrev pub decreases-index_sons : goal.decreases-index_sons
decreases-index_sons l = 2 * (length l.nodes.now - l.at.node)
