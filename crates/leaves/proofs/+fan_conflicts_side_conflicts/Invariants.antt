-- The depth falls: a fan at twice its depth, a side one more.
use Rattle.std.proofs.Common.{◌*◌, ◌+◌}
use Rattle.leaves.proofs.+fan_conflicts_side_conflicts.Given as goal

abbrev pub decreases-fan_conflicts : goal.decreases-fan_conflicts
decreases-fan_conflicts l = 2 * l.depth

abbrev pub decreases-side_conflicts : goal.decreases-side_conflicts
decreases-side_conflicts l = 2 * l.depth + 1
