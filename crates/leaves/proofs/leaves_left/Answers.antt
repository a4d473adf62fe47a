use mathlib.Core.Path.{sym, ap₂}
use mathlib.Core.Bool.{◌||◌}
use Rattle.algebra.specs.Words.{is_positive}
use Rattle.geometry.specs.Bits.{told}
use Rattle.leaves.specs.Fans.{leaves_left}
use Rattle.leaves.proofs.leaves_left.Goals as goal

pub returns : goal.returns
unfolding leaves_left
returns c = sym (ap₂ ◌||◌ (told is_positive c.turn.type_inv c.turn.ensures c.left.ensures) (told is_positive c.turn-2.type_inv c.turn-2.ensures c.left-2.ensures))
