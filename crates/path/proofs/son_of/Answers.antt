-- `path::son_of` meets its contract, by the two cases.
use mathlib.Core.Path.{refl}
use Rattle.path.specs.Asked.{is_upper, is_lower}
use Rattle.path.proofs.son_of.Goals as goal

pub returns-then-upper : goal.returns-then-upper
returns-then-upper c = rw c.if-upper.true (is_upper refl)

pub returns-else-upper : goal.returns-else-upper
returns-else-upper c = rw c.if-upper.false (is_lower refl)
