-- `path::entry_of` meets its contract, by the two cases.
use mathlib.Core.Path.{refl}
use Rattle.path.specs.Asked.{of_upper, of_lower}
use Rattle.path.proofs.entry_of.Goals as goal

pub returns-then-upper : goal.returns-then-upper
returns-then-upper c = rw c.if-upper.true (of_upper refl)

pub returns-else-upper : goal.returns-else-upper
returns-else-upper c = rw c.if-upper.false (of_lower refl)
