-- `geometry::passes` meets its contract: a turn that is not 0 is to the left, or to the right.
use mathlib.Core.Path.{ap, ◌∙◌}
use mathlib.Core.Bool.{beq}
use mir.Syntax.{w32}
use mir.ValLaws.{to_z-of_z}
use Rattle.algebra.specs.Words.{is_positive}
use Rattle.geometry.specs.Look.{one_sign}
use Rattle.geometry.proofs.passes.Goals as goal

pub returns : goal.returns
returns c =
    ap (λ b. beq b c.args.south) (c.left.ensures ∙ ap is_positive (to_z-of_z w32 c.args.t c.ranges.t)) ∙ one_sign c.args.south c.args.t c.requires
