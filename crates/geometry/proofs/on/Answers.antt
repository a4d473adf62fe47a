use Rattle.algebra.specs.Words.{is_zero}
use Rattle.geometry.specs.Join.{on_yes, on_no}
use Rattle.geometry.specs.Means.{line_of}
use mir.ValLaws.{to_z-of_z}
use mir.Syntax.{w32}
use mathlib.Core.Path.{◌∙◌, sym, ap}
use Rattle.geometry.proofs.on.Goals as goal

pub returns-then-straight : goal.returns-then-straight
returns-then-straight c = let g = c.args in
    on_yes g.p (line_of g.l) c.boxed.result (ap is_zero (sym (to_z-of_z w32 g.t c.ranges.t ∙ c.requires)) ∙ sym c.straight.ensures ∙ c.if-straight.true) c.boxed.ensures

pub returns-else-straight : goal.returns-else-straight
returns-else-straight c = let g = c.args in
    c.if-straight.false ∙ on_no g.p (line_of g.l) (ap is_zero (sym (to_z-of_z w32 g.t c.ranges.t ∙ c.requires)) ∙ sym c.straight.ensures ∙ c.if-straight.false)
