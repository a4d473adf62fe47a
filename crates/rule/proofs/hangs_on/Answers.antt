use mathlib.Core.Path.{sym, ap, ap₂, ◌∙◌}
use mathlib.Core.Bool.{Bool, not, ◌&&◌}
use Rattle.geometry.specs.Means.{block_of, line_of}
use Rattle.rule.proofs.Rule.{hangs_first, hangs_second}
use Rattle.rule.proofs.hangs_on.Goals as goal

pub returns-then-same_point : goal.returns-then-same_point
returns-then-same_point c =
    let a = c.args in
    ap not c.inside.ensures ∙ sym (hangs_first (block_of a.k) a.v (line_of a.l) (sym c.same_point.ensures ∙ c.if-same_point.true))

pub returns : goal.returns
returns c =
    let a = c.args in
    ap₂ (λ (p q : Bool). p && not q) c.same_point-2.ensures c.inside-2.ensures
    ∙ sym (hangs_second (block_of a.k) a.v (line_of a.l) (sym c.same_point.ensures ∙ c.if-same_point.false))
