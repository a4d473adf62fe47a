use mathlib.Core.Path.{sym, ◌∙◌}
use Rattle.map.specs.Steps.{start_1}
use Rattle.map.proofs.Ends.{started}
use Rattle.map.proofs.start.Goals as goal

pub returns-then-not-lengths_fit : goal.returns-then-not-lengths_fit
returns-then-not-lengths_fit c = sym (start_1 _ (sym c.lengths_fit.ensures ∙ c.if-not-lengths_fit.true))

pub returns : goal.returns
returns c = started _ _ _ (sym c.lengths_fit.ensures ∙ c.if-not-lengths_fit.false) c.clear.ensures c.clear-2.ensures c.clear-3.ensures
