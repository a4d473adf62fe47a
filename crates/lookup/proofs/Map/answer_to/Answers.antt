-- `lookup::Map::answer_to` meets its contract.
use mathlib.Core.Path.{ap, ◌∙◌}
use Rattle.definitions.specs.Lookup.{answer_at}
use Rattle.lookup.proofs.Answering.{answer_is}
use Rattle.lookup.proofs.Map.answer_to.Goals as goal

pub returns-then-on_grid : goal.returns-then-on_grid
returns-then-on_grid c = c.answer_at.ensures ∙ ap (answer_at _) c.point_of.ensures ∙ answer_is _ _ c.on_grid.ensures c.on_grid-2.ensures _ c.if-on_grid.true

pub returns : goal.returns
returns c = answer_is _ _ c.on_grid.ensures c.on_grid-2.ensures _ c.if-on_grid.false
