use Rattle.algebra.specs.Words.{is_zero}
use Rattle.geometry.specs.Bits.{told}
use Rattle.geometry.specs.Range.{end_corner}
use Rattle.geometry.specs.Join.{fork_yes, fork_no}
use mathlib.Core.Path.{◌∙◌}
use Rattle.geometry.proofs.fork.Goals as goal

pub turn-requires : goal.turn-requires
turn-requires c = (c.requires.0, c.requires.1, end_corner c.requires.2)

pub returns-then-straight : goal.returns-then-straight
returns-then-straight c = let g = c.args in
    fork_yes g.v g.p g.q c.boxed.result (told is_zero c.turn.type_inv c.turn.ensures c.straight.ensures ∙ c.if-straight.true) c.boxed.ensures

pub returns-else-straight : goal.returns-else-straight
returns-else-straight c = let g = c.args in
    c.if-straight.false ∙ fork_no g.v g.p g.q (told is_zero c.turn.type_inv c.turn.ensures c.straight.ensures ∙ c.if-straight.false)
