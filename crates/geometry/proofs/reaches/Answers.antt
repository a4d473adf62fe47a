use Rattle.definitions.specs.declared.Point.{Point}
use Rattle.meaning.specs.Ahead.{beyond}
use Rattle.definitions.specs.Shape.{turn}
use Rattle.geometry.specs.Bits.{told}
use Rattle.geometry.specs.Means.{line_of}
use Rattle.geometry.specs.Range.{eastward_ends}
use mathlib.Core.Bool.{not}
use mathlib.Core.Path.{◌∙◌, sym, ap, ap₂}
use Rattle.geometry.proofs.reaches.Goals as goal

pub turn-requires : goal.turn-requires
turn-requires c = let s = c.requires in let e = eastward_ends (line_of c.eastward-e.result) c.eastward-e.ensures s.0 in (e.first, e.second, s.1)

pub returns : goal.returns
returns c = let g = c.args in
    ap not (sym (told (beyond g.south) c.turn.type_inv c.turn.ensures c.beyond.ensures) ∙ ap₂ (λ (a b : Point). beyond g.south (turn a b (record { x = g.x; y = g.y }))) c.eastward-e.ensures.0 c.eastward-e.ensures.1)
