use Rattle.algebra.specs.Words.{is_zero, is_positive, is_negative}
use Rattle.geometry.specs.Bits.{told}
use Rattle.geometry.specs.Range.{end_corner}
use Rattle.geometry.specs.Look.{higher_1, higher_2, higher_3}
use Rattle.geometry.specs.Means.{line_of}
use mathlib.Core.Path.{◌∙◌}
use Rattle.geometry.proofs.higher.Goals as goal

pub turn-requires : goal.turn-requires
turn-requires c = let s = c.requires in (s.2.first, s.2.second, end_corner s.3.first)

pub returns-then-l-m : goal.returns-then-l-m
returns-then-l-m c =
    higher_1 (line_of c.args.l) (line_of c.args.m) c.requires.0 c.requires.1 c.right.result c.if-l-m.true (told is_negative c.turn.type_inv c.turn.ensures c.right.ensures)

pub turn-t-requires : goal.turn-t-requires
turn-t-requires c = let s = c.requires in (s.3.first, s.3.second, end_corner s.2.first)

pub turn-requires-then-straight : goal.turn-requires-then-straight
turn-requires-then-straight c = let s = c.requires in (s.3.first, s.3.second, end_corner s.2.second)

pub returns-then-straight : goal.returns-then-straight
returns-then-straight c =
    higher_2 (line_of c.args.l) (line_of c.args.m) c.requires.0 c.requires.1 c.left.result c.if-l-m.false (told is_zero c.turn-t.type_inv c.turn-t.ensures c.straight.ensures ∙ c.if-straight.true) (told is_positive c.turn-then-straight.type_inv c.turn-then-straight.ensures c.left.ensures)

pub returns : goal.returns
returns c =
    higher_3 (line_of c.args.l) (line_of c.args.m) c.requires.0 c.requires.1 c.left-2.result c.if-l-m.false (told is_zero c.turn-t.type_inv c.turn-t.ensures c.straight.ensures ∙ c.if-straight.false) (told is_positive c.turn-t.type_inv c.turn-t.ensures c.left-2.ensures)
