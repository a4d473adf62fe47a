use Rattle.geometry.specs.Bits.{called, told₂}
use Rattle.geometry.specs.Range.{end_corner}
use Rattle.geometry.specs.Join.{touch_1, touch_2, touch_3, touch_4}
use Rattle.geometry.specs.Means.{line_of, both_same, both_apart}
use mathlib.Core.Bool.{◌||◌}
use mathlib.Core.Path.{◌∙◌, ap₂}
use Rattle.geometry.proofs.touch.Goals as goal

pub turn-s-requires : goal.turn-s-requires
turn-s-requires c = let s = c.requires in (s.0.first, s.0.second, end_corner s.1.first)

pub turn-t-requires : goal.turn-t-requires
turn-t-requires c = let s = c.requires in (s.0.first, s.0.second, end_corner s.1.second)

pub returns-then-both_one_side : goal.returns-then-both_one_side
returns-then-both_one_side c =
    touch_1 (line_of c.args.l) (line_of c.args.m) (told₂ both_same c.turn-s.type_inv c.turn-s.ensures c.turn-t.type_inv c.turn-t.ensures c.both_one_side.ensures ∙ c.if-both_one_side.true)

pub turn-u-requires : goal.turn-u-requires
turn-u-requires c = let s = c.requires in (s.1.first, s.1.second, end_corner s.0.first)

pub turn-v-requires : goal.turn-v-requires
turn-v-requires c = let s = c.requires in (s.1.first, s.1.second, end_corner s.0.second)

pub returns-then-both_one_side-2 : goal.returns-then-both_one_side-2
returns-then-both_one_side-2 c =
    touch_2 (line_of c.args.l) (line_of c.args.m) (told₂ both_same c.turn-s.type_inv c.turn-s.ensures c.turn-t.type_inv c.turn-t.ensures c.both_one_side.ensures ∙ c.if-both_one_side.false)
    (told₂ both_same c.turn-u.type_inv c.turn-u.ensures c.turn-v.type_inv c.turn-v.ensures c.both_one_side-2.ensures ∙ c.if-both_one_side-2.true)

pub returns-then-both_sides : goal.returns-then-both_sides
returns-then-both_sides c =
    touch_3 (line_of c.args.l) (line_of c.args.m) (told₂ both_same c.turn-s.type_inv c.turn-s.ensures c.turn-t.type_inv c.turn-t.ensures c.both_one_side.ensures ∙ c.if-both_one_side.false)
    (told₂ both_same c.turn-u.type_inv c.turn-u.ensures c.turn-v.type_inv c.turn-v.ensures c.both_one_side-2.ensures ∙ c.if-both_one_side-2.false)
    c.both_sides.result c.both_sides-2.result
    (told₂ both_apart c.turn-s.type_inv c.turn-s.ensures c.turn-t.type_inv c.turn-t.ensures c.both_sides.ensures)
    (told₂ both_apart c.turn-u.type_inv c.turn-u.ensures c.turn-v.type_inv c.turn-v.ensures c.both_sides-2.ensures) c.if-both_sides.true

pub on-requires : goal.on-requires
on-requires c = (called c.turn-s.type_inv c.turn-s.ensures).value

pub on-requires-2 : goal.on-requires-2
on-requires-2 c = (called c.turn-t.type_inv c.turn-t.ensures).value

pub on-requires-3 : goal.on-requires-3
on-requires-3 c = (called c.turn-u.type_inv c.turn-u.ensures).value

pub on-requires-4 : goal.on-requires-4
on-requires-4 c = (called c.turn-v.type_inv c.turn-v.ensures).value

pub returns : goal.returns
returns c =
    ap₂ ◌||◌ (ap₂ ◌||◌ (ap₂ ◌||◌ c.on.ensures c.on-2.ensures) c.on-3.ensures) c.on-4.ensures ∙
    touch_4 (line_of c.args.l) (line_of c.args.m) (told₂ both_same c.turn-s.type_inv c.turn-s.ensures c.turn-t.type_inv c.turn-t.ensures c.both_one_side.ensures ∙ c.if-both_one_side.false)
    (told₂ both_same c.turn-u.type_inv c.turn-u.ensures c.turn-v.type_inv c.turn-v.ensures c.both_one_side-2.ensures ∙ c.if-both_one_side-2.false)
    c.both_sides.result c.both_sides-2.result
    (told₂ both_apart c.turn-s.type_inv c.turn-s.ensures c.turn-t.type_inv c.turn-t.ensures c.both_sides.ensures)
    (told₂ both_apart c.turn-u.type_inv c.turn-u.ensures c.turn-v.type_inv c.turn-v.ensures c.both_sides-2.ensures) c.if-both_sides.false
