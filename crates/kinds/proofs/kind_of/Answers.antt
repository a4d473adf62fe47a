use mathlib.Core.Bool.{◌&&◌}
use mathlib.Core.Path.{sym, ap₂, ◌∙◌}
use Rattle.algebra.specs.Words.{is_zero}
use Rattle.geometry.specs.Bits.{told, told₂}
use Rattle.geometry.specs.Means.{line_of, both_apart}
use Rattle.geometry.specs.Range.{end_corner}
use Rattle.kinds.specs.Told.{told_same, told_overlap, told_crossing, told_touching}
use Rattle.kinds.proofs.kind_of.Goals as goal

pub returns-then-ends_at : goal.returns-then-ends_at
returns-then-ends_at c = let g = c.args in told_same (line_of g.l) (line_of g.m) (sym (ap₂ ◌&&◌ c.ends_at.ensures c.ends_at-2.ensures) ∙ c.if-ends_at.true)

pub turn-s-requires : goal.turn-s-requires
turn-s-requires c = let s = c.requires in (s.0.first, s.0.second, end_corner s.1.first)

pub turn-t-requires : goal.turn-t-requires
turn-t-requires c = let s = c.requires in (s.0.first, s.0.second, end_corner s.1.second)

pub returns-then-straight : goal.returns-then-straight
returns-then-straight c =
    told_overlap (line_of c.args.l) (line_of c.args.m) (sym (ap₂ ◌&&◌ c.ends_at.ensures c.ends_at-2.ensures) ∙ c.if-ends_at.false)
    (told is_zero c.turn-s.type_inv c.turn-s.ensures c.straight.ensures) (told is_zero c.turn-t.type_inv c.turn-t.ensures c.straight-2.ensures) c.if-straight.true

pub turn-u-requires : goal.turn-u-requires
turn-u-requires c = let s = c.requires in (s.1.first, s.1.second, end_corner s.0.first)

pub turn-v-requires : goal.turn-v-requires
turn-v-requires c = let s = c.requires in (s.1.first, s.1.second, end_corner s.0.second)

pub returns-then-both_sides : goal.returns-then-both_sides
returns-then-both_sides c =
    told_crossing (line_of c.args.l) (line_of c.args.m) (sym (ap₂ ◌&&◌ c.ends_at.ensures c.ends_at-2.ensures) ∙ c.if-ends_at.false)
    (told is_zero c.turn-s.type_inv c.turn-s.ensures c.straight.ensures) (told is_zero c.turn-t.type_inv c.turn-t.ensures c.straight-2.ensures) c.if-straight.false
    (told₂ both_apart c.turn-s.type_inv c.turn-s.ensures c.turn-t.type_inv c.turn-t.ensures c.both_sides.ensures)
    (told₂ both_apart c.turn-u.type_inv c.turn-u.ensures c.turn-v.type_inv c.turn-v.ensures c.both_sides-2.ensures) c.if-both_sides.true

pub returns : goal.returns
returns c =
    told_touching (line_of c.args.l) (line_of c.args.m) (sym (ap₂ ◌&&◌ c.ends_at.ensures c.ends_at-2.ensures) ∙ c.if-ends_at.false)
    (told is_zero c.turn-s.type_inv c.turn-s.ensures c.straight.ensures) (told is_zero c.turn-t.type_inv c.turn-t.ensures c.straight-2.ensures) c.if-straight.false
    (told₂ both_apart c.turn-s.type_inv c.turn-s.ensures c.turn-t.type_inv c.turn-t.ensures c.both_sides.ensures)
    (told₂ both_apart c.turn-u.type_inv c.turn-u.ensures c.turn-v.type_inv c.turn-v.ensures c.both_sides-2.ensures) c.if-both_sides.false
