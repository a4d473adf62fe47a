use mathlib.Core.Path.{sym, ◌∙◌}
use Rattle.geometry.specs.Bits.{called}
use Rattle.geometry.specs.Means.{line_of}
use Rattle.window.specs.Means.{area_by}
use Rattle.window.specs.Parts.{apart_x, apart_y, by_side, told}
use Rattle.window.proofs.meets_area.Goals as goal

pub returns-then-not-overlap : goal.returns-then-not-overlap
returns-then-not-overlap c = apart_x (area_by c.args.k) (line_of c.args.l) (sym c.overlap.ensures ∙ c.if-not-overlap.true)

pub returns-then-not-overlap-2 : goal.returns-then-not-overlap-2
returns-then-not-overlap-2 c =
    apart_y (area_by c.args.k) (line_of c.args.l) (sym c.overlap.ensures ∙ c.if-not-overlap.false) (sym c.overlap-2.ensures ∙ c.if-not-overlap-2.true)

pub turn-a-requires : goal.turn-a-requires
turn-a-requires c = let s = c.requires in let k = c.args.k in (s.first, s.second, record { to_east = k.west_in_map; to_north = k.south_in_map })

pub turn-b-requires : goal.turn-b-requires
turn-b-requires c = let s = c.requires in let k = c.args.k in (s.first, s.second, record { to_east = k.east_in_map; to_north = k.south_in_map })

pub turn-c-requires : goal.turn-c-requires
turn-c-requires c = let s = c.requires in let k = c.args.k in (s.first, s.second, record { to_east = k.west_in_map; to_north = k.north_in_map })

pub turn-d-requires : goal.turn-d-requires
turn-d-requires c = let s = c.requires in let k = c.args.k in (s.first, s.second, record { to_east = k.east_in_map; to_north = k.north_in_map })

pub returns : goal.returns
returns c =
    by_side (area_by c.args.k) (line_of c.args.l) (sym c.overlap.ensures ∙ c.if-not-overlap.false) (sym c.overlap-2.ensures ∙ c.if-not-overlap-2.false)
    (told (called c.turn-a.type_inv c.turn-a.ensures).value (called c.turn-b.type_inv c.turn-b.ensures).value (called c.turn-c.type_inv c.turn-c.ensures).value (called c.turn-d.type_inv c.turn-d.ensures).value c.one_side.ensures)
