use mathlib.Core.Path.{sym, ap, ap₂, ◌∙◌}
use native.Mathlib.Omega.{arith}
use Rattle.definitions.specs.Tables.{line_at, is_live}
use Rattle.definitions.specs.Shape.{meets_area}
use Rattle.geometry.specs.Means.{line_from}
use Rattle.geometry.specs.Range.{grid_ends}
use Rattle.tables.specs.Rows.{entries_of}
use Rattle.tables.specs.Sound.{on_map}
use Rattle.window.specs.Means.{area_by}
use Rattle.window.proofs.seen.Goals as goal

pub line_of_row-requires : goal.line_of_row-requires
unfolding entries_of is_live
line_of_row-requires c = let m = on_map (entries_of c.args.row) 0 (omega arith) c.requires (sym c.is_live.ensures ∙ c.if-is_live.true) in (m.grid_x1, m.grid_y1, m.grid_x2, m.grid_y2)

pub meets_area-requires : goal.meets_area-requires
unfolding entries_of is_live
meets_area-requires c =
    let m = on_map (entries_of c.args.row) 0 (omega arith) c.requires (sym c.is_live.ensures ∙ c.if-is_live.true) in
    grid_ends c.line_of_row.ensures (m.grid_x1, m.grid_y1, m.grid_x2, m.grid_y2)

pub returns-then-is_live : goal.returns-then-is_live
unfolding entries_of is_live line_at
returns-then-is_live c =
    rw (sym c.is_live.ensures ∙ c.if-is_live.true) (c.meets_area.ensures ∙ ap (meets_area (area_by c.args.k)) (ap₂ line_from c.line_of_row.ensures.0 c.line_of_row.ensures.1))

pub returns-else-is_live : goal.returns-else-is_live
unfolding entries_of is_live
returns-else-is_live c = rw (sym c.is_live.ensures ∙ c.if-is_live.false) c.if-is_live.false
