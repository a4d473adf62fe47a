use mathlib.Core.Path.{ap, ◌∙◌}
use Rattle.definitions.specs.Shape.{grid_point}
use Rattle.definitions.specs.Tables.{line_at}
use Rattle.tables.specs.declared.Row.{Row}
use Rattle.tables.specs.Rows.{row_at}
use Rattle.tables.proofs.line_at.Goals as goal

pub line_of_row-requires : goal.line_of_row-requires
line_of_row-requires c = let p = c.requires in rw (c.row_at.ensures, c.from.ensures) (p.grid_x1, p.grid_y1, p.grid_x2, p.grid_y2)

pub returns : goal.returns
unfolding line_at
returns c = let same = c.row_at.ensures ∙ ap (row_at c.args.lines.now) c.from.ensures in record {
  a_is = c.line_of_row.ensures.0 ∙ ap (λ (w : Row). grid_point w.x1 w.y1) same;
  b_is = c.line_of_row.ensures.1 ∙ ap (λ (w : Row). grid_point w.x2 w.y2) same;
}
