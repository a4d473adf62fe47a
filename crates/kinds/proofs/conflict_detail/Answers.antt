use native.Mathlib.Omega.{arith}
use Rattle.geometry.specs.Range.{grid_ends}
use Rattle.tables.specs.Rows.{line_ends}
use Rattle.tables.specs.Sound.{given_on_grid}
use Rattle.kinds.specs.Detail.{detail_is}
use Rattle.kinds.proofs.conflict_detail.Goals as goal

pub overflow_cast-s : goal.overflow_cast-s
overflow_cast-s c = record { fits = omega (arith, c.requires.1) }

pub line_at-requires : goal.line_at-requires
line_at-requires c = c.requires.0

pub line_of-requires : goal.line_of-requires
line_of-requires c = given_on_grid _ c.requires.2

pub kind_of-k-requires : goal.kind_of-k-requires
kind_of-k-requires c = let s = c.requires in (line_ends s.0 c.line_at.ensures, grid_ends c.line_of.ensures (given_on_grid _ s.2))

pub returns : goal.returns
returns c = let a = c.args in
    detail_is a.lines.now a.s a.g c.line_at.ensures c.line_of.ensures c.kind_of-k.ensures c.kind_number.ensures.0
