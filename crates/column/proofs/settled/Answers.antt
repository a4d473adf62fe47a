-- `column::settled` meets its contract.
use native.Mathlib.Omega.{arith}
use Rattle.geometry.specs.Means.{block_of}
use Rattle.tables.specs.Rows.{line_ends}
use Rattle.scan.specs.Told.{way_map}
use Rattle.column.proofs.Column.{far_most, none_reached, reach_is}
use Rattle.column.proofs.settled.Goals as goal

pub reaches-requires : goal.reaches-requires
reaches-requires c = (line_ends (way_map (rw c.in-Some.is at c.requires.on_way)) c.line_at.ensures, record { to_east = omega (arith, c.requires.point.to_east); to_north = omega (arith, c.far_side.ensures, far_most c.args.south (block_of c.args.k) c.requires.north_in) })

pub returns-in-None : goal.returns-in-None
returns-in-None c = rw c.in-None.is (none_reached _ _ _ _)

pub returns-in-Some : goal.returns-in-Some
returns-in-Some c = rw c.in-Some.is (reach_is _ c.args.south c.args.p c.far_side.result c.line_at.ensures c.far_side.ensures c.reaches.ensures)
