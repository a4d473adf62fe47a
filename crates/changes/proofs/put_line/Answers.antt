use native.Mathlib.Omega.{arith}
use Rattle.tables.specs.Lent.{as_many, as_listed}
use Rattle.changes.proofs.Puts.{put_good, not_put, put}
use Rattle.changes.proofs.put_line.Goals as goal

pub build-requires : goal.build-requires
build-requires c = put_good c.requires c.put_row.ensures

pub returns-then-is_none : goal.returns-then-is_none
returns-then-is_none c =
    not_put c.requires c.put_row.ensures c.build.ensures c.if-is_none.ensures c.row_at-before.ensures c.put_row-then-is_none.ensures

pub copy-requires : goal.copy-requires
copy-requires c = omega (arith, as_many c.requires.scratch)

pub copy-requires-2 : goal.copy-requires-2
copy-requires-2 c = omega (arith, as_listed c.requires.scratch)

pub returns : goal.returns
returns c = let w = c.requires in put w c.put_row.ensures c.build.ensures c.if-is_none.ensures (omega (arith, as_many w.scratch)) (omega (arith, as_listed w.scratch)) c.copy.ensures c.copy-2.ensures
