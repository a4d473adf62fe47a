-- `scan::first_of` meets its contract.
use Rattle.geometry.specs.Range.{eastward_ends}
use Rattle.tables.specs.Rows.{line_ends}
use Rattle.scan.specs.Told.{way_map}
use Rattle.scan.proofs.Scans.{eastern, first_is, first_none}
use Rattle.scan.proofs.first_of.Goals as goal

pub comes_first-requires : goal.comes_first-requires
comes_first-requires c =
    let f = rw c.in-Some.is at c.requires.first in
    let e = eastern _ _ c.requires.second f c.requires.is_line c.line_at.ensures c.eastward.ensures c.eastward-in-Some.ensures in
    (e.0, e.1, eastward_ends _ c.eastward.ensures (line_ends (way_map c.requires.second) c.requires.is_line), eastward_ends _ c.eastward-in-Some.ensures (line_ends (way_map f) c.line_at.ensures))

pub returns-then-comes_first : goal.returns-then-comes_first
returns-then-comes_first c = rw c.in-Some.is (first_is _ _ c.requires.second (rw c.in-Some.is at c.requires.first) c.requires.is_line c.line_at.ensures c.eastward.ensures c.eastward-in-Some.ensures c.comes_first.ensures c.if-comes_first.true)

pub returns-in-None : goal.returns-in-None
returns-in-None c = rw c.in-None.is (first_none _ _ _)

pub returns-else-comes_first : goal.returns-else-comes_first
returns-else-comes_first c = rw c.in-Some.is (first_is _ _ c.requires.second (rw c.in-Some.is at c.requires.first) c.requires.is_line c.line_at.ensures c.eastward.ensures c.eastward-in-Some.ensures c.comes_first.ensures c.if-comes_first.false)
