use Rattle.changes.proofs.Takes.{freed_good, taken_out}
use Rattle.changes.proofs.take_line.Goals as goal

pub build-requires : goal.build-requires
build-requires c = freed_good c.requires c.row_at-row.ensures c.emptied.ensures c.put_row.ensures

pub returns : goal.returns
returns c = taken_out c.requires c.row_at-row.ensures c.emptied.ensures c.put_row.ensures c.clear.ensures c.clear-2.ensures c.build.ensures
