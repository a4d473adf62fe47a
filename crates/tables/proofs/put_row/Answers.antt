use Rattle.tables.specs.Rows.{entries_of}
use Rattle.tables.proofs.Entries.{part_put}
use Rattle.tables.proofs.put_row.Goals as goal

pub returns : goal.returns
unfolding entries_of
returns c = rw c.copy_from_slice.ensures.after (part_put c.args.lines.now c.args.slot (entries_of c.args.row) c.requires)
