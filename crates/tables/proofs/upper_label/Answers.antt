use borrow.Author.Tests.{lt-ltb, le-ltb}
use Rattle.definitions.specs.Lookup.{upper_label}
use Rattle.tables.specs.Rows.{entries_of}
use Rattle.tables.proofs.upper_label.Goals as goal

pub returns-then-row : goal.returns-then-row
unfolding upper_label entries_of
returns-then-row c = rw (lt-ltb _ _ c.if-row.true)

pub returns-else-row : goal.returns-else-row
unfolding upper_label entries_of
returns-else-row c = rw (le-ltb _ _ c.if-row.false)
