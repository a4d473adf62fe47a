use borrow.Author.Tests.{lt-ltb, le-ltb}
use Rattle.definitions.specs.Lookup.{lower_label}
use Rattle.tables.specs.Rows.{entries_of}
use Rattle.tables.proofs.lower_label.Goals as goal

pub returns-then-row : goal.returns-then-row
unfolding lower_label entries_of
returns-then-row c = rw (le-ltb _ _ c.if-row.true)

pub returns-else-row : goal.returns-else-row
unfolding lower_label entries_of
returns-else-row c = rw (lt-ltb _ _ c.if-row.false)
