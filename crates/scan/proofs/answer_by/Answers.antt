-- `scan::answer_by` meets its contract, by the two ways.
use mathlib.Core.Path.{ap, ◌∙◌}
use Rattle.tables.specs.Rows.{row_at, upper_label_at, lower_label_at}
use Rattle.scan.proofs.answer_by.Goals as goal

pub returns-then-south : goal.returns-then-south
returns-then-south c = let lines = c.args.lines.now in
    rw c.if-south.true (c.from-then-south.ensures ∙ c.upper_label.ensures ∙ upper_label_at lines _ (c.row_at-row.ensures ∙ ap (row_at lines) c.from.ensures))

pub returns : goal.returns
returns c = let lines = c.args.lines.now in
    rw c.if-south.false (c.from-2.ensures ∙ c.lower_label.ensures ∙ lower_label_at lines _ (c.row_at-row.ensures ∙ ap (row_at lines) c.from.ensures))
