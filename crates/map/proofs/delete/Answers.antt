use mathlib.Core.Path.{sym, ◌∙◌}
use Rattle.std.proofs.lemmas.Result.{err_from_is_err_and}
use Rattle.definitions.specs.Tree.{base_rule}
use Rattle.changes.specs.Changing.{to_take}
use Rattle.soundness.specs.Checked.{check_says, check_passes}
use Rattle.map.specs.Steps.{delete_8, delete_refused}
use Rattle.map.proofs.Ends.{deleted}
use Rattle.map.proofs.delete.Goals as goal

pub returns-in_err-check : goal.returns-in_err-check
returns-in_err-check c =
    let p = err_from_is_err_and c.from_residual.result c.from_residual.ensures.1 in
    rw (p.1, p.2) (sym (delete_refused base_rule _ _ (check_says base_rule _ c.in_err-check.ensures)))

pub returns-then-not-known : goal.returns-then-not-known
returns-then-not-known c = let w = check_passes base_rule c.in_ok-check.ensures in sym (delete_8 base_rule _ _ w.fit w.ok (sym c.known.ensures ∙ c.if-not-known.true))

pub take_line-requires : goal.take_line-requires
take_line-requires c = to_take c.args.handle (check_passes base_rule c.in_ok-check.ensures) (sym c.known.ensures ∙ c.if-not-known.false) c.slot_of.ensures

pub returns : goal.returns
returns c = deleted c.args.handle (check_passes base_rule c.in_ok-check.ensures) (sym c.known.ensures ∙ c.if-not-known.false) c.slot_of.ensures c.take_line.ensures
