use mathlib.Core.Path.{sym}
use Rattle.std.proofs.lemmas.Result.{err_from_is_err_and}
use Rattle.definitions.specs.Tree.{base_rule}
use Rattle.soundness.specs.Checked.{check_says, check_passes}
use Rattle.map.specs.Steps.{insert_refused}
use Rattle.map.proofs.insert.Goals as goal

pub returns-in_err-check : goal.returns-in_err-check
returns-in_err-check c =
    let p = err_from_is_err_and c.from_residual.result c.from_residual.ensures.1 in
    rw (p.1, p.2) (sym (insert_refused base_rule _ _ (check_says base_rule _ c.in_err-check.ensures)))

pub insert_sound-requires : goal.insert_sound-requires
insert_sound-requires c = check_passes base_rule c.in_ok-check.ensures
