use mathlib.Core.Path.{sym, ◌∙◌}
use Rattle.std.proofs.lemmas.Result.{err_from_is_err_and}
use Rattle.definitions.specs.Tree.{base_rule}
use Rattle.meaning.specs.Sound.{sound→}
use Rattle.soundness.specs.Checked.{check_says, check_passes}
use Rattle.tables.specs.Lent.{lines_short}
use Rattle.map.specs.Steps.{window_0, window_9, window_refused}
use Rattle.map.proofs.window.Goals as goal

pub returns-in_err-check : goal.returns-in_err-check
returns-in_err-check c =
    let p = err_from_is_err_and c.from_residual.result c.from_residual.ensures.1 in
    rw (p.1, p.2) (sym (window_refused base_rule _ _ _ (check_says base_rule _ c.in_err-check.ensures)))

pub returns-then-not-window_fits : goal.returns-then-not-window_fits
returns-then-not-window_fits c = let w = check_passes base_rule c.in_ok-check.ensures in sym (window_9 base_rule _ _ _ w.fit w.ok (sym c.window_fits.ensures ∙ c.if-not-window_fits.true))

pub list_window-requires : goal.list_window-requires
list_window-requires c =
    let w = check_passes base_rule c.in_ok-check.ensures in
    ((sound→ base_rule _ w.ok).slots, lines_short _ _ _ w.fit, sym c.window_fits.ensures ∙ c.if-not-window_fits.false)

pub returns : goal.returns
returns c =
    let w = check_passes base_rule c.in_ok-check.ensures in
    c.list_window.ensures ∙ sym (window_0 base_rule _ _ _ w.fit w.ok (sym c.window_fits.ensures ∙ c.if-not-window_fits.false))
