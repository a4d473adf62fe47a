use mathlib.Core.Path.{◌≡◌, sym, ap₂, ◌∙◌}
use mathlib.Core.Bool.{true, ◌&&◌}
use Rattle.definitions.specs.Tree.{base_rule}
use Rattle.definitions.specs.Tables.{on_grid}
use Rattle.std.proofs.lemmas.Result.{err_from_is_err_and}
use Rattle.showing.specs.Steps.{show_3, show_refused}
use Rattle.showing.proofs.Finds.{walkable, x_low, y_low, found}
use Rattle.soundness.specs.Checked.{check_says, check_passes}
use Rattle.showing.proofs.leaf_asked.Goals as goal

pub returns-in_err-check : goal.returns-in_err-check
returns-in_err-check c =
    let p = err_from_is_err_and c.from_residual.result c.from_residual.ensures.1 in
    rw (p.1, p.2) (show_refused base_rule _ c.args.x c.args.y (check_says base_rule _ c.in_err-check.ensures))

pub returns-then-not-on_grid : goal.returns-then-not-on_grid
returns-then-not-on_grid c =
    let w = check_passes base_rule c.in_ok-check.ensures in
    show_3 base_rule _ _ _ w.fit w.ok (ap₂ ◌&&◌ (sym c.on_grid.ensures) (sym c.on_grid-2.ensures) ∙ c.if-not-on_grid.true)

pub leaf_of-requires : goal.leaf_of-requires
leaf_of-requires c =
    let w = check_passes base_rule c.in_ok-check.ensures in
    let g : (on_grid c.args.x && on_grid c.args.y) ≡ true = ap₂ ◌&&◌ (sym c.on_grid.ensures) (sym c.on_grid-2.ensures) ∙ c.if-not-on_grid.false in
    (walkable w, x_low w c.args.x c.args.y g, y_low w c.args.x c.args.y g)

pub returns : goal.returns
returns c = found (check_passes base_rule c.in_ok-check.ensures) _ _ (ap₂ ◌&&◌ (sym c.on_grid.ensures) (sym c.on_grid-2.ensures) ∙ c.if-not-on_grid.false) c.leaf_of.ensures
