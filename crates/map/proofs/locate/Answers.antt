use mathlib.Core.Path.{sym}
use Rattle.std.proofs.lemmas.Result.{err_from_is_err_and}
use Rattle.definitions.specs.Tree.{base_rule}
use Rattle.lookup.specs.Mapping.{mapped}
use Rattle.soundness.specs.Checked.{check_says, check_passes}
use Rattle.map.specs.Steps.{locate_0, locate_1}
use Rattle.map.proofs.Locates.{odd, not_half, twice, all_fit, located, locate_refused}
use Rattle.map.proofs.locate.Goals as goal

pub returns-then-points-ne0 : goal.returns-then-points-ne0
returns-then-points-ne0 c = sym (locate_1 base_rule _ _ _ (odd _ c.args.points.now c.args.answers.now c.if-points-ne0.true))

pub returns-then-points-answers : goal.returns-then-points-answers
returns-then-points-answers c = sym (locate_1 base_rule _ _ _ (not_half _ c.args.points.now c.args.answers.now c.if-points-answers.true))

pub returns-in_err-check : goal.returns-in_err-check
returns-in_err-check c =
    let p = err_from_is_err_and c.from_residual.result c.from_residual.ensures.1 in
    let h = twice c.args.points.now c.args.answers.now c.if-points-ne0.false c.if-points-answers.false in
    rw (p.1, p.2) (sym (locate_refused base_rule _ _ _ h (check_says base_rule _ c.in_err-check.ensures)))

pub answer_all-requires : goal.answer_all-requires
answer_all-requires c =
    let w = check_passes base_rule c.in_ok-check.ensures in
    (mapped base_rule _ w.fit w.ok, twice c.args.points.now c.args.answers.now c.if-points-ne0.false c.if-points-answers.false)

pub returns : goal.returns
returns c =
    let w = check_passes base_rule c.in_ok-check.ensures in
    let h = twice c.args.points.now c.args.answers.now c.if-points-ne0.false c.if-points-answers.false in
    located c.answer_all.ensures (locate_0 base_rule _ _ _ (all_fit _ c.args.points.now c.args.answers.now w.fit h) w.ok)
