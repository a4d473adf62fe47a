use mathlib.Core.Path.{sym, ◌∙◌}
use Rattle.definitions.specs.Tree.{base_rule}
use Rattle.soundness.specs.Checked.{checked_1, checked_2, checked_0}
use Rattle.soundness.proofs.check.Goals as goal

pub returns-then-not-lengths_fit : goal.returns-then-not-lengths_fit
returns-then-not-lengths_fit c = sym (checked_1 base_rule _ (sym c.lengths_fit.ensures ∙ c.if-not-lengths_fit.true))

pub returns-then-not-is_sound : goal.returns-then-not-is_sound
returns-then-not-is_sound c = sym (checked_2 base_rule _ (sym c.lengths_fit.ensures ∙ c.if-not-lengths_fit.false) (sym c.is_sound.ensures ∙ c.if-not-is_sound.true))

pub returns : goal.returns
returns c = sym (checked_0 base_rule _ (sym c.lengths_fit.ensures ∙ c.if-not-lengths_fit.false) (sym c.is_sound.ensures ∙ c.if-not-is_sound.false))
