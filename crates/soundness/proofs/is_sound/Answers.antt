use mathlib.Core.Path.{sym, ◌∙◌}
use Rattle.definitions.specs.Tree.{base_rule}
use Rattle.soundness.specs.Soundness.{bad_slots}
use Rattle.soundness.proofs.is_sound.Goals as goal

pub trees_sound-requires : goal.trees_sound-requires
trees_sound-requires c = record { fit = c.requires; slots = sym c.slots_sound.ensures ∙ c.if-slots_sound.true }

pub returns-else-slots_sound : goal.returns-else-slots_sound
returns-else-slots_sound c = c.if-slots_sound.false ∙ sym (bad_slots base_rule _ (sym c.slots_sound.ensures ∙ c.if-slots_sound.false))
