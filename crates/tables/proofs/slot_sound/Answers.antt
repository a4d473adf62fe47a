use mathlib.Core.Path.{sym, ◌∙◌}
use Rattle.definitions.specs.Tables.{is_live}
use Rattle.tables.specs.Rows.{entries_of}
use Rattle.tables.specs.Sound.{sound_live, sound_empty}
use Rattle.tables.proofs.slot_sound.Goals as goal

pub returns-then-is_live : goal.returns-then-is_live
unfolding is_live entries_of
returns-then-is_live c = c.live_sound.ensures ∙ sym (sound_live (entries_of c.args.row) 0 (sym c.is_live.ensures ∙ c.if-is_live.true))

pub returns-else-is_live : goal.returns-else-is_live
unfolding is_live entries_of
returns-else-is_live c = c.empty_sound.ensures ∙ sym (sound_empty (entries_of c.args.row) 0 (sym c.is_live.ensures ∙ c.if-is_live.false))
