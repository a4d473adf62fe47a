use Rattle.std.proofs.Common.{◌≡◌, true, ◌∙◌, rules}
use Rattle.definitions.specs.Tables.{slot_sound}
use Rattle.definitions.specs.Window.{slots_in}
use Rattle.tables.specs.Rows.{entries_of, slot_sound_at}
use Rattle.tables.specs.Sound.{sound_at}
use Rattle.window.specs.Means.{area_by, seen_at}
use Rattle.window.specs.Seen.{seen_at_lem}
use Rattle.window.proofs.seen_slots.Goals as goal

pub gather-requires-clause-asked : goal.gather-requires-clause-asked
gather-requires-clause-asked c = λ s r h e.
    let sound : slot_sound (entries_of r) 0 ≡ true = slot_sound_at _ _ e ∙ sound_at _ c.requires.0 h in
    search rules

pub returns : goal.returns
unfolding slots_in
returns c =
    c.gather.ensures (seen_at c.args.lines.now (area_by c.args.k))
    (λ s r b h e k. let told : b ≡ seen_at (entries_of r) (area_by c.args.k) 0 = search rules in told ∙ seen_at_lem _ _ e _)
