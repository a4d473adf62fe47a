use Rattle.std.proofs.Common.{rules, ◌/◌, ◌≡◌, true, false, length}
use Rattle.std.proofs.lemmas.Iterator.{cases_from_all, YieldsList-from_range}
use Rattle.definitions.specs.Tables.{slots_of, slot_sound}
use Rattle.tables.specs.Rows.{slot_sound_at}
use Rattle.tables.proofs.Loops.{every_from_all}
use Rattle.tables.proofs.slots_sound.Goals as goal

pub returns : goal.returns
unfolding slots_of
returns c =
    let sound = slot_sound c.args.lines.now in let n = length c.args.lines.now / 8 in
    every_from_all sound n _
    (cases_from_all _ _ _ (λ s. sound s ≡ true) (λ s. sound s ≡ false) c.all.ensures.ran (YieldsList-from_range 0 n n (search rules) (search rules)) (λ x q k. search (rules, slot_sound_at)) (λ x q k. search (rules, slot_sound_at)))
