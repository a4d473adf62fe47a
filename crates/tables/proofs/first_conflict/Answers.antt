use Rattle.std.proofs.Common.{◌≡◌, true, false, sym, ap, ◌∙◌, rules}
use Rattle.definitions.specs.Calls.{given_line}
use Rattle.definitions.specs.Shape.{same_point}
use Rattle.definitions.specs.Tables.{slot_sound}
use Rattle.geometry.specs.Means.{line_of}
use Rattle.geometry.specs.Range.{LineEnds, grid_ends}
use Rattle.tables.specs.Sound.{hinders_at, hinders_at_lem, conflicting_is, sound_at, given_on_grid, given_apart}
use Rattle.tables.specs.Slots.{first_slot_of}
use Rattle.tables.specs.Rows.{entries_of, slot_sound_at}
use Rattle.tables.proofs.first_conflict.Goals as goal

pub line_of-l-requires : goal.line_of-l-requires
line_of-l-requires c = given_on_grid _ c.requires.on_grid

pub first_slot-requires : goal.first_slot-requires
unfolding given_line
first_slot-requires c = λ s r h e.
    let sound : slot_sound (entries_of r) 0 ≡ true = slot_sound_at _ _ e ∙ sound_at _ c.requires.slots h in
    let long : same_point c.line_of-l.result.a c.line_of-l.result.b ≡ false = rw (c.line_of-l.ensures.0, c.line_of-l.ensures.1) (given_apart c.args.g c.requires.long) in
    let ends : LineEnds (line_of c.line_of-l.result) = grid_ends c.line_of-l.ensures (given_on_grid _ c.requires.on_grid) in
    search rules

pub returns : goal.returns
returns c =
    c.first_slot.ensures (hinders_at c.args.lines.now (line_of c.line_of-l.result))
    (λ s r b h e k. let told : b ≡ hinders_at (entries_of r) (line_of c.line_of-l.result) 0 = search rules in told ∙ hinders_at_lem _ _ e _)
    ∙ sym (ap first_slot_of (conflicting_is _ _ c.line_of-l.ensures))
