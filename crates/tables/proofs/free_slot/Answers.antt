use Rattle.std.proofs.Common.{◌∙◌}
use Rattle.definitions.specs.Calls.{free_slots}
use Rattle.tables.specs.Rows.{is_free, free_at}
use Rattle.tables.proofs.free_slot.Goals as goal

pub returns : goal.returns
unfolding free_slots
returns c = c.first_slot.ensures (is_free c.args.lines.now) (λ s r b h e k. k.1 ∙ free_at _ _ e)
