use Rattle.std.proofs.Common.{◌∙◌}
use Rattle.definitions.specs.Tables.{is_live, live_slots}
use Rattle.tables.specs.Rows.{live_at}
use Rattle.tables.proofs.live_slots.Goals as goal

pub returns : goal.returns
unfolding live_slots
returns c = c.gather.ensures (is_live c.args.lines.now) (λ s r b h e k. k.1 ∙ live_at _ _ e)
