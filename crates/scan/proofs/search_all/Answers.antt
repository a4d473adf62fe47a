-- `scan::search_all` meets its contract.
use Rattle.scan.proofs.Plain.{all_scannable, plain_found}
use Rattle.scan.proofs.search_all.Goals as goal

pub scan_slots-requires : goal.scan_slots-requires
scan_slots-requires c = all_scannable _ _ c.requires.0 c.requires.1

pub returns : goal.returns
returns c = plain_found c.args.south c.args.p c.requires.0 c.scan_slots.result c.scan_slots.ensures
