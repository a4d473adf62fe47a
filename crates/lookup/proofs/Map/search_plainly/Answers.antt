-- `lookup::Map::search_plainly` meets its contract.
use mathlib.Core.Path.{refl}
use Rattle.scan.specs.Told.{search_best}
use Rattle.lookup.proofs.Found.{found_on, found_best}
use Rattle.lookup.proofs.Map.search_plainly.Goals as goal

pub returns-in-On : goal.returns-in-On
returns-in-On c = found_on c.answer_on.ensures (rw c.in-On.is at c.search_all.ensures)

pub returns-in-Best : goal.returns-in-Best
returns-in-Best c = found_best c.requires.0.chart.map.sound.apart c.args.south _ (search_best c.search_all.ensures c.in-Best.is refl) c.answer_of.ensures
