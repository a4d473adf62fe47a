-- `column::scan_leaf` meets its contract: the leaf's part of the listings is its list.
use mathlib.Core.Path.{sym, ◌∙◌}
use native.Mathlib.Omega.{arith}
use Rattle.scan.specs.Told.{none_there}
use Rattle.path.specs.Placed.{placed_there}
use Rattle.path.specs.Seats.{leaf_cut, cut_length}
use Rattle.column.proofs.Column.{leaf_scannable, leaf_told}
use Rattle.column.proofs.scan_leaf.Goals as goal

pub bounds-nodes-node : goal.bounds-nodes-node
bounds-nodes-node c = let q = c.requires.placed in placed_there q

pub returns-then-count-eq0 : goal.returns-then-count-eq0
returns-then-count-eq0 c = record { told = λ q. none_there (cut_length (leaf_cut q c.requires.whole) ∙ sym c.from-count.ensures ∙ c.if-count-eq0.true) c.requires.on_way }

pub slice_bounds-scan_slots-end : goal.slice_bounds-scan_slots-end
slice_bounds-scan_slots-end c = let q = c.requires.placed in omega (arith, (leaf_cut q c.requires.whole).within, c.from-from.ensures, c.from-count.ensures, q.chart.map.few_listings)

pub scan_slots-requires : goal.scan_slots-requires
scan_slots-requires c = leaf_scannable c.requires (rw (c.from-from.ensures, c.from-count.ensures) (leaf_cut c.requires.placed c.requires.whole).list_is)

pub returns : goal.returns
returns c = leaf_told _ _ _ _ _ _ _ _ _ _ c.requires.whole c.from-from.ensures c.from-count.ensures c.scan_slots.ensures
