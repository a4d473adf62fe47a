use Rattle.candidates.proofs.Spreading.{turned_none, turned_on, on_map, sons_asked}
use Rattle.candidates.proofs.spread.Goals as goal

pub loop-i-init : goal.loop-i-init
loop-i-init c = turned_none c.requires

pub line_at-requires : goal.line_at-requires
line_at-requires c = on_map c.requires c.loop-i.invariant c.loop-i-test.true

pub sons_met-m-requires : goal.sons_met-m-requires
sons_met-m-requires c = sons_asked c.requires c.loop-i.invariant c.loop-i-test.true c.line_at.ensures

pub loop-i-preserved : goal.loop-i-preserved
loop-i-preserved c =
    rw (c.from-nw.ensures, c.from-ne.ensures, c.from-sw.ensures, c.from-se.ensures)
    (turned_on c.requires c.loop-i.invariant c.loop-i-test.true c.line_at.ensures c.sons_met-m.result c.sons_met-m.ensures)
