use mathlib.Core.Path.{◌∙◌}
use native.Mathlib.Omega.{arith}
use Rattle.algebra.specs.Lists.{mem_at}
use Rattle.geometry.specs.Range.{end_corner}
use Rattle.tables.specs.Rows.{line_ends}
use Rattle.scan.specs.Asked.{one}
use Rattle.scan.proofs.Scans.{onward_on, onward_counts, onward_aside, onward_end, stand_tells}
use Rattle.scan.proofs.scan_slots.Goals as goal
use Rattle.scan.proofs.scan_slots.Goals.{in-Counts, in-Aside}

-- the loop ends where the slots do
pub returns : goal.returns
returns c = onward_end c.loop-s.invariant (omega (arith, c.loop-s-test.false))

pub line_at-l-requires : goal.line_at-l-requires
line_at-l-requires c = c.requires.on_map _ (mem_at c.args.slots.now c.loop-s.s-index c.loop-s-test.true)

pub stand_of-requires : goal.stand_of-requires
stand_of-requires c = (line_ends (c.requires.on_map _ (mem_at c.args.slots.now c.loop-s.s-index c.loop-s-test.true)) c.line_at-l.ensures, end_corner c.requires.point)

pub returns-in-On : goal.returns-in-On
returns-in-On c = onward_on c.loop-s.invariant c.loop-s-test.true (stand_tells _ _ _ c.line_at-l.ensures c.stand_of.ensures c.in-On.is)

pub first_of-best-requires : goal.first_of-best-requires
first_of-best-requires c = let m = c.requires.on_map _ (mem_at c.args.slots.now c.loop-s.s-index c.loop-s-test.true) in
    record { point = c.args.p; first = c.loop-s.invariant.on_way; second = one m (stand_tells _ _ _ c.line_at-l.ensures c.stand_of.ensures c.in-Counts.is).1; is_line = c.line_at-l.ensures }

pub loop-s-preserved : goal.loop-s-preserved
loop-s-preserved c = let t = c.loop-s-test.true in
    elim c.match-stand_of.branch [
      | in-Counts w ↦ rw (w.best-is ∙ w.first_of-best.ensures) (onward_counts c.loop-s.invariant t (stand_tells _ _ _ c.line_at-l.ensures c.stand_of.ensures w.in-Counts.is) (c.requires.on_map _ (mem_at c.args.slots.now c.loop-s.s-index t)))
      | in-Aside w ↦ rw w.best-is (onward_aside c.loop-s.invariant t (stand_tells _ _ _ c.line_at-l.ensures c.stand_of.ensures w.in-Aside.is))
    ]
