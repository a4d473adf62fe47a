use Rattle.std.proofs.Common.{refl, sym, ◌∙◌, arith}
use Rattle.path.specs.Placed.{placed_there}
use Rattle.column.specs.Walks.{leaf_on, leaf_down, down_reached, down_end}
use Rattle.lookup.proofs.Found.{found_on, found_best}
use Rattle.lookup.proofs.Walk.{walk_start, next_none, next_read, next_beside, next_put, coming_walks, walk_next}
use Rattle.lookup.proofs.Map.walk_column.Goals as goal
use Rattle.lookup.proofs.Map.walk_column.Goals.{then-settled, else-settled+then-at-eq0+in_default, then-at-eq0+in-Some, else-at-eq0}

pub leaves-init : goal.leaves-init
leaves-init c = record { stands = walk_start c.requires refl refl refl; kept = refl }

pub bounds-self-at : goal.bounds-self-at
bounds-self-at c = placed_there c.leaves.invariant.stands.leaf.placed

pub returns-in-On-clause-found : goal.returns-in-On-clause-found
returns-in-On-clause-found c = found_on c.answer_on.ensures (leaf_on c.leaves.invariant.stands.leaf c.scan.ensures c.in-On.is)

-- what the leaf left to go on with is `leaf_down ..`
pub settled-requires : goal.settled-requires
settled-requires c =
    let h = c.leaves.invariant.stands.leaf in
    record { on_way = (leaf_down c.leaves.invariant.stands.leaf c.scan.ensures c.in-Best.is).on_way; point = h.point; north_in = h.placed.north_in }

pub beside-at-requires : goal.beside-at-requires
beside-at-requires c = next_read c.leaves.invariant.stands.stands (omega (arith, c.if-at-eq0.true)) c.turn_off.ensures c.in-Some.is (omega arith)

-- the next block: beside the path, or put by
pub go_down-at-requires : goal.go_down-at-requires
go_down-at-requires c =
    let h = c.leaves.invariant.stands.stands in
    elim c.if-at-eq0.branch [
      | then-at-eq0+in-Some w ↦ rw (w.at-is) (coming_walks (next_beside h (omega (arith, w.if-at-eq0.true)) w.turn_off.ensures w.in-Some.is w.beside-at.ensures) (omega arith))
      | else-at-eq0 w ↦ rw (w.at-is) (coming_walks (next_put h (omega (arith, w.if-at-eq0.false)) w.take_up-at.ensures) (omega arith))
    ]

pub leaves-preserved : goal.leaves-preserved
leaves-preserved c =
    let h = c.leaves.invariant.stands.stands in
    record {
      stands = walk_next (elim c.if-at-eq0.branch [
        | then-at-eq0+in-Some w ↦ rw (w.at-is, w.level-is) (next_beside h (omega (arith, w.if-at-eq0.true)) w.turn_off.ensures w.in-Some.is w.beside-at.ensures)
        | else-at-eq0 w ↦ rw (w.at-is, w.level-is) (next_put h (omega (arith, w.if-at-eq0.false)) w.take_up-at.ensures)
      ]) (leaf_down c.leaves.invariant.stands.leaf c.scan.ensures c.in-Best.is) c.go_down-at.ensures c.requires.point;
      kept = c.leaves.invariant.kept;
    }

pub answer_of-requires : goal.answer_of-requires
answer_of-requires c = record { point = c.args.p; on_way = (leaf_down c.leaves.invariant.stands.leaf c.scan.ensures c.in-Best.is).on_way }

pub returns-clause-found : goal.returns-clause-found
returns-clause-found c =
    let s = c.requires.ready.chart.map.sound in
    found_best s.apart _ _ (elim c.if-settled.branch [
      | then-settled w ↦ down_reached (leaf_down c.leaves.invariant.stands.leaf c.scan.ensures c.in-Best.is) (sym c.settled.ensures ∙ w.if-settled.true)
      | else-settled+then-at-eq0+in_default w ↦ down_end (leaf_down c.leaves.invariant.stands.leaf c.scan.ensures c.in-Best.is) s.slots (next_none c.leaves.invariant.stands.stands (omega (arith, w.if-at-eq0.true)) w.turn_off.ensures w.in_default.is)
    ]) c.answer_of.ensures
