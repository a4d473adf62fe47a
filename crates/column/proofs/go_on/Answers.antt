-- `column::go_on` meets its contract: the strip over p, the other son put by, and the son gone to.
use mathlib.Core.Path.{refl}
use native.Mathlib.Numerals.{add-one}
use native.Mathlib.Omega.{arith}
use Rattle.path.specs.Seats.{strip_few, entry_most}
use Rattle.column.proofs.go_on.Goals as goal

pub offset_bounds-index-after : goal.offset_bounds-index-after
offset_bounds-index-after c = omega (arith, strip_few c.strip_of-two.ensures, c.requires, entry_most c.entry_of-after.ensures)

pub bounds-index-after : goal.bounds-index-after
bounds-index-after c = omega (arith, strip_few c.strip_of-two.ensures, c.requires, entry_most c.entry_of-after.ensures)

pub entry_of-son-requires : goal.entry_of-son-requires
entry_of-son-requires c = omega (arith, strip_few c.strip_of-two.ensures, c.requires)

pub offset_bounds-index-son : goal.offset_bounds-index-son
offset_bounds-index-son c = omega (arith, strip_few c.strip_of-two.ensures, c.requires, entry_most c.entry_of-son.ensures)

pub bounds-index-son : goal.bounds-index-son
bounds-index-son c = omega (arith, strip_few c.strip_of-two.ensures, c.requires, entry_most c.entry_of-son.ensures)

-- given, so that a wrong count of the blocks put by is refused at `by_is`
pub returns : goal.returns
returns c =
    record {
      which = _;
      above = _;
      below = _;
      strip = c.strip_of-two.ensures;
      last = _;
      last_is = c.son_of.ensures;
      after = _;
      after_is = c.entry_of-after.ensures;
      room = c.requires.room;
      put = refl;
      son = _;
      entry = c.entry_of-son.ensures;
      node_is = c.from.ensures;
      block_is = c.son_of-2.ensures;
      by_is = add-one _;
    }
