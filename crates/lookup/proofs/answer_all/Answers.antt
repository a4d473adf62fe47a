-- `lookup::answer_all` meets its contract. The index has four entries for each of 16,384 nodes, and no map has more than 1,024 live slots.
use native.Mathlib.Omega.{arith}
use Rattle.path.specs.Placed.{mapped_standing}
use Rattle.lookup.proofs.answer_all.Goals as goal

pub index_nodes-requires : goal.index_nodes-requires
index_nodes-requires c = let m = c.requires.0 in record { tree = _; standing = mapped_standing m; few = m.few_nodes; room = omega (arith, m.few_nodes) }

pub answer_each-requires : goal.answer_each-requires
answer_each-requires c =
    let m = c.requires.0 in
    (record { chart = record { map = m; room = omega (arith, m.few_nodes, c.index_nodes.auto.index); indexed = c.index_nodes.ensures _ (mapped_standing m) }; all = c.live_slots-n.ensures.front }, c.requires.1)
