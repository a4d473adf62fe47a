use native.Mathlib.Omega.{arith}
use Rattle.tree.proofs.Start.{start_ready, start_built}
use Rattle.tree.proofs.build.Goals as goal

pub build_block-requires : goal.build_block-requires
build_block-requires c =
    start_ready c.requires c.live_slots-n.ensures c.whole_map.ensures c.new-all.ensures (omega (arith, c.live_slots-n.auto.to)) _ _

pub returns : goal.returns
returns c =
    start_built c.requires c.live_slots-n.ensures c.whole_map.ensures c.new-all.ensures c.build_block.ensures
