use Rattle.tables.specs.Lent.{nodes_short, listings_short, front_long}
use Rattle.soundness.proofs.Compared.{compare}
use Rattle.soundness.proofs.trees_sound.Goals as goal

pub slice_bounds-made_nodes-end : goal.slice_bounds-made_nodes-end
slice_bounds-made_nodes-end c = nodes_short _ _ _ c.requires.fit

pub slice_bounds-built_same-end : goal.slice_bounds-built_same-end
slice_bounds-built_same-end c = front_long 16384 _ (nodes_short _ _ _ c.requires.fit)

pub slice_bounds-made_listings-end : goal.slice_bounds-made_listings-end
slice_bounds-made_listings-end c = listings_short _ _ _ c.requires.fit

pub slice_bounds-built_same-end-2 : goal.slice_bounds-built_same-end-2
slice_bounds-built_same-end-2 c = front_long 16384 _ (listings_short _ _ _ c.requires.fit)

pub built_same-requires : goal.built_same-requires
built_same-requires c = compare c.requires
