use Rattle.tables.specs.Lent.{nodes_short, listings_short, front_long}
use Rattle.changes.proofs.Puts.{with_scratch}
use Rattle.changes.proofs.put_if_room.Goals as goal

pub slice_bounds-built-end : goal.slice_bounds-built-end
slice_bounds-built-end c = nodes_short _ _ _ c.requires.fit

pub slice_bounds-put_line-end : goal.slice_bounds-put_line-end
slice_bounds-put_line-end c = front_long 16384 _ (nodes_short _ _ _ c.requires.fit)

pub slice_bounds-named-end : goal.slice_bounds-named-end
slice_bounds-named-end c = listings_short _ _ _ c.requires.fit

pub slice_bounds-put_line-end-2 : goal.slice_bounds-put_line-end-2
slice_bounds-put_line-end-2 c = front_long 16384 _ (listings_short _ _ _ c.requires.fit)

pub put_line-requires : goal.put_line-requires
put_line-requires c = with_scratch c.requires
