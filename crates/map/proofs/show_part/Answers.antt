use native.Mathlib.Omega.{arith}
use Rattle.map.proofs.Shows.{refused_part, refused_first, part_fits, shows_part, shows_first, placed_at}
use Rattle.map.proofs.show_part.Goals as goal

pub returns-in_default : goal.returns-in_default
returns-in_default c = let e = c.leaf_asked.ensures in let q = c.in_default.is in (refused_part _ _ _ _ e q, placed_at _ _ (refused_first _ _ _ _ e q))

pub overflow_add-end : goal.overflow_add-end
overflow_add-end c = record { fits = omega (arith, part_fits _ _ _ _ c.leaf_asked.ensures c.in-Ok.is) }

pub offset_bounds-listings-first : goal.offset_bounds-listings-first
offset_bounds-listings-first c = record { fits = omega (arith, part_fits _ _ _ _ c.leaf_asked.ensures c.in-Ok.is) }

pub slice_bounds-result-end-2 : goal.slice_bounds-result-end-2
slice_bounds-result-end-2 c = omega (arith, part_fits _ _ _ _ c.leaf_asked.ensures c.in-Ok.is)

pub returns : goal.returns
returns c = let e = c.leaf_asked.ensures in let q = c.in-Ok.is in (shows_part _ _ _ _ e q, placed_at _ _ (shows_first _ _ _ _ e q))
