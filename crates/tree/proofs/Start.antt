-- Where the build starts: the whole map, and every live slot a candidate.
use mathlib.Core.Path.{◌≡◌, refl, ap, subst}
use mathlib.Core.Bool.{true}
use mathlib.Core.List.{List, map, Memᴰ}
use Prim.Native.Nat.{ℕ, ◌*◌, ◌≤◌}
use native.Mathlib.Omega.{arith}
use lib.ListN.{length}
use lib.Seq.{slice}
use Rattle.algebra.specs.Signs.{zero_of_equal}
use Rattle.definitions.specs.Meaning.{Spot, OnLine}
use Rattle.definitions.specs.Shape.{Line, Block, whole_map, meets}
use Rattle.definitions.specs.Tables.{line_at, live_lines, live_slots}
use Rattle.definitions.specs.Tree.{Tree, tree_by, tree, base_rule, nodes_of, listings_of}
use Rattle.plane.specs.Meeting.{turn_at_is}
use Rattle.plane.proofs.Meeting.{meets_iff}
use Rattle.tables.specs.Rows.{OnMap}
use Rattle.tables.specs.Gathered.{Front}
use Rattle.tables.specs.Slots.{live_few}
use Rattle.std.specs.Prelude.{Option}
use Rattle.tables.specs.declared.Place.{Place}
use Rattle.candidates.specs.declared.Span.{Span}
use Rattle.tree.specs.Builds.{Grown, Ready, GoodTable, origin, tree_for, block_nodes, block_listings, TreeBuilt}

-- ---- a line on the grid meets the whole map
abbrev spot : Line → Spot
spot l = record { X = l.a.x.0; Y = l.a.y.0; Z = 1; some = omega arith }

first_on : (l : Line) → OnLine (spot l) l
first_on l = record { straight = zero_of_equal (turn_at_is l.a l.b (spot l)) (omega arith); from_west = omega arith; to_east = omega arith; from_south = omega arith; to_north = omega arith }

in_map : (lines : List ℕ) (s : ℕ) → OnMap lines s → meets whole_map (line_at lines s) ≡ true
unfolding line_at
in_map lines s g =
    (meets_iff whole_map (line_at lines s)).1 (
      spot (line_at lines s),
      first_on (line_at lines s),
      record { from_west = omega arith; to_east = omega (arith, g.grid_x1); from_south = omega arith; to_north = omega (arith, g.grid_y1) },
    )

-- ---- the whole build, from a list of slots w with the n live ones in front
module _ {lines w₀ w : List ℕ} {n : ℕ} (table : GoodTable lines) (front : Front (live_slots lines) w₀ w n) {k : Block} (whole : k ≡ whole_map)
    {c : Span} (all : c ≡ record { from = 0; to = n; free = n }) where
  pub start_ready : 57 * 1024 ≤ length w → (N L : ℕ) → Ready lines w c k 14 origin N L
  start_ready len N L =
      let few = live_few lines in
      let short = table.short in
      let count = front.count in
      rw (all, whole)
      (record {
        candidates = λ s m. let g = table.good s (subst (λ (z : List ℕ). Memᴰ s z) front.front m) in record { good = g; met = in_map lines s g.on_map };
        span = omega arith;
        below = omega arith;
        few = omega arith;
        work = omega arith;
        of_tree = record { side = refl; east = omega arith; north = omega arith };
        node = omega arith;
        listing = omega arith;
      })

  start_tree : tree_for lines (slice c.from c.to w) 14 k ≡ tree base_rule (live_lines lines)
  unfolding tree_for tree live_lines
  start_tree = rw (all, whole) (ap (λ (z : List ℕ). tree_by base_rule (map (line_at lines) z) 14 0 0) front.front)

  pub start_built : {s t s' t' w' : List ℕ} {r : Option Place} {f : ℕ}
      → Grown (block_nodes lines (slice c.from c.to w) 14 k) (block_listings lines (slice c.from c.to w) 14 k) origin s t s' t' f w w' r → TreeBuilt lines s t s' t' r
  unfolding block_nodes block_listings
  start_built {s} {t} {s'} {t'} {w'} {r} {f} g = record { built = (subst (λ (z : Tree). Grown (nodes_of z) (listings_of z) origin s t s' t' f w w' r) start_tree g).built }
