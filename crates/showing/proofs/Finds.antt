-- The leaf that is shown, over plain lists.
use Rattle.std.specs.Prelude.{Ok}
use mathlib.Core.Path.{◌≡◌, sym, ap, ◌∙◌, subst}
use mathlib.Core.Bool.{true, ◌&&◌}
use mathlib.Core.List.{List}
use Prim.Native.Nat.{ℕ, ◌*◌, ◌≤◌}
use native.Mathlib.Omega.{arith}
use lib.ListN.{length}
use borrow.Author.Tests.{leb-true}
use Rattle.algebra.specs.Tests.{both→}
use Rattle.definitions.specs.Shape.{grid_point}
use Rattle.definitions.specs.Tree.{Tree, Rule, tree}
use Rattle.definitions.specs.Tables.{live_lines, on_grid}
use Rattle.definitions.specs.Lookup.{shown_at, leaf_over}
use Rattle.meaning.specs.Sound.{sound→, fits_listings}
use Rattle.tables.specs.Lent.{tables, Passed, lines_short, nodes_short, listings_short}
use Rattle.walk.specs.declared.Leaf.{Leaf}
use Rattle.walk.specs.Index.{Standing, Indexed, Walkable, Searchable, LeafOver}
use Rattle.walk.specs.Placing.{map_standing}
use Rattle.showing.specs.Asking.{AskedIs}
use Rattle.showing.specs.Steps.{show_0}

pub searchable : {nodes index : List ℕ} → Walkable nodes 65536 0 0 → ((t : Tree) → Standing nodes t 0 0 → Indexed index t 0 0) → length index ≡ 65536 → Searchable nodes index
searchable {nodes} {index} w f e =
    record {
      walkable = record { tree = w.tree; standing = w.standing; few = w.few; room = subst (λ (n : ℕ). 4 * length nodes ≤ n) (sym e) w.room };
      indexed = f w.tree w.standing;
    }

module _ {rule : Rule} {lines nodes listings : List ℕ} (w : Passed rule lines nodes listings) where
  abbrev ours : Tree
  ours = tree rule (live_lines lines)

  pub stands : Standing nodes ours 0 0
  stands =
      let s = sound→ rule (tables lines nodes listings) w.ok in
      map_standing rule lines nodes listings (lines_short lines nodes listings w.fit) (listings_short lines nodes listings w.fit) s.nodes s.listings

  pub walkable : Walkable nodes 65536 0 0
  walkable =
      let n = nodes_short lines nodes listings w.fit in
      record { tree = ours; standing = stands; few = n; room = omega arith }

  module _ (x y : ℕ) (g : (on_grid x && on_grid y) ≡ true) where
    pub x_low : x ≤ 16383
    x_low = leb-true x 16383 (both→ (on_grid x) (on_grid y) g).0

    pub y_low : y ≤ 16383
    y_low = leb-true y 16383 (both→ (on_grid x) (on_grid y) g).1

    pub found : {f : Leaf} → ((t : Tree) → Standing nodes t 0 0 → LeafOver (grid_point x y) t f) → AskedIs rule (tables lines nodes listings) x y (Ok f)
    unfolding leaf_over
    found {f} h =
        let u = h ours stands in
        let s = fits_listings rule (tables lines nodes listings) (sound→ rule (tables lines nodes listings) w.ok) in (
          show_0 rule (tables lines nodes listings) x y w.fit w.ok g ∙ ap (λ l. shown_at l listings) (sym u.leaf_is),
          omega (arith, u.within, s),
        )
