-- A line taken out of a sound map, over plain lists.
use mathlib.Core.Path.{◌≡◌, refl, sym, ap, ◌∙◌, subst}
use mathlib.Core.Bool.{true, false}
use mathlib.Core.List.{List}
use Prim.Native.Nat.{ℕ, ◌≤◌}
use native.Mathlib.Omega.{arith}
use lib.ListN.{length, replicate}
use borrow.Author.Tests.{le-leb}
use Rattle.algebra.specs.Tests.{no_path, both←}
use Rattle.definitions.specs.Tree.{base_rule, tree, nodes_of, listings_of}
use Rattle.definitions.specs.Tables.{Tables, live_lines, node_table, listing_table}
use Rattle.definitions.specs.Calls.{with_slot, freed, rebuilt, room_for}
use Rattle.meaning.specs.Changes.{slots_freed, sub_freed}
use Rattle.meaning.specs.Rules.{fewer, base_fair}
use Rattle.meaning.specs.Slots.{as_long'}
use Rattle.meaning.specs.Sound.{sound→, fits_nodes, fits_listings}
use Rattle.tables.specs.declared.Row.{Row}
use Rattle.tables.specs.Rows.{row_at, emptied_row, entries_of, freed_is}
use Rattle.tables.specs.Lent.{tables, Scratch, as_many, as_listed, lines_short}
use Rattle.std.specs.Prelude.{Option, Some, None}
use Rattle.tables.specs.declared.Place.{Place}
use Rattle.tree.specs.Builds.{GoodTable, TreeBuilt}
use Rattle.tree.specs.Whole.{good_table, tables_are, no_room}
use Rattle.changes.specs.Changing.{Taking}
use Rattle.changes.proofs.Inserts.{slots_ok}

module _ {lines nodes listings : List ℕ} {slot : ℕ} (w : Taking base_rule lines nodes listings slot) where
  abbrev before : Tables
  before = tables lines nodes listings

  module _ {row row' : Row} {lines₁ : List ℕ} (e : row ≡ row_at lines slot) (f : row' ≡ emptied_row row) (is : lines₁ ≡ with_slot lines slot (entries_of row')) where
    is_freed : lines₁ ≡ freed lines slot
    is_freed = is ∙ freed_is lines slot e f

    pub freed_good : GoodTable lines₁
    freed_good = subst GoodTable (sym is_freed) (good_table (freed lines slot) short (slots_freed lines slot w.there (slots_ok w.passed)))
      where
        short : length (freed lines slot) ≤ 8192
        short = omega (arith, as_long' lines slot w.there, lines_short lines nodes listings w.passed.fit)

    -- the tree of what remains fits
    room : room_for base_rule before (freed lines slot) ≡ true
    unfolding room_for
    room =
        let s = sound→ base_rule before w.passed.ok in
        let u = fewer base_rule base_fair (sub_freed lines slot w.there w.lives) in
        both←
        (le-leb (length (nodes_of (tree base_rule (live_lines (freed lines slot))))) (length nodes) (omega (arith, u.nodes, fits_nodes base_rule before s)))
        (le-leb (length (listings_of (tree base_rule (live_lines (freed lines slot))))) (length listings) (omega (arith, u.listings, fits_listings base_rule before s)))

    module _ {nodes₁ listings₁ nodes₂ listings₂ : List ℕ} {r : Option Place} (n : nodes₁ ≡ replicate (length nodes) 0) (m : listings₁ ≡ replicate (length listings) 0)
        (b : TreeBuilt lines₁ nodes₁ listings₁ nodes₂ listings₂ r) where
      cleared : Scratch nodes listings nodes₁ listings₁
      cleared = record { no_nodes = n; no_listings = m }

      pub taken_out : tables lines₁ nodes₂ listings₂ ≡ rebuilt base_rule before (freed lines slot)
      taken_out = go r refl
        where
          go : (x : Option Place) → r ≡ x → tables lines₁ nodes₂ listings₂ ≡ rebuilt base_rule before (freed lines slot)
          go (Some p) q = unfold rebuilt in
              (let t = tables_are b q (length nodes) (length listings) n m in
              λ i. tables (is_freed i) ((t.nodes_are ∙ ap (node_table base_rule (length nodes)) is_freed) i) ((t.listings_are ∙ ap (listing_table base_rule (length listings)) is_freed) i))
          go None q =
              no_path (sym (subst (λ (z : List ℕ). room_for base_rule before z ≡ false) is_freed
              (no_room b before (as_many cleared) (as_listed cleared) q)) ∙ room)
