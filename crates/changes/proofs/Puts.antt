-- A row put in place, with room for the tree and without, over plain lists.
use mathlib.Core.Path.{◌≡◌, refl, sym, ap, ◌∙◌, subst}
use mathlib.Core.Bool.{true, false}
use mathlib.Core.List.{List}
use Prim.Native.Nat.{ℕ, ◌≤◌}
use native.Mathlib.Omega.{arith}
use lib.ListN.{length, take, replicate}
use Rattle.algebra.specs.Words.{over}
use Rattle.algebra.specs.Tests.{no_path}
use Rattle.algebra.specs.Lists.{over_all}
use Rattle.definitions.specs.Tree.{base_rule}
use Rattle.definitions.specs.Tables.{Tables, node_table, listing_table}
use Rattle.definitions.specs.Calls.{with_slot, rebuilt, room_for}
use Rattle.meaning.specs.Slots.{same_length}
use Rattle.tables.specs.declared.Place.{Place}
use Rattle.tables.specs.declared.Row.{Row}
use Rattle.tables.specs.Rows.{row_at, entries_of}
use Rattle.tables.specs.Lent.{tables, as_many, as_listed, lines_short, fronts}
use Rattle.std.specs.Prelude.{Option, Some, None}
use Rattle.std.specs.Option.{is_some}
use Rattle.tree.specs.Builds.{GoodTable, TreeBuilt}
use Rattle.tree.specs.Whole.{good_table, TablesAre, tables_are, has_room, no_room}
use Rattle.changes.specs.Changing.{Room, Putting, Put}
use Rattle.changes.specs.Restoring.{back_again}

eight : (r : Row) → length (entries_of r) ≡ 8
unfolding entries_of
eight r = refl

-- ---- put
none_is : {T : Type 0} (o : Option T) → is_some o ≡ false → o ≡ None
none_is None e = refl
none_is (Some x) e = no_path (sym e)

some_is : {T : Type 0} (o : Option T) → is_some o ≡ true → (x : T) × (o ≡ Some x)
some_is None e = no_path e
some_is (Some x) e = (x, refl)

module _ {lines nodes listings built named : List ℕ} {slot : ℕ} {row : Row} (w : Putting lines nodes listings slot row built named) where
  abbrev before : Tables
  before = tables lines nodes listings

  abbrev new : List ℕ
  new = with_slot lines slot (entries_of row)

  module _ {lines₁ : List ℕ} (is : lines₁ ≡ with_slot lines slot (entries_of row)) where
    pub put_good : GoodTable lines₁
    put_good = subst GoodTable (sym is) (good_table new short w.room.slots)
      where
        short : length new ≤ 8192
        short = omega (arith, same_length lines (entries_of row) slot (eight row) w.room.there, lines_short lines nodes listings w.room.fit)

    module _ {built' named' : List ℕ} {r : Option Place} (b : TreeBuilt lines₁ built named built' named' r) where
      pub not_put : is_some r ≡ false → {old : Row} → old ≡ row_at lines slot → {lines₂ : List ℕ} → lines₂ ≡ with_slot lines₁ slot (entries_of old) → Put base_rule before new (tables lines₂ nodes listings) false
      not_put e {old} o {lines₂} back = (
        subst (λ (z : List ℕ). room_for base_rule before z ≡ false) is (no_room b before (as_many w.scratch) (as_listed w.scratch) (none_is r e)),
        λ i. tables (again i) nodes listings,
      )
        where
          again : lines₂ ≡ lines
          again =
              back ∙ ap (λ (z : List ℕ). with_slot z slot (entries_of old)) is ∙ ap (λ (z : Row). with_slot new slot (entries_of z)) o
              ∙ back_again lines (entries_of row) slot (eight row) w.room.there

      module _ (some : is_some r ≡ true) where
        e : r ≡ Some (some_is r some).0
        e = (some_is r some).1

        pub put : length built' ≡ length nodes → length named' ≡ length listings → {nodes' listings' : List ℕ} → nodes' ≡ over 0 built' nodes → listings' ≡ over 0 named' listings
            → Put base_rule before new (tables lines₁ nodes' listings') true
        unfolding rebuilt
        put n m {nodes'} {listings'} f g = (
          subst (λ (z : List ℕ). room_for base_rule before z ≡ true) is (has_room b before (as_many w.scratch) (as_listed w.scratch) e),
          λ i. tables (is i) (nodes_are i) (listings_are i),
        )
          where
            t : TablesAre lines₁ (length nodes) (length listings) built' named'
            t = tables_are b e (length nodes) (length listings) w.scratch.no_nodes w.scratch.no_listings

            nodes_are : nodes' ≡ node_table base_rule (length nodes) new
            nodes_are = f ∙ over_all built' nodes n ∙ t.nodes_are ∙ ap (node_table base_rule (length nodes)) is

            listings_are : listings' ≡ listing_table base_rule (length listings) new
            listings_are = g ∙ over_all named' listings m ∙ t.listings_are ∙ ap (listing_table base_rule (length listings)) is

-- ---- scratch
pub with_scratch : {lines nodes listings : List ℕ} {slot : ℕ} {row : Row} → Room lines nodes listings slot row
    → Putting lines nodes listings slot row (take (length nodes) (replicate 16384 0)) (take (length listings) (replicate 16384 0))
with_scratch {lines} {nodes} {listings} r = record { room = r; scratch = fronts lines nodes listings r.fit }
