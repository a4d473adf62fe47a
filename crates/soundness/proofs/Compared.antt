-- What building into scratch and comparing says, over plain lists.
use mathlib.Core.Path.{◌≡◌, refl, sym, ap, ◌∙◌}
use mathlib.Core.Bool.{Bool, true, false, not}
use mathlib.Core.List.{List}
use Prim.Native.Nat.{ℕ}
use lib.ListN.{length, take, replicate}
use Rattle.algebra.specs.Words.{same_list}
use Rattle.algebra.specs.Lists.{list_same}
use Rattle.definitions.specs.Tree.{base_rule}
use Rattle.definitions.specs.Tables.{sound, none_conflict}
use Rattle.tables.specs.declared.Place.{Place}
use Rattle.tables.specs.Lent.{tables, as_many, as_listed, lines_short, listings_short, fronts}
use Rattle.std.specs.Prelude.{Option, Some, None}
use Rattle.tree.specs.Builds.{GoodTable, TreeBuilt}
use Rattle.tree.specs.Whole.{good_table, TablesAre, tables_are}
use Rattle.tree.specs.Whole as whole
use Rattle.leaves.specs.Pass.{TreeUsed}
use Rattle.soundness.specs.Comparing.{Slotted, Comparing}
use Rattle.soundness.specs.Soundness.{no_room, other_nodes, other_listings, all_same}

pub compare : {lines nodes listings : List ℕ} → Slotted lines nodes listings → Comparing lines nodes listings (take (length nodes) (replicate 16384 0)) (take (length listings) (replicate 16384 0))
compare {lines} {nodes} {listings} s = record { slotted = s; scratch = fronts lines nodes listings s.fit }

module _ {lines nodes listings built named : List ℕ} (w : Comparing lines nodes listings built named) where
  pub good : GoodTable lines
  good = good_table lines (lines_short lines nodes listings w.slotted.fit) w.slotted.slots

  module _ {built' named' : List ℕ} {r : Option Place} (b : TreeBuilt lines built named built' named' r) where
    pub none_fits : r ≡ None → false ≡ sound base_rule (tables lines nodes listings)
    none_fits e = sym (no_room base_rule (tables lines nodes listings) (whole.no_room b (tables lines nodes listings) (as_many w.scratch) (as_listed w.scratch) e))

    module _ {p : Place} (e : r ≡ Some p) where
      abbrev made : TablesAre lines (length nodes) (length listings) built' named'
      made = tables_are b e (length nodes) (length listings) w.scratch.no_nodes w.scratch.no_listings

      pub nodes_differ : same_list nodes built' ≡ false → false ≡ sound base_rule (tables lines nodes listings)
      nodes_differ d = sym (other_nodes base_rule (tables lines nodes listings) (sym (ap (same_list nodes) made.nodes_are) ∙ d))

      pub listings_differ : same_list listings named' ≡ false → false ≡ sound base_rule (tables lines nodes listings)
      listings_differ d = sym (other_listings base_rule (tables lines nodes listings) (sym (ap (same_list listings) made.listings_are) ∙ d))

      module _ (n : same_list nodes built' ≡ true) (m : same_list listings named' ≡ true) where
        pub to_try : TreeUsed lines nodes listings p.node
        to_try =
            record {
              tables = record {
                rule = base_rule;
                slots = w.slotted.slots;
                nodes_are = list_same nodes built' n ∙ made.nodes_are;
                listings_are = list_same listings named' m ∙ made.listings_are;
                short = listings_short lines nodes listings w.slotted.fit;
              };
              count = whole.nodes_used b e;
            }

        pub tried : {c : Bool} → c ≡ not (none_conflict lines) → not c ≡ sound base_rule (tables lines nodes listings)
        tried {c} f = ap not f ∙ twice (none_conflict lines) ∙ all_same base_rule (tables lines nodes listings) w.slotted.slots (sym (ap (same_list nodes) made.nodes_are) ∙ n) (sym (ap (same_list listings) made.listings_are) ∙ m)
          where
            twice : (x : Bool) → not (not x) ≡ x
            twice true = refl
            twice false = refl
