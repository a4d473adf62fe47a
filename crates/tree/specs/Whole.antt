-- For callers: which line tables a build takes, and what its answer means.
use Rattle.std.specs.Prelude.{◌≡◌, true, false, List, ℕ, ◌≤◌, replicate, Option, Some, None}
use Rattle.std.proofs.Math.Path.{ap}
use Rattle.std.proofs.Common.{◌∙◌, subst, inl, inr, le-leb, leb-true}
use native.Mathlib.Omega.{arith}
use Rattle.std.proofs.Math.ListN.{length, length-replicate}
use Rattle.algebra.specs.Tests.{false_by, both→, both←}
use Rattle.algebra.specs.Words.{every, over}
use Rattle.definitions.specs.Tables.{Tables, slot_sound, slots_of, is_live, live_slots, live_lines, node_table, listing_table}
use Rattle.definitions.specs.Tree.{tree, base_rule, nodes_of, listings_of}
use Rattle.definitions.specs.Calls.{room_for}
use Rattle.tables.specs.declared.Place.{Place}
use Rattle.algebra.specs.Lists.{over_zeros}
use Rattle.tables.specs.Sound.{picked, sound_at, on_map, ends_apart}
use Rattle.tree.specs.Builds.{GoodTable, origin, Grew, Full, BuiltIs, TreeBuilt}

-- a table whose slots are sound
pub good_table : (lines : List ℕ) → length lines ≤ 8192 → every (slot_sound lines) (slots_of lines) ≡ true → GoodTable lines
unfolding live_slots
good_table lines short e =
    record {
      short = short;
      good = λ s m.
          let q = picked lines (is_live lines) {s = s} m in
          let ok = sound_at lines {s = s} e (omega (arith, q.0)) in
          record { on_map = on_map lines s q.0 ok q.1; proper = ends_apart lines s q.0 ok q.1 };
    }

-- the tables of the lines, n and m long
pub record TablesAre (lines : List ℕ) (n m : ℕ) (nodes listings : List ℕ) : Type 0 where
  pub nodes_are : nodes ≡ node_table base_rule n lines
  pub listings_are : listings ≡ listing_table base_rule m lines

module _ {lines nodes listings nodes' listings' : List ℕ} {r : Option Place} (b : TreeBuilt lines nodes listings nodes' listings' r) where
  abbrev ns : List ℕ
  ns = nodes_of (tree base_rule (live_lines lines))

  abbrev ls : List ℕ
  ls = listings_of (tree base_rule (live_lines lines))

  by : {x : Option Place} → r ≡ x → BuiltIs ns ls origin nodes listings nodes' listings' x
  by e = subst (λ (x : Option Place). BuiltIs ns ls origin nodes listings nodes' listings' x) e b.built

  -- where both tables were all 0
  pub tables_are : {p : Place} → r ≡ Some p → (n m : ℕ) → nodes ≡ replicate n 0 → listings ≡ replicate m 0 → TablesAre lines n m nodes' listings'
  unfolding node_table listing_table
  tables_are {p} e n m f g =
      let h : Grew ns ls origin p nodes listings nodes' listings' = by e in
      record {
        nodes_are = h.nodes_are ∙ ap (over 0 ns) f ∙ over_zeros ns n (omega (arith, ap length f, length-replicate {A = ℕ} n 0));
        listings_are = h.listings_are ∙ ap (over 0 ls) g ∙ over_zeros ls m (omega (arith, ap length g, length-replicate {A = ℕ} m 0));
      }

  -- the next place tells how many nodes the tree has
  pub nodes_used : {p : Place} → r ≡ Some p → p.node ≡ length ns
  nodes_used {p} e = let h : Grew ns ls origin p nodes listings nodes' listings' = by e in omega (arith, h.next_node)

  -- whether there is room depends on the tables' lengths alone
  module _ (t : Tables) (n : length t.nodes ≡ length nodes) (m : length t.listings ≡ length listings) where
    pub has_room : {p : Place} → r ≡ Some p → room_for base_rule t lines ≡ true
    unfolding room_for
    has_room {p} e =
        let h : Grew ns ls origin p nodes listings nodes' listings' = by e in
        both← (le-leb (length ns) (length t.nodes) (omega arith)) (le-leb (length ls) (length t.listings) (omega arith))

    pub no_room : r ≡ None → room_for base_rule t lines ≡ false
    unfolding room_for
    no_room e = false_by _ (λ v. let q = both→ _ _ v in more (leb-true _ _ q.0) (leb-true _ _ q.1) (by e))
      where
        more : length ns ≤ length t.nodes → length ls ≤ length t.listings → Full ns ls origin nodes listings → ⊥
        more h k (inl f) = omega arith
        more h k (inr f) = omega arith
