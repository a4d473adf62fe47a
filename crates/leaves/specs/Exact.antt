-- The test of each leaf for itself is exact: no two lines of one leaf conflict exactly if no two live lines do.
use Rattle.std.specs.Prelude.{◌≡◌, ◌⊎◌, true, ℕ, ◌-◌, ◌≤◌, replicate}
use Rattle.std.proofs.Math.Path.{refl, ap}
use Rattle.std.proofs.Common.{sym, ◌∙◌, ap₂, subst, inl, inr, arith}
use Rattle.std.proofs.Math.Logic.{⊎_elim}
use Rattle.std.proofs.Math.Bool.{false, not}
use mathlib.Core.List.Memᴰ
use mathlib.Core.List.{List, [], ◌∷◌, ◌++◌, append-nil, Memᴰ}
use Rattle.std.proofs.Math.ListN.{length, take}
use Rattle.std.proofs.Math.Seq.{take-append_seam}
use borrow.Author.Tests.{not-true}
use Rattle.algebra.specs.Words.{every, Rising, none, one, padded}
use Rattle.algebra.specs.Lists.{every→, every←, padded_fits}
use Rattle.algebra.specs.Tests.{and_l, and_r, and_b, both_ways, false_by, no_path}
use Rattle.definitions.specs.Meaning.{LeafAt, here, in_nw, in_ne, in_sw, in_se, IsTree, whole, parted}
use Rattle.definitions.specs.Shape.{Line, Block, whole_map, conflict}
use Rattle.definitions.specs.Tables.{is_live, line_at, live_slots, live_lines, slot_sound, slots_of, none_conflict, node_table, listing_table}
use Rattle.definitions.specs.Tree.{Rule, Tree, tree, tree_by, nodes_of, listings_of}
use Rattle.meaning.specs.Apart.{leaf_lists, leaves_exact}
use Rattle.plane.specs.Crossing.{Proper}
use Rattle.meaning.specs.Leaves.{listed_iff}
use Rattle.meaning.specs.Means.{is_tree, live_by_slot}
use Rattle.meaning.specs.Sound.{conflict_back}
use Rattle.tables.specs.Sound.{on_map, ends_apart, sound_at, picked}
use Rattle.leaves.specs.Pass.{clear_of, leaf_apart, GoodSlot, Good, TreeUsed}
use Rattle.leaves.specs.Read.{leaves_of, Reads, ended, reads_tree, to_leaves, of_leaves}

-- ---- one leaf: the pairs tested, each one way, stand for all pairs
module _ (lines : List ℕ) where
  abbrev Apart : ℕ → ℕ → Type 0
  Apart x y = (x ≡ y) ⊎ (conflict (line_at lines x) (line_at lines y) ≡ false)

  back : (x y : ℕ) → GoodSlot lines x → GoodSlot lines y → conflict (line_at lines x) (line_at lines y) ≡ false → conflict (line_at lines y) (line_at lines x) ≡ false
  unfolding Proper
  back x y p q e = false_by _ (λ c. no_path (sym e ∙ conflict_back (line_at lines y) (line_at lines x) q.proper p.proper c))

  pub apart→ : (slots : List ℕ) → Good lines slots → leaf_apart lines slots ≡ true → {x y : ℕ} → Memᴰ x slots → Memᴰ y slots → Apart x y
  unfolding leaf_apart clear_of
  apart→ [] g e mx my = absurd (Memᴰ.not-nil mx)
  apart→ (s ∷ more) g e {x} {y} mx my = go mx my (λ m n. apart→ more (λ u m. g u (Memᴰ.tail m)) (and_r (clear_of lines (line_at lines s) more) _ e) m n)
    where
      clear : {u : ℕ} → Memᴰ u more → conflict (line_at lines s) (line_at lines u) ≡ false
      clear m = not-true _ (every→ _ more (and_l _ (leaf_apart lines more) e) m)

      go : Memᴰ x (s ∷ more) → Memᴰ y (s ∷ more) → (Memᴰ x more → Memᴰ y more → Apart x y) → Apart x y
      go (Memᴰ.head p) (Memᴰ.head q) f = inl (p ∙ sym q)
      go (Memᴰ.head p) (Memᴰ.tail n) f = inr (ap (λ (u : ℕ). conflict (line_at lines u) (line_at lines y)) p ∙ clear n)
      go (Memᴰ.tail m) (Memᴰ.head q) f =
          inr (ap (λ (u : ℕ). conflict (line_at lines x) (line_at lines u)) q ∙ back s x (g s (Memᴰ.head refl)) (g x (Memᴰ.tail m)) (clear m))
      go (Memᴰ.tail m) (Memᴰ.tail n) f = f m n

  pub apart← : {slots : List ℕ} → Rising slots → ((x y : ℕ) → Memᴰ x slots → Memᴰ y slots → Apart x y) → leaf_apart lines slots ≡ true
  unfolding leaf_apart clear_of
  apart← none f = refl
  apart← (one {x = s} {xs = more} h r) f =
      and_b _ _ (every← _ more (λ y m. ⊎_elim (λ e. absurd (omega (arith, h y m))) (λ e. ap not e) (f s y (Memᴰ.head refl) (Memᴰ.tail m))))
      (apart← r (λ x y m n. f x y (Memᴰ.tail m) (Memᴰ.tail n)))

-- ---- the leaves of a tree of sound slots
leaf_rises : {S : Block → Type 0} {ls : List Line} {k j : Block} {t : Tree} {list : List ℕ} → IsTree S ls k t → LeafAt k t j list → Rising list
leaf_rises (whole f l) (here e q) = subst Rising (sym q) l.rising
leaf_rises (parted f a b c d) (in_nw h) = leaf_rises a h
leaf_rises (parted f a b c d) (in_ne h) = leaf_rises b h
leaf_rises (parted f a b c d) (in_sw h) = leaf_rises c h
leaf_rises (parted f a b c d) (in_se h) = leaf_rises d h

abbrev tree_of : Rule → List ℕ → Tree
tree_of rule lines = tree rule (live_lines lines)

module _ (rule : Rule) (lines : List ℕ) (ok : every (slot_sound lines) (slots_of lines) ≡ true) where
  good_live : (s : ℕ) → Memᴰ s (live_slots lines) → GoodSlot lines s
  unfolding live_slots
  good_live s m =
      let p = picked lines (is_live lines) m in
      let sound = sound_at lines {s = s} ok (omega (arith, p.0)) in
      record { on_map = on_map lines s p.0 sound p.1; proper = ends_apart lines s p.0 sound p.1 }

  pub leaf_good : (slots : List ℕ) → Memᴰ slots (leaves_of (tree_of rule lines)) → Good lines slots
  unfolding tree
  leaf_good slots m s n =
      let l = of_leaves whole_map (tree_by rule (live_lines lines) 14 0 0) m in
      good_live s ((listed_iff lines l.0 s).0 (subst (λ (zs : List ℕ). Memᴰ s zs) (leaf_lists rule (live_lines lines) l.0 slots 14 0 0 l.1) n)).0

  rises : {j : Block} {slots : List ℕ} → LeafAt whole_map (tree_of rule lines) j slots → Rising slots
  unfolding tree
  rises h = leaf_rises (is_tree rule (λ k. rule k (live_lines lines) ≡ true) (live_lines lines) (λ k. (λ e. e, λ e. e)) (live_by_slot lines) 14 0 0) h

  -- so each leaf for itself
  pub leaves_apart : every (leaf_apart lines) (leaves_of (tree_of rule lines)) ≡ none_conflict lines
  leaves_apart =
      both_ways _ _
      (λ e. (leaves_exact rule lines ok).0 (λ k slots h x y mx my.
      apart→ lines slots (leaf_good slots (to_leaves h)) (every→ (leaf_apart lines) (leaves_of (tree_of rule lines)) e (to_leaves h)) mx my))
      (λ e. every← (leaf_apart lines) (leaves_of (tree_of rule lines)) (λ slots m. let l = of_leaves whole_map (tree_of rule lines) m in
      apart← lines (rises l.1) ((leaves_exact rule lines ok).1 e l.0 slots l.1)))

-- ---- the tables as they stand: what is used of them reads as the tree's leaves
module _ {lines nodes listings : List ℕ} {used : ℕ} (t : TreeUsed lines nodes listings used) where
  abbrev built : Tree
  built = tree_of t.tables.rule lines

  pub used_fits : used ≤ length nodes
  unfolding node_table
  used_fits = omega (arith, t.count, padded_fits _ _ (sym (ap length t.tables.nodes_are)))

  pub tables_read : Reads (take used nodes) listings (leaves_of built)
  tables_read =
      subst (λ (ns : List ℕ). Reads ns listings (leaves_of built)) (sym nodes_are)
      (subst (λ (ls : List ℕ). Reads (nodes_of built) ls (leaves_of built)) (sym listings_are)
      (simp append-nil at (reads_tree built {nodes = []} {listings = replicate (length listings - length (listings_of built)) 0} {leaves = []} (omega (arith, small, t.tables.short)) ended)))
    where
      small : length (listings_of built) ≤ length listings
      small = unfold listing_table in (padded_fits _ _ (sym (ap length t.tables.listings_are)))

      nodes_are : take used nodes ≡ nodes_of built
      nodes_are = unfold node_table padded in (ap₂ take t.count t.tables.nodes_are ∙ take-append_seam (nodes_of built) _)

      listings_are : listings ≡ listings_of built ++ replicate (length listings - length (listings_of built)) 0
      listings_are = unfold listing_table padded in t.tables.listings_are
