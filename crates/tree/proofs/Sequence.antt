-- Builds one after the other, and a list laid over the rest of a table.
use mathlib.Core.Path.{◌≡◌, sym, ap, ◌∙◌, subst}
use mathlib.Core.Logic.{inl, inr}
use mathlib.Core.List.{List, [], ◌∷◌, ◌++◌, append_assoc, append-nil}
use Prim.Native.Nat.{ℕ, ◌+◌, ◌-◌, ◌≤◌}
use native.Mathlib.Nat.{zero-add}
use native.Mathlib.Numerals.{add-one}
use native.Mathlib.Omega.{arith}
use lib.ListN.{length, take, drop, set, length-set, length-append, length-drop, drop_of_length-le}
use lib.Seq.{take-take, take_all, drop-drop, sets, sets-eq}
use borrow.Rule.Slice.PartMut.{put_mid, post_of}
use Rattle.algebra.specs.Lists.{over_two, over_length}
use Rattle.algebra.specs.Words.{over}
use Rattle.tables.specs.declared.Place.{Place}
use Rattle.std.specs.Prelude.{Option, Some, None}
use Rattle.tree.specs.Builds.{Grew, Full, BuiltIs, Grown}

-- ---- lengths and places after a build
module _ {ns ls : List ℕ} {at p : Place} {s t s₁ t₁ : List ℕ} (g : Grew ns ls at p s t s₁ t₁) where
  nodes_kept : length s₁ ≡ length s
  nodes_kept = ap length g.nodes_are ∙ over_length at.node ns s

  listings_kept : length t₁ ≡ length t
  listings_kept = ap length g.listings_are ∙ over_length at.listing ls t

-- ---- one build after another
module _ (ns ls ms ks : List ℕ) (at p : Place) (s t s₁ t₁ s₂ t₂ : List ℕ) where
  built_then : Grew ns ls at p s t s₁ t₁ → (r : Option Place) → BuiltIs ms ks p s₁ t₁ s₂ t₂ r → BuiltIs (ns ++ ms) (ls ++ ks) at s t s₂ t₂ r
  built_then a (Some q) b =
      let e = nodes_kept a in
      let f = listings_kept a in
      record {
        next_node = simp length-append (omega arith);
        next_listing = simp length-append (omega arith);
        nodes_fit = omega arith;
        listings_fit = omega arith;
        nodes_are = over_two ns ms s s₁ s₂ at.node p.node a.next_node a.nodes_are b.nodes_are;
        listings_are = over_two ls ks t t₁ t₂ at.listing p.listing a.next_listing a.listings_are b.listings_are;
      }
  built_then a None (inl h) = let e = nodes_kept a in inl (simp length-append (omega arith))
  built_then a None (inr h) = let e = listings_kept a in inr (simp length-append (omega arith))

full_more : (ns ls ms ks : List ℕ) (at : Place) (s t : List ℕ) → Full ns ls at s t → Full (ns ++ ms) (ls ++ ks) at s t
full_more ns ls ms ks at s t (inl h) = inl (simp length-append (omega arith))
full_more ns ls ms ks at s t (inr h) = inr (simp length-append (omega arith))

module _ {ns ls : List ℕ} {at : Place} {s t s₁ t₁ : List ℕ} {f : ℕ} {w w₁ : List ℕ} {x : Option Place} (a : Grown ns ls at s t s₁ t₁ f w w₁ x) where
  grew : {p : Place} → x ≡ Some p → Grew ns ls at p s t s₁ t₁
  grew e = subst (λ (z : Option Place). BuiltIs ns ls at s t s₁ t₁ z) e a.built

  -- the next places stand in the tables
  pub grown_fit : {p : Place} → x ≡ Some p → (p.node ≤ length s₁) × (p.listing ≤ length t₁)
  grown_fit e = let g = grew e in let n = nodes_kept g in let l = listings_kept g in (omega arith, omega arith)

  pub grown_then : {p : Place} → x ≡ Some p → {ms ks s₂ t₂ w₂ : List ℕ} {r : Option Place} → Grown ms ks p s₁ t₁ s₂ t₂ f w₁ w₂ r → Grown (ns ++ ms) (ls ++ ks) at s t s₂ t₂ f w w₂ r
  grown_then {p} e {ms} {ks} {s₂} {t₂} {w₂} {r} b = record { built = built_then ns ls ms ks at p s t s₁ t₁ s₂ t₂ (grew e) r b.built; below = b.below ∙ a.below }

  -- no room for the first, none for both
  pub grown_stop : x ≡ None → (ms ks : List ℕ) → Grown (ns ++ ms) (ls ++ ks) at s t s₁ t₁ f w w₁ None
  grown_stop e ms ks = record { built = full_more ns ls ms ks at s t (subst (λ (z : Option Place). BuiltIs ns ls at s t s₁ t₁ z) e a.built); below = a.below }

  -- seen from further down the list of slots, where it was as in v
  pub grown_low : (g : ℕ) (v : List ℕ) → g ≤ f → take g w ≡ take g v → Grown ns ls at s t s₁ t₁ g v w₁ x
  grown_low g v h e = record { built = a.built; below = sym (take-take g f w₁ h) ∙ ap (take g) a.below ∙ take-take g f w h ∙ e }

-- ---- a divided block: its own node, then its sons
module _ (ms ls : List ℕ) (at p : Place) (s t s' t' : List ℕ) (i : p.node ≡ at.node + 1) (j : p.listing ≡ at.listing) where
  built_divided : (r : Option Place) → BuiltIs ms ls p (set s at.node 65535) t s' t' r → BuiltIs (65535 ∷ ms) ls at s t s' t' r
  unfolding over
  built_divided (Some q) b =
      let l = length-set s at.node 65535 in
      record {
        next_node = omega arith;
        next_listing = omega arith;
        nodes_fit = omega arith;
        listings_fit = omega arith;
        nodes_are = b.nodes_are ∙ ap (λ (z : ℕ). sets (set s at.node 65535) z ms) (i ∙ add-one at.node);
        listings_are = b.listings_are ∙ ap (λ (z : ℕ). sets t z ls) j;
      }
  built_divided None (inl h) = let l = length-set s at.node 65535 in inl (omega arith)
  built_divided None (inr h) = inr (omega arith)

  pub grown_divided : {f : ℕ} {w w' : List ℕ} {r : Option Place} → Grown ms ls p (set s at.node 65535) t s' t' f w w' r → Grown (65535 ∷ ms) ls at s t s' t' f w w' r
  grown_divided {r = r} g = record { built = built_divided r g.built; below = g.below }

-- ---- a list laid over the rest of a table is laid over the table
module _ (at : ℕ) (t u : List ℕ) (fit : at + length u ≤ length t) where
  rest : take (length t - at) (drop at t) ≡ drop at t
  rest = take_all (length t - at) (drop at t) (omega (arith, length-drop at t))

  over_rest : over 0 u (drop at t) ≡ u ++ drop (at + length u) t
  unfolding over
  over_rest = sets-eq u (drop at t) 0 (omega (arith, length-drop at t)) ∙ ap (λ (z : List ℕ). u ++ z) (ap (λ (j : ℕ). drop j (drop at t)) (zero-add (length u)) ∙ drop-drop (length u) at t)

  over_is : over at u t ≡ take at t ++ (u ++ drop (at + length u) t)
  unfolding over
  over_is = sets-eq u t at fit ∙ simp append_assoc

  none_after : post_of at (length t - at) t ≡ []
  none_after = drop_of_length-le (drop at t) {i = length t - at} (omega (arith, length-drop at t))

  pub put_over : (d : List ℕ) → d ≡ over 0 u (take (length t - at) (drop at t)) → put_mid at (length t - at) t d ≡ over at u t
  put_over d e = ap (λ (z : List ℕ). take at t ++ (d ++ z)) none_after ∙ ap (λ (z : List ℕ). take at t ++ z) (append-nil d ∙ e ∙ ap (λ (z : List ℕ). over 0 u z) rest ∙ over_rest) ∙ sym over_is
