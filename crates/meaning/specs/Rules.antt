-- Rule 1 is fair; over any fair rule, fewer lines have no larger a tree, so a delete always fits.
use Rattle.std.specs.Prelude.{◌≡◌, refl, ◌⊎◌, Bool, true, false, ℕ, zero, suc, ◌+◌, ◌^◌, ◌≤◌, length}
use Rattle.std.proofs.Common.{sym, ◌∙◌, ap, inl, inr, arith}
use mathlib.Core.List.Memᴰ
use mathlib.Core.List.{List, [], ◌∷◌, Memᴰ}
use Rattle.definitions.specs.declared.Point.{Point}
use Rattle.algebra.specs.Lists.{in_those, of_those}
use Rattle.algebra.specs.Tests.{no_path, both_ways}
use Rattle.algebra.specs.Words.{those}
use Rattle.definitions.specs.Shape.{Line, Block, meets_area, meets, corners, left_of, right_of, is_end}
use Rattle.definitions.specs.Tree.{ends_of, simple, Tree, leaf, divided, listed, block, tree, nodes_of, listings_of, Rule, tree_by, base_rule}
use Rattle.meaning.specs.Fair.{Sub, SameEnds, Within, Once, Fair, no_line, one_more}
use Rattle.meaning.specs.Fewer.{sub_those, fewer_simple, Smaller, four_smaller, some_node, leaf_listings, covered, a_son, listings4, Simple, simple→, simple←, in_ends_a, in_ends_b}

pub by_leaf : (rule : Rule) (lines : List Line) (n w s : ℕ) → rule (block (suc n) w s) lines ≡ true
    → tree_by rule lines (suc n) w s ≡ leaf (listed lines (block (suc n) w s))
unfolding tree_by
by_leaf rule lines n w s e = rw (e, tree_by) refl

abbrev pub sons_by : Rule → List Line → ℕ → ℕ → ℕ → Tree
sons_by rule lines n w s =
    divided (tree_by rule lines n w (s + 2 ^ suc n)) (tree_by rule lines n (w + 2 ^ suc n) (s + 2 ^ suc n)) (tree_by rule lines n w s) (tree_by rule lines n (w + 2 ^ suc n) s)

pub by_divided : (rule : Rule) (lines : List Line) (n w s : ℕ) → rule (block (suc n) w s) lines ≡ false → tree_by rule lines (suc n) w s ≡ sons_by rule lines n w s
unfolding tree_by
by_divided rule lines n w s e = rw (e, tree_by) refl

pub meets_ends : (k : Block) (l m : Line) → SameEnds l m → meets k l ≡ meets k m
unfolding meets meets_area corners left_of right_of
meets_ends k l m e = λ i. meets k (record { slot = l.slot; a = e.0 i; b = e.1 i })

pub is_end_ends : (p : Point) (l m : Line) → SameEnds l m → is_end p l ≡ is_end p m
unfolding is_end
is_end_ends p l m e = λ i. is_end p (record { slot = l.slot; a = e.0 i; b = e.1 i })

pub of_ends : {p : Point} (ls : List Line) → Memᴰ p (ends_of ls) → (l : Line) × Memᴰ l ls × ((p ≡ l.a) ⊎ (p ≡ l.b))
unfolding ends_of
of_ends [] m = absurd (Memᴰ.not-nil m)
of_ends (l ∷ ls) (Memᴰ.head e) = (l, Memᴰ.head refl, inl e)
of_ends (l ∷ ls) (Memᴰ.tail (Memᴰ.head e)) = (l, Memᴰ.head refl, inr e)
of_ends (l ∷ ls) (Memᴰ.tail (Memᴰ.tail m)) = let r = of_ends ls m in (r.0, Memᴰ.tail r.1, r.2)

pub in_ends : {p : Point} {l : Line} {ls : List Line} → Memᴰ l ls → (p ≡ l.a) ⊎ (p ≡ l.b) → Memᴰ p (ends_of ls)
in_ends m (inl e) = Memᴰ.cast e (in_ends_a m)
in_ends m (inr e) = Memᴰ.cast e (in_ends_b m)

pub within_ends : {ls ms : List Line} → Within ls ms → (p : Point) → Memᴰ p (ends_of ls) → Memᴰ p (ends_of ms)
within_ends {ls} {ms} f p m = let r = of_ends ls m in let t = f r.0 r.1 in in_ends t.1 (go r.0 t.0 r.2 t.2)
  where
    go : (l n : Line) → (p ≡ l.a) ⊎ (p ≡ l.b) → SameEnds l n → (p ≡ n.a) ⊎ (p ≡ n.b)
    go l n (inl e) q = inl (e ∙ q.0)
    go l n (inr e) q = inr (e ∙ q.1)

pub once_those : (p : Line → Bool) {ls : List Line} → Once ls → Once (those p ls)
unfolding those
once_those p no_line = no_line
once_those p (one_more {l = l} {ls = ls} f o) = go (p l) (once_those p o)
  where
    go : (b : Bool) → Once (those p ls) → Once (elim b [ true ↦ l ∷ those p ls | false ↦ those p ls ])
    go true h = one_more (λ m q. f m (of_those p ls q).0) h
    go false h = h

pub at_most_one : {A : Type 0} (xs : List A) → length xs ≤ 1 → {x y : A} → Memᴰ x xs → Memᴰ y xs → x ≡ y
at_most_one [] h m n = absurd (Memᴰ.not-nil m)
at_most_one (x ∷ []) h (Memᴰ.head e) (Memᴰ.head q) = e ∙ sym q
at_most_one (x ∷ []) h (Memᴰ.head e) (Memᴰ.tail n) = absurd (Memᴰ.not-nil n)
at_most_one (x ∷ []) h (Memᴰ.tail m) n = absurd (Memᴰ.not-nil m)
at_most_one (x ∷ y ∷ xs) h m n = absurd (omega arith)

pub few : {ls : List Line} → Once ls → ((l m : Line) → Memᴰ l ls → Memᴰ m ls → SameEnds l m) → length ls ≤ 1
few no_line f = omega arith
few (one_more g no_line) f = omega arith
few (one_more {l = l} g (one_more {l = m} h o)) f = absurd (g m (Memᴰ.head refl) (f l m (Memᴰ.head refl) (Memᴰ.tail (Memᴰ.head refl))))

pub simple_within : (k : Block) {ls ms : List Line} → Once ls → Within ls ms → Simple ms k → Simple ls k
simple_within k {ls} {ms} o f (inl s) =
    inl (record {
      end = s.end;
      here = s.here;
      only = λ q m i. s.only q (within_ends f q m) i;
      shared = λ l m i. let t = f l m in is_end_ends s.end l t.0 t.2 ∙ s.shared t.0 t.1 (sym (meets_ends k l t.0 t.2) ∙ i);
    })
simple_within k {ls} {ms} o f (inr s) =
    inr (record { empty = λ q m i. s.empty q (within_ends f q m) i; one = few (once_those (meets k) o) same })
  where
    same : (l m : Line) → Memᴰ l (those (meets k) ls) → Memᴰ m (those (meets k) ls) → SameEnds l m
    same l m p q =
        let p' = of_those (meets k) ls p in
        let q' = of_those (meets k) ls q in
        let t = f l p'.0 in
        let u = f m q'.0 in
        let e = at_most_one (those (meets k) ms) s.one (in_those (meets k) ms t.1 (sym (meets_ends k l t.0 t.2) ∙ p'.1)) (in_those (meets k) ms u.1 (sym (meets_ends k m u.0 u.2) ∙ q'.1)) in
        (t.2.0 ∙ ap (λ (n : Line). n.a) e ∙ sym u.2.0, t.2.1 ∙ ap (λ (n : Line). n.b) e ∙ sym u.2.1)

pub base_fair : Fair base_rule
unfolding base_rule
base_fair =
    record {
      reads = λ k {ls} {ms} o p f g. both_ways (simple ls k) (simple ms k)
          (λ e. simple← ms k (simple_within k p g (simple→ ls k e))) (λ e. simple← ls k (simple_within k o f (simple→ ms k e)));
      bare = λ k. simple← [] k (inr (record { empty = λ q m i. nothing q m; one = unfold those in (omega arith) }));
      removing = λ k {ls} {ms} s e. simple← ls k (fewer_simple k s (simple→ ms k e));
    }
  where
    nothing : (q : Point) → Memᴰ q (ends_of []) → ⊥
    nothing q m = Memᴰ.not-nil (of_ends [] m).1

pub listed_below_by : (rule : Rule) (ls : List Line) (n w s : ℕ) → length (those (meets (block n w s)) ls) ≤ length (listings_of (tree_by rule ls n w s))
unfolding tree_by
listed_below_by rule ls zero w s = omega (arith, leaf_listings ls (block zero w s))
listed_below_by rule ls (suc n) w s =
    go (rule (block (suc n) w s) ls) refl
    (listed_below_by rule ls n w (s + 2 ^ suc n)) (listed_below_by rule ls n (w + 2 ^ suc n) (s + 2 ^ suc n)) (listed_below_by rule ls n w s) (listed_below_by rule ls n (w + 2 ^ suc n) s)
  where
    Below : ℕ → ℕ → Type 0
    Below x y = length (those (meets (block n x y)) ls) ≤ length (listings_of (tree_by rule ls n x y))

    go : (t : Bool) → rule (block (suc n) w s) ls ≡ t → Below w (s + 2 ^ suc n) → Below (w + 2 ^ suc n) (s + 2 ^ suc n) → Below w s → Below (w + 2 ^ suc n) s
        → length (those (meets (block (suc n) w s)) ls) ≤ length (listings_of (tree_by rule ls (suc n) w s))
    go true e a b c d = rw (by_leaf rule ls n w s e) (omega (arith, leaf_listings ls (block (suc n) w s)))
    go false e a b c d =
        rw (by_divided rule ls n w s e, listings4)
        (omega (arith, a, b, c, d, covered (meets (block (suc n) w s)) (meets (block n w (s + 2 ^ suc n))) (meets (block n (w + 2 ^ suc n) (s + 2 ^ suc n))) (meets (block n w s)) (meets (block n (w + 2 ^ suc n) s)) (a_son n w s) ls))

pub fewer_by : (rule : Rule) → Fair rule → {ls ms : List Line} → Sub ls ms → (n w s : ℕ) → Smaller (tree_by rule ls n w s) (tree_by rule ms n w s)
unfolding tree_by nodes_of
fewer_by rule fair {ls} {ms} sub zero w s =
    record { nodes = omega arith; listings = omega (arith, leaf_listings ls (block zero w s), leaf_listings ms (block zero w s), sub_those (meets (block zero w s)) sub) }
fewer_by rule fair {ls} {ms} sub (suc n) w s =
    go (rule (block (suc n) w s) ls) refl (rule (block (suc n) w s) ms) refl
    (four_smaller (fewer_by rule fair sub n w (s + 2 ^ suc n)) (fewer_by rule fair sub n (w + 2 ^ suc n) (s + 2 ^ suc n)) (fewer_by rule fair sub n w s) (fewer_by rule fair sub n (w + 2 ^ suc n) s))
  where
    go : (t : Bool) → rule (block (suc n) w s) ls ≡ t → (u : Bool) → rule (block (suc n) w s) ms ≡ u
        → Smaller (sons_by rule ls n w s) (sons_by rule ms n w s) → Smaller (tree_by rule ls (suc n) w s) (tree_by rule ms (suc n) w s)
    go true e u f h =
        record {
          nodes = rw (by_leaf rule ls n w s e) (some_node (tree_by rule ms (suc n) w s));
          listings = rw (by_leaf rule ls n w s e) (omega (arith, leaf_listings ls (block (suc n) w s), sub_those (meets (block (suc n) w s)) sub, listed_below_by rule ms (suc n) w s));
        }
    go false e true f h = no_path (sym e ∙ fair.removing (block (suc n) w s) sub f)
    go false e false f h = rw (by_divided rule ls n w s e, by_divided rule ms n w s f) h

pub fewer : (rule : Rule) → Fair rule → {ls ms : List Line} → Sub ls ms → Smaller (tree rule ls) (tree rule ms)
unfolding tree
fewer rule fair sub = fewer_by rule fair sub 14 0 0
