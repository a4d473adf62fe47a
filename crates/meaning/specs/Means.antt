-- The rule of division and the tree as the paper words them: C1, C2' and C3 over the live lines, and the one tree that they leave.
use Rattle.std.specs.Prelude.{◌≡◌, ◌↔◌, Bool, true, false, ◌&&◌, leb, length}
use Rattle.std.proofs.Math.Path.{refl}
use Rattle.std.proofs.Common.{sym, ◌∙◌, ap, subst, inl, inr, leb-true, le-leb}
use mathlib.Core.List.Memᴰ
use mathlib.Core.List.{List, [], ◌∷◌, map, Memᴰ}
use Prim.Native.Nat.{ℕ, zero, suc, ◌+◌, ◌/◌, ◌^◌, ◌≤◌, ◌<◌}
use native.Mathlib.Omega.{arith}
use Rattle.definitions.specs.declared.Point.{Point}
use Rattle.algebra.specs.Lists.{in_those, of_those, rising_same, those_rising, up_from_rising}
use Rattle.algebra.specs.Tests.{no_path, and_l, and_r, and_b, or_r}
use Rattle.algebra.specs.Words.{those, Rising, one}
use Rattle.definitions.specs.Meaning.{Meets, EndOf, AnEnd, In, Criteria, Lists, IsTree, whole, parted}
use Rattle.definitions.specs.Shape.{Line, Block, east, north, meets, inside, same_point, is_end, whole_map, nw_of, ne_of, sw_of, se_of}
use Rattle.definitions.specs.Tables.{live_slots, line_at, live_lines, slots_of, is_live}
use Rattle.definitions.specs.Tree.{ends_of, simple, Tree, leaf, divided, listed, block, tree, Rule, tree_by, base_rule}
use Rattle.plane.specs.Blocks.{double, half_power, some_power}
use Rattle.plane.specs.Ends.{same_refl, same_path, end_cases}
use Rattle.meaning.specs.Fewer.{Simple, simple→, simple←}
use Rattle.plane.proofs.Meeting.{meets_iff}
use Rattle.meaning.specs.Rules.{of_ends, in_ends, at_most_one, by_leaf, by_divided}

pub inside→ : (k : Block) (p : Point) → inside k p ≡ true → In k p
unfolding inside
inside→ k p e =
    let w = leb k.west p.x.0 in
    let x = leb p.x.0 (east k) in
    let s = leb k.south p.y.0 in
    let n = leb p.y.0 (north k) in
    record {
      from_west = leb-true _ _ (and_l w x (and_l (w && x) (s && n) e));
      to_east = leb-true _ _ (and_r w x (and_l (w && x) (s && n) e));
      from_south = leb-true _ _ (and_l s n (and_r (w && x) (s && n) e));
      to_north = leb-true _ _ (and_r s n (and_r (w && x) (s && n) e));
    }

pub inside← : (k : Block) (p : Point) → In k p → inside k p ≡ true
unfolding inside
inside← k p i = and_b _ _ (and_b _ _ (le-leb _ _ i.from_west) (le-leb _ _ i.to_east)) (and_b _ _ (le-leb _ _ i.from_south) (le-leb _ _ i.to_north))

-- the lines stand by rising slot
abbrev pub BySlot : List Line → Type 0
BySlot lines = Rising (map (λ l. l.slot) lines)

rising_those : (p : Line → Bool) (lines : List Line) → BySlot lines → BySlot (those p lines)
unfolding those
rising_those p [] r = r
rising_those p (l ∷ ls) (one f r) = go (p l) (rising_those p ls r)
  where
    go : (b : Bool) → BySlot (those p ls) → BySlot (elim b [ true ↦ l ∷ those p ls | false ↦ those p ls ])
    go true h =
        one (λ y m. let u = Memᴰ.of_map (λ (n : Line). n.slot) (those p ls) m in
        f y (Memᴰ.cast (sym u.2) (Memᴰ.map (λ (n : Line). n.slot) (of_those p ls u.1).0))) h
    go false h = h

few_lines : (ls : List Line) → BySlot ls → ((l m : Line) → Memᴰ l ls → Memᴰ m ls → l ≡ m) → length ls ≤ 1
few_lines [] r f = omega arith
few_lines (l ∷ []) r f = omega arith
few_lines (l ∷ m ∷ ls) (one g r) f =
    absurd (loop (g m.slot (Memᴰ.head refl)) (ap (λ (n : Line). n.slot) (f l m (Memᴰ.head refl) (Memᴰ.tail (Memᴰ.head refl)))))
  where
    loop : {a b : ℕ} → a < b → a ≡ b → ⊥
    loop h e = omega arith

pub end_test : (p : Point) (l : Line) → EndOf p l → is_end p l ≡ true
unfolding is_end
end_test p l (inl q) = rw (q, same_refl l.a) refl
end_test p l (inr q) = or_r (same_point p l.a) (same_point p l.b) (rw q (same_refl l.b))

module _ (lines : List Line) (k : Block) where
  means→ : Simple lines k → Criteria lines k
  means→ (inl o) =
      record {
        c1 = λ p q m n i j. sym (is p m i) ∙ is q n j;
        c2 = λ p m i l n t. end_is p (is p m i) l (o.shared l n ((meets_iff k l).1 t));
        c3 = λ h l m p q t u. absurd (h o.end (l, p, end_cases o.end l (o.shared l p ((meets_iff k l).1 t))) (inside→ k o.end o.here));
      }
    where
      is : (p : Point) → AnEnd lines p → In k p → o.end ≡ p
      is p m i = same_path o.end p (o.only p (in_ends m.1 m.2) (inside← k p i))

      end_is : (p : Point) → o.end ≡ p → (l : Line) → is_end o.end l ≡ true → EndOf p l
      end_is p e l h = end_cases p l (subst (λ (q : Point). is_end q l ≡ true) e h)
  means→ (inr n) =
      record {
        c1 = λ p q m o i j. absurd (n.empty p (in_ends m.1 m.2) (inside← k p i));
        c2 = λ p m i l o t. absurd (n.empty p (in_ends m.1 m.2) (inside← k p i));
        c3 = λ h l m p q t u. at_most_one (those (meets k) lines) n.one (in_those (meets k) lines p ((meets_iff k l).1 t)) (in_those (meets k) lines q ((meets_iff k m).1 u));
      }

  means← : BySlot lines → Criteria lines k → Simple lines k
  means← r c = go (those (inside k) (ends_of lines)) refl
    where
      go : (ps : List Point) → those (inside k) (ends_of lines) ≡ ps → Simple lines k
      go [] e =
          inr (record {
            empty = λ q m i. nowhere q m i;
            one = few_lines (those (meets k) lines) (rising_those (meets k) lines r) (λ l m p q.
                let u = of_those (meets k) lines p in
                let v = of_those (meets k) lines q in
                c.c3 (λ p m i. nowhere p (in_ends m.1 m.2) (inside← k p i)) l m u.0 v.0 ((meets_iff k l).0 u.1) ((meets_iff k m).0 v.1));
          })
        where
          nowhere : (q : Point) → Memᴰ q (ends_of lines) → inside k q ≡ true → ⊥
          nowhere q m i = Memᴰ.not-nil (rw e at (in_those (inside k) (ends_of lines) m i))
      go (p ∷ ps) e =
          inl (record {
            end = p;
            here = mine.1;
            only = λ q m i. rw (c.c1 p q (of_ends lines mine.0) (of_ends lines m) (inside→ k p mine.1) (inside→ k q i)) (same_refl q);
            shared = λ l m t. end_test p l (c.c2 p (of_ends lines mine.0) (inside→ k p mine.1) l m ((meets_iff k l).0 t));
          })
        where
          mine : Memᴰ p (ends_of lines) × (inside k p ≡ true)
          mine = of_those (inside k) {x = p} (ends_of lines) (rw e (Memᴰ.head refl))

  -- The computed test is C1, C2' and C3
  pub simple_means : BySlot lines → (simple lines k ≡ true) ↔ Criteria lines k
  simple_means r = (λ e. means→ (simple→ lines k e), λ c. simple← lines k (means← r c))

lists_same : {lines : List Line} {k : Block} {xs ys : List ℕ} → Lists lines k xs → Lists lines k ys → xs ≡ ys
lists_same l m = rising_same l.rising m.rising (λ x. (λ p. (m.exactly x).1 ((l.exactly x).0 p), λ p. (l.exactly x).1 ((m.exactly x).0 p)))

-- there is only one
pub only_tree : {Simple : Block → Type 0} {lines : List Line} {k : Block} {t u : Tree} → IsTree Simple lines k t → IsTree Simple lines k u → t ≡ u
only_tree (whole f l) (whole g m) = ap leaf (lists_same l m)
only_tree (whole f l) (parted g a b c d) = absurd (f g)
only_tree (parted f a b c d) (whole g m) = absurd (g f)
only_tree (parted f a b c d) (parted g a' b' c' d') =
    let p = only_tree a a' in
    let q = only_tree b b' in
    let r = only_tree c c' in
    let s = only_tree d d' in
    λ i. divided (p i) (q i) (r i) (s i)

-- and there is one
listed_lists : (lines : List Line) (k : Block) → BySlot lines → Lists lines k (listed lines k)
unfolding listed
listed_lists lines k r = record { rising = rising_those (meets k) lines r; exactly = λ x. (there x, back x) }
  where
    there : (x : ℕ) → Memᴰ x (map (λ l. l.slot) (those (meets k) lines)) → (l : Line) × Memᴰ l lines × Meets k l × (x ≡ l.slot)
    there x m =
        let u = Memᴰ.of_map (λ (l : Line). l.slot) (those (meets k) lines) m in
        let v = of_those (meets k) lines u.1 in
        (u.0, v.0, (meets_iff k u.0).0 v.1, sym u.2)

    back : (x : ℕ) → (l : Line) × Memᴰ l lines × Meets k l × (x ≡ l.slot) → Memᴰ x (map (λ l. l.slot) (those (meets k) lines))
    back x (l, m, t, e) = Memᴰ.cast e (Memᴰ.map (λ (l : Line). l.slot) (in_those (meets k) lines m ((meets_iff k l).1 t)))

module _ (rule : Rule) (Crit : Block → Type 0) (lines : List Line) (means : (k : Block) → (rule k lines ≡ true) ↔ Crit k) (r : BySlot lines) where
  pub is_tree : (n w s : ℕ) → IsTree Crit lines (block n w s) (tree_by rule lines n w s)
  unfolding tree_by
  is_tree zero w s = whole (λ h. small h.1) (listed_lists lines (block zero w s) r)
    where
      small : 2 < 2 ^ suc zero → ⊥
      small h = omega arith
  is_tree (suc n) w s =
      go (rule (block (suc n) w s) lines) refl (is_tree n w (s + 2 ^ suc n)) (is_tree n (w + 2 ^ suc n) (s + 2 ^ suc n)) (is_tree n w s) (is_tree n (w + 2 ^ suc n) s)
    where
      At : ℕ → ℕ → Type 0
      At x y = IsTree Crit lines (block n x y) (tree_by rule lines n x y)

      e : 2 ^ suc n ≡ 2 ^ suc (suc n) / 2
      e = sym (half_power n)

      nw_e : block n w (s + 2 ^ suc n) ≡ nw_of (block (suc n) w s)
      nw_e = λ i. record { west = w; south = s + e i; side = e i }

      ne_e : block n (w + 2 ^ suc n) (s + 2 ^ suc n) ≡ ne_of (block (suc n) w s)
      ne_e = λ i. record { west = w + e i; south = s + e i; side = e i }

      sw_e : block n w s ≡ sw_of (block (suc n) w s)
      sw_e = λ i. record { west = w; south = s; side = e i }

      se_e : block n (w + 2 ^ suc n) s ≡ se_of (block (suc n) w s)
      se_e = λ i. record { west = w + e i; south = s; side = e i }

      big : 2 < 2 ^ suc (suc n)
      big = omega (arith, double (suc n), double n, some_power n)

      go : (b : Bool) → rule (block (suc n) w s) lines ≡ b → At w (s + 2 ^ suc n) → At (w + 2 ^ suc n) (s + 2 ^ suc n) → At w s → At (w + 2 ^ suc n) s
          → IsTree Crit lines (block (suc n) w s) (tree_by rule lines (suc n) w s)
      go true q a b c d =
          rw (by_leaf rule lines n w s q) (whole (λ h. h.0 ((means (block (suc n) w s)).0 q)) (listed_lists lines (block (suc n) w s) r))
      go false q a b c d =
          rw (by_divided rule lines n w s q)
          (parted (λ h. no_path (sym q ∙ (means (block (suc n) w s)).1 h), big)
          (subst (λ (k : Block). IsTree Crit lines k (tree_by rule lines n w (s + 2 ^ suc n))) nw_e a)
          (subst (λ (k : Block). IsTree Crit lines k (tree_by rule lines n (w + 2 ^ suc n) (s + 2 ^ suc n))) ne_e b)
          (subst (λ (k : Block). IsTree Crit lines k (tree_by rule lines n w s)) sw_e c)
          (subst (λ (k : Block). IsTree Crit lines k (tree_by rule lines n (w + 2 ^ suc n) s)) se_e d))

pub slots_rising : (lines : List ℕ) → Rising (live_slots lines)
unfolding live_slots slots_of
slots_rising lines = those_rising (is_live lines) (up_from_rising 0 _)

pub slots_back : (lines xs : List ℕ) → map (λ (l : Line). l.slot) (map (line_at lines) xs) ≡ xs
unfolding line_at
slots_back lines [] = refl
slots_back lines (x ∷ xs) = ap (λ (ys : List ℕ). x ∷ ys) (slots_back lines xs)

pub live_by_slot : (lines : List ℕ) → BySlot (live_lines lines)
unfolding live_lines
live_by_slot lines = rw (slots_back lines (live_slots lines)) (slots_rising lines)

-- The tree of the live lines is the paper's, and the only one
pub tree_is : (lines : List ℕ) → IsTree (Criteria (live_lines lines)) (live_lines lines) whole_map (tree base_rule (live_lines lines))
unfolding tree base_rule
tree_is lines = is_tree base_rule (Criteria (live_lines lines)) (live_lines lines) (λ k. simple_means (live_lines lines) k (live_by_slot lines)) (live_by_slot lines) 14 0 0

pub tree_only : (lines : List ℕ) {t : Tree} → IsTree (Criteria (live_lines lines)) (live_lines lines) whole_map t → t ≡ tree base_rule (live_lines lines)
tree_only lines h = only_tree h (tree_is lines)
