-- Two lines that share a point share a leaf; filtering by a block's lines changes nothing in its sons.
use Rattle.std.specs.Prelude.{◌≡◌, ◌⊎◌, ◌↔◌, Bool, true, false, not, ◌&&◌, ◌||◌, leb, eqb}
use Rattle.std.proofs.Math.Path.{refl}
use Rattle.std.proofs.Common.{sym, ◌∙◌, ap, subst, inl, inr, arith, mul-le-mul_right, leb-true, eqb-true, eq-eqb}
use mathlib.Core.List.Memᴰ
use mathlib.Core.List.{List, [], ◌∷◌, map, Memᴰ}
use Prim.Native.Nat.{ℕ, zero, suc, ◌+◌, ◌*◌, ◌^◌, ◌≤◌, ◌<◌, max}
use Rattle.algebra.specs.Lists.{those_yes, those_no, in_those, of_those, every→, every←, cons_those, those_those}
use Rattle.algebra.specs.Signs.{zero_of_equal}
use Rattle.algebra.specs.Tests.{no_path, and_l, and_r, or_l, or_r, false_by}
use Rattle.algebra.specs.Words.{those, every}
use Rattle.definitions.specs.Meaning.{Spot, OnLine, InBlock, LeafAt, here, in_nw, in_ne, in_sw, in_se}
use Rattle.definitions.specs.Shape.{Line, Block, meets, inside, conflict, whole_map}
use Rattle.definitions.specs.Tables.{live, generation, x1, y1, x2, y2, is_live, slots_of, live_slots, line_at, live_lines, on_grid, live_sound, empty_sound, slot_sound, none_conflict}
use Rattle.definitions.specs.Tree.{ends_of, simple_with, simple, Tree, leaf, divided, listed, block, tree, Rule, tree_by, base_rule}
use Rattle.plane.specs.Blocks.{double, nw_is, ne_is, sw_is, se_is}
use Rattle.plane.specs.Compare.{order}
use Rattle.plane.specs.Crossing.{Proper, conflict_iff}
use Rattle.meaning.specs.Means.{inside→}
use Rattle.plane.specs.Meeting.{turn_at_is}
use Rattle.plane.proofs.Meeting.{meets_iff}
use Rattle.meaning.specs.Rules.{by_leaf, by_divided}
use Rattle.meaning.specs.Slots.{same_or_not}
use Rattle.meaning.specs.Sound.{live_proper}
use mathlib.Core.List.{List, [], ◌∷◌, map, Memᴰ}
use Prim.Native.Nat.{ℕ, zero, suc, ◌+◌, ◌^◌, ◌≤◌, ◌<◌}

pub slot_of_line : (lines : List ℕ) (s : ℕ) → (line_at lines s).slot ≡ s
unfolding line_at
slot_of_line lines s = refl

-- a slot is listed exactly if it lives and its line meets the block
pub listed_iff : (lines : List ℕ) (k : Block) (s : ℕ) → Memᴰ s (listed (live_lines lines) k) ↔ (Memᴰ s (live_slots lines) × (meets k (line_at lines s) ≡ true))
unfolding listed live_lines
listed_iff lines k s = (there, back)
  where
    there : Memᴰ s (map (λ l. l.slot) (those (meets k) (map (line_at lines) (live_slots lines)))) → Memᴰ s (live_slots lines) × (meets k (line_at lines s) ≡ true)
    there m =
        let r = Memᴰ.of_map (λ (l : Line). l.slot) (those (meets k) (map (line_at lines) (live_slots lines))) m in
        let n = of_those (meets k) (map (line_at lines) (live_slots lines)) r.1 in
        let u = Memᴰ.of_map (line_at lines) (live_slots lines) n.0 in
        let e : s ≡ u.0 = sym r.2 ∙ ap (λ (l : Line). l.slot) (sym u.2) ∙ slot_of_line lines u.0 in
        (Memᴰ.cast e u.1, ap (λ x. meets k (line_at lines x)) e ∙ ap (meets k) u.2 ∙ n.1)

    back : Memᴰ s (live_slots lines) × (meets k (line_at lines s) ≡ true) → Memᴰ s (map (λ l. l.slot) (those (meets k) (map (line_at lines) (live_slots lines))))
    back (m, e) =
        Memᴰ.cast (sym (slot_of_line lines s)) (Memᴰ.map (λ (l : Line). l.slot) (in_those (meets k) (map (line_at lines) (live_slots lines)) (Memᴰ.map (line_at lines) m) e))

module _ (n w s : ℕ) {a b c d : Tree} {j : Block} {list : List ℕ} where
  pub to_nw : LeafAt (block n w (s + 2 ^ suc n)) a j list → LeafAt (block (suc n) w s) (divided a b c d) j list
  to_nw h = in_nw (subst (λ (k : Block). LeafAt k a j list) (sym (nw_is n w s)) h)

  pub to_ne : LeafAt (block n (w + 2 ^ suc n) (s + 2 ^ suc n)) b j list → LeafAt (block (suc n) w s) (divided a b c d) j list
  to_ne h = in_ne (subst (λ (k : Block). LeafAt k b j list) (sym (ne_is n w s)) h)

  pub to_sw : LeafAt (block n w s) c j list → LeafAt (block (suc n) w s) (divided a b c d) j list
  to_sw h = in_sw (subst (λ (k : Block). LeafAt k c j list) (sym (sw_is n w s)) h)

  pub to_se : LeafAt (block n (w + 2 ^ suc n) s) d j list → LeafAt (block (suc n) w s) (divided a b c d) j list
  to_se h = in_se (subst (λ (k : Block). LeafAt k d j list) (sym (se_is n w s)) h)

-- a spot of a block lies in one of its quarters
pub data Quarter (p : Spot) (n w s : ℕ) : Type 0 where
  nw : InBlock p (block n w (s + 2 ^ suc n)) → Quarter p n w s
  ne : InBlock p (block n (w + 2 ^ suc n) (s + 2 ^ suc n)) → Quarter p n w s
  sw : InBlock p (block n w s) → Quarter p n w s
  se : InBlock p (block n (w + 2 ^ suc n) s) → Quarter p n w s

pub quarter : (p : Spot) (n w s : ℕ) → InBlock p (block (suc n) w s) → Quarter p n w s
quarter p n w s b = go (order p.X ((w + 2 ^ suc n) * p.Z)) (order p.Y ((s + 2 ^ suc n) * p.Z))
  where
    east_of : p.X ≤ (w + (2 ^ suc n + 2 ^ suc n)) * p.Z
    east_of = rw (double (suc n)) at b.to_east

    north_of : p.Y ≤ (s + (2 ^ suc n + 2 ^ suc n)) * p.Z
    north_of = rw (double (suc n)) at b.to_north

    go : (p.X ≤ (w + 2 ^ suc n) * p.Z) ⊎ ((w + 2 ^ suc n) * p.Z < p.X) → (p.Y ≤ (s + 2 ^ suc n) * p.Z) ⊎ ((s + 2 ^ suc n) * p.Z < p.Y) → Quarter p n w s
    go (inl h) (inl k) = sw (record { from_west = b.from_west; to_east = h; from_south = b.from_south; to_north = k })
    go (inl h) (inr k) = nw (record { from_west = b.from_west; to_east = h; from_south = omega arith; to_north = omega (arith, north_of) })
    go (inr h) (inl k) = se (record { from_west = omega arith; to_east = omega (arith, east_of); from_south = b.from_south; to_north = k })
    go (inr h) (inr k) = ne (record { from_west = omega arith; to_east = omega (arith, east_of); from_south = omega arith; to_north = omega (arith, north_of) })

-- some leaf lists both
pub record Shared (root : Block) (t : Tree) (x y : ℕ) : Type 0 where
  pub place : Block
  pub list : List ℕ
  pub is_leaf : LeafAt root t place list
  pub first : Memᴰ x list
  pub second : Memᴰ y list

module _ (rule : Rule) (lines : List Line) (l m : Line) (ml : Memᴰ l lines) (mm : Memᴰ m lines) (p : Spot) (ol : OnLine p l) (om : OnLine p m) where
  both_listed : (k : Block) → InBlock p k → Memᴰ l.slot (listed lines k) × Memᴰ m.slot (listed lines k)
  unfolding listed
  both_listed k b = (one l ml ol, one m mm om)
    where
      one : (n : Line) → Memᴰ n lines → OnLine p n → Memᴰ n.slot (map (λ l. l.slot) (those (meets k) lines))
      one n q o = Memᴰ.map (λ (l : Line). l.slot) (in_those (meets k) lines q ((meets_iff k n).1 (p, o, b)))

  leaf_shared : (k : Block) → InBlock p k → Shared k (leaf (listed lines k)) l.slot m.slot
  leaf_shared k b = let q = both_listed k b in record { place = k; list = listed lines k; is_leaf = here refl refl; first = q.0; second = q.1 }

  abbrev Goal : ℕ → ℕ → ℕ → Type 0
  Goal n w s = Shared (block n w s) (tree_by rule lines n w s) l.slot m.slot

  pub share_at : (n w s : ℕ) → InBlock p (block n w s) → Goal n w s
  unfolding tree_by
  share_at zero w s b = leaf_shared (block zero w s) b
  share_at (suc n) w s b =
      go (rule (block (suc n) w s) lines) refl (quarter p n w s b) (share_at n w (s + 2 ^ suc n)) (share_at n (w + 2 ^ suc n) (s + 2 ^ suc n)) (share_at n w s) (share_at n (w + 2 ^ suc n) s)
    where
      In' : ℕ → ℕ → Type 0
      In' x y = InBlock p (block n x y) → Goal n x y

      go : (t : Bool) → rule (block (suc n) w s) lines ≡ t → Quarter p n w s → In' w (s + 2 ^ suc n) → In' (w + 2 ^ suc n) (s + 2 ^ suc n) → In' w s → In' (w + 2 ^ suc n) s → Goal (suc n) w s
      go true e q a b' c d = rw (by_leaf rule lines n w s e) (leaf_shared (block (suc n) w s) b)
      go false e (nw i) a b' c d = rw (by_divided rule lines n w s e) (let h = a i in record { place = h.place; list = h.list; is_leaf = to_nw n w s h.is_leaf; first = h.first; second = h.second })
      go false e (ne i) a b' c d = rw (by_divided rule lines n w s e) (let h = b' i in record { place = h.place; list = h.list; is_leaf = to_ne n w s h.is_leaf; first = h.first; second = h.second })
      go false e (sw i) a b' c d = rw (by_divided rule lines n w s e) (let h = c i in record { place = h.place; list = h.list; is_leaf = to_sw n w s h.is_leaf; first = h.first; second = h.second })
      go false e (se i) a b' c d = rw (by_divided rule lines n w s e) (let h = d i in record { place = h.place; list = h.list; is_leaf = to_se n w s h.is_leaf; first = h.first; second = h.second })

-- a live line of sound slots stands on the grid
live_is_sound : (lines : List ℕ) (y : ℕ) → slot_sound lines y ≡ true → is_live lines y ≡ true → live_sound lines y ≡ true
unfolding slot_sound empty_sound is_live
live_is_sound lines y e v = go (live_sound lines y) refl
  where
    one : live lines y ≡ 1
    one = eqb-true (live lines y) 1 v

    go : (b : Bool) → live_sound lines y ≡ b → b ≡ true
    go true q = refl
    go false q = rw (one, q) at e

pub record OnMap (lines : List ℕ) (y : ℕ) : Type 0 where
  pub gx1 : x1 lines y ≤ 16383
  pub gy1 : y1 lines y ≤ 16383
  pub gx2 : x2 lines y ≤ 16383
  pub gy2 : y2 lines y ≤ 16383

on_map : (lines : List ℕ) (y : ℕ) → live_sound lines y ≡ true → OnMap lines y
unfolding live_sound
on_map lines y e =
    record { gx1 = leb-true _ _ (and_r g a p1); gy1 = leb-true _ _ (and_r (g && a) b p2); gx2 = leb-true _ _ (and_r (g && a && b) c p3); gy2 = leb-true _ _ (and_r (g && a && b && c) d p4) }
  where
    g : Bool
    g = leb 1 (generation lines y)

    a : Bool
    a = on_grid (x1 lines y)

    b : Bool
    b = on_grid (y1 lines y)

    c : Bool
    c = on_grid (x2 lines y)

    d : Bool
    d = on_grid (y2 lines y)

    p4 : g && a && b && c && d ≡ true
    p4 = and_l (g && a && b && c && d) (not (eqb (x1 lines y) (x2 lines y) && eqb (y1 lines y) (y2 lines y))) e

    p3 : g && a && b && c ≡ true
    p3 = and_l (g && a && b && c) d p4

    p2 : g && a && b ≡ true
    p2 = and_l (g && a && b) c p3

    p1 : g && a ≡ true
    p1 = and_l (g && a) b p2

-- a point of a line on the grid lies in the whole map
spot_in_map : (lines : List ℕ) (y : ℕ) → OnMap lines y → (p : Spot) → OnLine p (line_at lines y) → InBlock p whole_map
unfolding line_at
spot_in_map lines y g p o =
    record { from_west = omega arith; to_east = below _ _ _ _ g.gx1 g.gx2 o.to_east; from_south = omega arith; to_north = below _ _ _ _ g.gy1 g.gy2 o.to_north }
  where
    below : (u v X Z : ℕ) → u ≤ 16383 → v ≤ 16383 → X ≤ max (2 * u + 1) (2 * v + 1) * Z → X ≤ (0 + 32768) * Z
    below u v X Z h k e = omega (arith, mul-le-mul_right {m = max (2 * u + 1) (2 * v + 1)} {n = 0 + 32768} Z (omega arith))

-- no two lines listed in one leaf conflict
abbrev pub LeafApart : List ℕ → Tree → Type 0
LeafApart lines t =
    (k : Block) (slots : List ℕ) → LeafAt whole_map t k slots → (x y : ℕ) → Memᴰ x slots → Memᴰ y slots
    → (x ≡ y) ⊎ (conflict (line_at lines x) (line_at lines y) ≡ false)

-- Two live lines that share a point are both listed in some leaf, whatever the rule
pub share_a_leaf : (rule : Rule) (lines : List ℕ) → every (slot_sound lines) (slots_of lines) ≡ true → (x y : ℕ) → Memᴰ x (live_slots lines) → Memᴰ y (live_slots lines)
    → (p : Spot) → OnLine p (line_at lines x) → OnLine p (line_at lines y) → Shared whole_map (tree rule (live_lines lines)) x y
unfolding live_lines live_slots tree
share_a_leaf rule lines ok x y mx my p ox oy =
    let h = share_at rule (map (line_at lines) (those (is_live lines) (slots_of lines))) (line_at lines x) (line_at lines y) (Memᴰ.map (line_at lines) mx) (Memᴰ.map (line_at lines) my) p ox oy 14 0 0 in_map in
    record { place = h.place; list = h.list; is_leaf = h.is_leaf; first = Memᴰ.cast (sym (slot_of_line lines x)) h.first; second = Memᴰ.cast (sym (slot_of_line lines y)) h.second }
  where
    in_map : InBlock p whole_map
    in_map =
        let n = of_those (is_live lines) (slots_of lines) mx in
        spot_in_map lines x (on_map lines x (live_is_sound lines x (every→ (slot_sound lines) (slots_of lines) ok n.0) n.1)) p ox

-- so it is enough to try the lines of each leaf against each other
pub leaves_suffice : (rule : Rule) (lines : List ℕ) → every (slot_sound lines) (slots_of lines) ≡ true → LeafApart lines (tree rule (live_lines lines)) → none_conflict lines ≡ true
unfolding none_conflict
leaves_suffice rule lines ok f = every← _ (live_slots lines) (λ x mx. every← _ (live_slots lines) (λ y my. pair x y mx my (same_or_not x y)))
  where
    proper : (x : ℕ) → Memᴰ x (live_slots lines) → Proper (line_at lines x)
    proper x m = unfold live_slots in (let n = of_those (is_live lines) (slots_of lines) m in live_proper lines x (every→ (slot_sound lines) (slots_of lines) ok n.0) n.1)

    never : (x y : ℕ) → Memᴰ x (live_slots lines) → Memᴰ y (live_slots lines) → (x ≡ y → ⊥) → conflict (line_at lines x) (line_at lines y) ≡ true → ⊥
    never x y mx my d e =
        let c = (conflict_iff (line_at lines x) (line_at lines y) (proper x mx) (proper y my)).0 e in
        let h = share_a_leaf rule lines ok x y mx my c.0 c.1 c.2 in
        stop (f h.place h.list h.is_leaf x y h.first h.second)
      where
        stop : (x ≡ y) ⊎ (conflict (line_at lines x) (line_at lines y) ≡ false) → ⊥
        stop (inl q) = d q
        stop (inr q) = no_path (sym q ∙ e)

    pair : (x y : ℕ) → Memᴰ x (live_slots lines) → Memᴰ y (live_slots lines) → (x ≡ y) ⊎ (x ≡ y → ⊥)
        → eqb x y || not (conflict (line_at lines x) (line_at lines y)) ≡ true
    pair x y mx my (inl q) = or_l (eqb x y) _ (eq-eqb x y q)
    pair x y mx my (inr d) = or_r (eqb x y) _ (ap not (false_by _ (never x y mx my d)))

-- The tree of a block reads only the lines that meet it

first_on : (l : Line) → OnLine (record { X = l.a.x.0; Y = l.a.y.0; Z = 1; some = omega arith }) l
first_on l =
    record {
      straight = zero_of_equal (turn_at_is l.a l.b (record { X = l.a.x.0; Y = l.a.y.0; Z = 1; some = omega arith })) (omega arith);
      from_west = omega arith;
      to_east = omega arith;
      from_south = omega arith;
      to_north = omega arith;
    }

second_on : (l : Line) → OnLine (record { X = l.b.x.0; Y = l.b.y.0; Z = 1; some = omega arith }) l
second_on l =
    record {
      straight = zero_of_equal (turn_at_is l.a l.b (record { X = l.b.x.0; Y = l.b.y.0; Z = 1; some = omega arith })) (omega arith);
      from_west = omega arith;
      to_east = omega arith;
      from_south = omega arith;
      to_north = omega arith;
    }

-- an end that lies in the block belongs to a line that meets it
first_meets : (k : Block) (l : Line) → inside k l.a ≡ true → meets k l ≡ true
first_meets k l i =
    let j = inside→ k l.a i in
    (meets_iff k l).1 (_, first_on l, record { from_west = omega (arith, j.from_west); to_east = omega (arith, j.to_east); from_south = omega (arith, j.from_south); to_north = omega (arith, j.to_north) })

second_meets : (k : Block) (l : Line) → inside k l.b ≡ true → meets k l ≡ true
second_meets k l i =
    let j = inside→ k l.b i in
    (meets_iff k l).1 (_, second_on l, record { from_west = omega (arith, j.from_west); to_east = omega (arith, j.to_east); from_south = omega (arith, j.from_south); to_north = omega (arith, j.to_north) })

pub those_ends : (k : Block) (p : Line → Bool) → ((l : Line) → meets k l ≡ true → p l ≡ true) → (ls : List Line) → those (inside k) (ends_of (those p ls)) ≡ those (inside k) (ends_of ls)
unfolding those ends_of
those_ends k p f [] = refl
those_ends k p f (l ∷ ls) = go (p l) refl (those_ends k p f ls)
  where
    go : (b : Bool) → p l ≡ b → those (inside k) (ends_of (those p ls)) ≡ those (inside k) (ends_of ls) → those (inside k) (ends_of (those p (l ∷ ls))) ≡ those (inside k) (l.a ∷ l.b ∷ ends_of ls)
    go true e h = rw (those_yes p l ls e) (cons_those (inside k) l.a (l.b ∷ ends_of (those p ls)) (l.b ∷ ends_of ls) (cons_those (inside k) l.b (ends_of (those p ls)) (ends_of ls) h))
    go false e h =
        rw (those_no p l ls e)
        (h ∙ sym (those_no (inside k) l.a (l.b ∷ ends_of ls) (false_by _ (λ i. no_path (sym e ∙ f l (first_meets k l i))))
        ∙ those_no (inside k) l.b (ends_of ls) (false_by _ (λ i. no_path (sym e ∙ f l (second_meets k l i))))))

-- a rule is local if it reads only the lines that meet the block
abbrev pub Local : Rule → Type 0
Local rule = (k : Block) (p : Line → Bool) → ((l : Line) → meets k l ≡ true → p l ≡ true) → (ls : List Line) → rule k (those p ls) ≡ rule k ls

pub base_local : Local base_rule
unfolding base_rule simple
base_local k p f ls = λ i. simple_with (those_ends k p f ls i) (those_those (meets k) p f ls i)

pub listed_local : (k : Block) (p : Line → Bool) → ((l : Line) → meets k l ≡ true → p l ≡ true) → (ls : List Line) → listed (those p ls) k ≡ listed ls k
unfolding listed
listed_local k p f ls = ap (map (λ l. l.slot)) (those_those (meets k) p f ls)

-- what meets a quarter meets the block
pub inner : (n w s x y : ℕ) (l : Line) → w ≤ x → x ≤ w + 2 ^ suc n → s ≤ y → y ≤ s + 2 ^ suc n → meets (block n x y) l ≡ true → meets (block (suc n) w s) l ≡ true
inner n w s x y l h i j k e =
    let m = (meets_iff (block n x y) l).0 e in
    let p = m.0 in
    (meets_iff (block (suc n) w s) l).1 (
      p,
      m.1,
      record {
        from_west = through (mul-le-mul_right p.Z h) m.2.from_west;
        to_east = through m.2.to_east (mul-le-mul_right p.Z (omega (arith, double (suc n))));
        from_south = through (mul-le-mul_right p.Z j) m.2.from_south;
        to_north = through m.2.to_north (mul-le-mul_right p.Z (omega (arith, double (suc n))));
      },
    )
  where
    through : {a b c : ℕ} → a ≤ b → b ≤ c → a ≤ c
    through f g = omega arith

-- Lines that do not meet the block may be left out beforehand
pub candidates_by : (rule : Rule) → Local rule → (p : Line → Bool) (ls : List Line) (n w s : ℕ) → ((l : Line) → meets (block n w s) l ≡ true → p l ≡ true)
    → tree_by rule (those p ls) n w s ≡ tree_by rule ls n w s
unfolding tree_by
candidates_by rule loc p ls zero w s f = ap leaf (listed_local (block zero w s) p f ls)
candidates_by rule loc p ls (suc n) w s f =
    go (rule (block (suc n) w s) ls) refl
    (candidates_by rule loc p ls n w (s + 2 ^ suc n) (λ l e. f l (inner n w s w (s + 2 ^ suc n) l (omega arith) (omega arith) (omega arith) (omega arith) e)))
    (candidates_by rule loc p ls n (w + 2 ^ suc n) (s + 2 ^ suc n) (λ l e. f l (inner n w s (w + 2 ^ suc n) (s + 2 ^ suc n) l (omega arith) (omega arith) (omega arith) (omega arith) e)))
    (candidates_by rule loc p ls n w s (λ l e. f l (inner n w s w s l (omega arith) (omega arith) (omega arith) (omega arith) e)))
    (candidates_by rule loc p ls n (w + 2 ^ suc n) s (λ l e. f l (inner n w s (w + 2 ^ suc n) s l (omega arith) (omega arith) (omega arith) (omega arith) e)))
  where
    Same : ℕ → ℕ → Type 0
    Same x y = tree_by rule (those p ls) n x y ≡ tree_by rule ls n x y

    alike : rule (block (suc n) w s) (those p ls) ≡ rule (block (suc n) w s) ls
    alike = loc (block (suc n) w s) p f ls

    go : (b : Bool) → rule (block (suc n) w s) ls ≡ b → Same w (s + 2 ^ suc n) → Same (w + 2 ^ suc n) (s + 2 ^ suc n) → Same w s → Same (w + 2 ^ suc n) s
        → tree_by rule (those p ls) (suc n) w s ≡ tree_by rule ls (suc n) w s
    go true e a b c d = by_leaf rule (those p ls) n w s (alike ∙ e) ∙ ap leaf (listed_local (block (suc n) w s) p f ls) ∙ sym (by_leaf rule ls n w s e)
    go false e a b c d = by_divided rule (those p ls) n w s (alike ∙ e) ∙ (λ i. divided (a i) (b i) (c i) (d i)) ∙ sym (by_divided rule ls n w s e)

pub candidates : (rule : Rule) → Local rule → (lines : List Line) (n w s : ℕ) → tree_by rule (those (meets (block n w s)) lines) n w s ≡ tree_by rule lines n w s
candidates rule loc lines n w s = candidates_by rule loc (meets (block n w s)) lines n w s (λ l e. e)

-- and so when a walk hands the lines that meet a block down to its quarters
pub candidates_son : (rule : Rule) → Local rule → (lines : List Line) (n w s x y : ℕ) → w ≤ x → x ≤ w + 2 ^ suc n → s ≤ y → y ≤ s + 2 ^ suc n
    → tree_by rule (those (meets (block (suc n) w s)) lines) n x y ≡ tree_by rule lines n x y
candidates_son rule loc lines n w s x y h i j k = candidates_by rule loc (meets (block (suc n) w s)) lines n x y (λ l e. inner n w s x y l h i j k e)
