-- Removing lines keeps a block simple, and the sons of a block list what it lists.
use Rattle.std.specs.Prelude.{◌≡◌, ◌⊎◌, Bool, false, ℕ, suc, ◌+◌, ◌*◌, ◌^◌, ◌≤◌, ◌<◌, length}
use Rattle.std.proofs.Math.Path.{refl, subst}
use Rattle.std.proofs.Common.{sym, ◌∙◌, ap, arith, length-append}
use Rattle.std.proofs.Math.Logic.{inl, inr}
use Rattle.std.proofs.Math.Bool.{true}
use mathlib.Core.List.Memᴰ
use mathlib.Core.List.{List, [], ◌∷◌, Memᴰ}
use Rattle.std.proofs.lemmas.List.{length-map}
use Rattle.definitions.specs.declared.Point.{Point}
use Rattle.algebra.specs.Lists.{those_yes, those_no, in_those, of_those, every→, every←}
use Rattle.algebra.specs.Tests.{and_l, and_r, and_b}
use Rattle.algebra.specs.Words.{those, every}
use Rattle.definitions.specs.Meaning.{Meets}
use Rattle.definitions.specs.Shape.{Line, Block, meets, inside, same_point, is_end}
use Rattle.definitions.specs.Tree.{ends_of, simple_with, simple, Tree, leaf, divided, listed, block, nodes_of, listings_of}
use Rattle.meaning.specs.Fair.{Sub, none, keep, skip}
use Rattle.plane.specs.Blocks.{double}
use Rattle.plane.specs.Compare.{order}
use Rattle.plane.specs.Ends.{same_refl, same_path, end_cases}
use Rattle.plane.proofs.Meeting.{meets_iff}
use borrow.Author.Tests.{leb-true, le-leb}

pub sub_mem : {x : Line} {ls ms : List Line} → Sub ls ms → Memᴰ x ls → Memᴰ x ms
sub_mem none m = m
sub_mem (keep s) (Memᴰ.head e) = Memᴰ.head e
sub_mem (keep s) (Memᴰ.tail m) = Memᴰ.tail (sub_mem s m)
sub_mem (skip s) m = Memᴰ.tail (sub_mem s m)

pub sub_those : (p : Line → Bool) {ls ms : List Line} → Sub ls ms → length (those p ls) ≤ length (those p ms)
sub_those p none = omega arith
sub_those p (keep {l = l} {ls = ls} {ms = ms} s) = go (p l) refl (sub_those p s)
  where
    go : (t : Bool) → p l ≡ t → length (those p ls) ≤ length (those p ms) → length (those p (l ∷ ls)) ≤ length (those p (l ∷ ms))
    go true e h = rw (those_yes p l ls e, those_yes p l ms e) (omega arith)
    go false e h = rw (those_no p l ls e, those_no p l ms e) h
sub_those p (skip {l = l} {ls = ls} {ms = ms} s) = go (p l) refl (sub_those p s)
  where
    go : (t : Bool) → p l ≡ t → length (those p ls) ≤ length (those p ms) → length (those p ls) ≤ length (those p (l ∷ ms))
    go true e h = rw (those_yes p l ms e) (omega arith)
    go false e h = rw (those_no p l ms e) h

-- the ends of the lines
pub in_ends_a : {l : Line} {ls : List Line} → Memᴰ l ls → Memᴰ l.a (ends_of ls)
unfolding ends_of
in_ends_a (Memᴰ.head e) = Memᴰ.head (ap (λ (l : Line). l.a) e)
in_ends_a (Memᴰ.tail m) = Memᴰ.tail (Memᴰ.tail (in_ends_a m))

pub in_ends_b : {l : Line} {ls : List Line} → Memᴰ l ls → Memᴰ l.b (ends_of ls)
unfolding ends_of
in_ends_b (Memᴰ.head e) = Memᴰ.tail (Memᴰ.head (ap (λ (l : Line). l.b) e))
in_ends_b (Memᴰ.tail m) = Memᴰ.tail (Memᴰ.tail (in_ends_b m))

pub sub_ends : {x : Point} {ls ms : List Line} → Sub ls ms → Memᴰ x (ends_of ls) → Memᴰ x (ends_of ms)
unfolding ends_of
sub_ends none m = m
sub_ends (keep s) (Memᴰ.head e) = Memᴰ.head e
sub_ends (keep s) (Memᴰ.tail (Memᴰ.head e)) = Memᴰ.tail (Memᴰ.head e)
sub_ends (keep s) (Memᴰ.tail (Memᴰ.tail m)) = Memᴰ.tail (Memᴰ.tail (sub_ends s m))
sub_ends (skip s) m = Memᴰ.tail (Memᴰ.tail (sub_ends s m))

-- C1, C2' and C3 as the paper states them
pub record OneEnd (lines : List Line) (k : Block) : Type 0 where
  pub end : Point
  pub here : inside k end ≡ true
  pub only : (q : Point) → Memᴰ q (ends_of lines) → inside k q ≡ true → same_point end q ≡ true
  pub shared : (l : Line) → Memᴰ l lines → meets k l ≡ true → is_end end l ≡ true

pub record NoEnd (lines : List Line) (k : Block) : Type 0 where
  pub empty : (q : Point) → Memᴰ q (ends_of lines) → inside k q ≡ true → ⊥
  pub one : length (those (meets k) lines) ≤ 1

abbrev pub Simple : List Line → Block → Type 0
Simple lines k = OneEnd lines k ⊎ NoEnd lines k

module _ (lines : List Line) (k : Block) where
  pub simple→ : simple lines k ≡ true → Simple lines k
  unfolding simple simple_with
  simple→ e = go (those (inside k) (ends_of lines)) refl e
    where
      go : (c : List Point) → those (inside k) (ends_of lines) ≡ c → simple_with c (those (meets k) lines) ≡ true → Simple lines k
      go [] h s =
          inr (record {
            empty = λ q m i. Memᴰ.not-nil (rw h at (in_those (inside k) (ends_of lines) m i));
            one = leb-true (length (those (meets k) lines)) 1 s;
          })
      go (p ∷ ps) h s =
          inl (record {
            end = p;
            here = (of_those (inside k) {x = p} (ends_of lines) (rw h (Memᴰ.head refl))).1;
            only = λ q m i. first q (rw h at (in_those (inside k) (ends_of lines) m i));
            shared = λ l m i. every→ (is_end p) (those (meets k) lines) (and_r (every (same_point p) ps) (every (is_end p) (those (meets k) lines)) s) (in_those (meets k) lines m i);
          })
        where
          first : (q : Point) → Memᴰ q (p ∷ ps) → same_point p q ≡ true
          first q (Memᴰ.head f) = subst (λ (r : Point). same_point p r ≡ true) (sym f) (same_refl p)
          first q (Memᴰ.tail m) = every→ (same_point p) ps (and_l (every (same_point p) ps) (every (is_end p) (those (meets k) lines)) s) m

  -- a line that meets the block has the one end there
  none_meets : (o : OneEnd lines k) → those (inside k) (ends_of lines) ≡ [] → (l : Line) → Memᴰ l (those (meets k) lines) → ⊥
  none_meets o h l m =
      let n = of_those (meets k) lines m in
      go n.0 (end_cases o.end l (o.shared l n.0 n.1))
    where
      go : Memᴰ l lines → (o.end ≡ l.a) ⊎ (o.end ≡ l.b) → ⊥
      go n (inl e) = Memᴰ.not-nil (rw h at (in_those (inside k) (ends_of lines) (in_ends_a n) (ap (inside k) (sym e) ∙ o.here)))
      go n (inr e) = Memᴰ.not-nil (rw h at (in_those (inside k) (ends_of lines) (in_ends_b n) (ap (inside k) (sym e) ∙ o.here)))

  short : {A : Type 0} (xs : List A) → ((x : A) → Memᴰ x xs → ⊥) → length xs ≤ 1
  short [] f = omega arith
  short (x ∷ xs) f = absurd (f x (Memᴰ.head refl))

  pub simple← : Simple lines k → simple lines k ≡ true
  unfolding simple simple_with
  simple← s = go (those (inside k) (ends_of lines)) refl s
    where
      go : (c : List Point) → those (inside k) (ends_of lines) ≡ c → Simple lines k → simple lines k ≡ true
      go [] h (inr n) = rw h (le-leb _ _ n.one)
      go [] h (inl o) = rw h (le-leb _ _ (short (those (meets k) lines) (none_meets o h)))
      go (p ∷ ps) h (inr n) =
          let m = of_those (inside k) {x = p} (ends_of lines) (rw h (Memᴰ.head refl)) in
          absurd (n.empty p m.0 m.1)
      go (p ∷ ps) h (inl o) =
          let m = of_those (inside k) {x = p} (ends_of lines) (rw h (Memᴰ.head refl)) in
          let e : o.end ≡ p = same_path o.end p (o.only p m.0 m.1) in
          rw h (and_b _ _
          (every← (same_point p) ps (λ q n. let m' = of_those (inside k) {x = q} (ends_of lines) (rw h (Memᴰ.tail n)) in subst (λ (r : Point). same_point r q ≡ true) e (o.only q m'.0 m'.1)))
          (every← (is_end p) (those (meets k) lines) (λ l n. let m' = of_those (meets k) lines n in subst (λ (r : Point). is_end r l ≡ true) e (o.shared l m'.0 m'.1))))

pub fewer_simple : {ls ms : List Line} (k : Block) → Sub ls ms → Simple ms k → Simple ls k
fewer_simple k s (inl o) =
    inl (record { end = o.end; here = o.here; only = λ q m i. o.only q (sub_ends s m) i; shared = λ l m i. o.shared l (sub_mem s m) i })
fewer_simple {ls} {ms} k s (inr n) =
    inr (record { empty = λ q m i. n.empty q (sub_ends s m) i; one = omega (arith, sub_those (meets k) s, n.one) })

-- a line that meets a block meets one of its sons
pub data OneOf (a b c d : Bool) : Type 0 where
  is_a : a ≡ true → OneOf a b c d
  is_b : b ≡ true → OneOf a b c d
  is_c : c ≡ true → OneOf a b c d
  is_d : d ≡ true → OneOf a b c d

pub a_son : (n w s : ℕ) (l : Line) → meets (block (suc n) w s) l ≡ true
    → OneOf (meets (block n w (s + 2 ^ suc n)) l) (meets (block n (w + 2 ^ suc n) (s + 2 ^ suc n)) l) (meets (block n w s) l) (meets (block n (w + 2 ^ suc n) s) l)
a_son n w s l e = go (order m.0.X ((w + 2 ^ suc n) * m.0.Z)) (order m.0.Y ((s + 2 ^ suc n) * m.0.Z))
  where
    m : Meets (block (suc n) w s) l
    m = (meets_iff (block (suc n) w s) l).0 e

    east_of : m.0.X ≤ (w + (2 ^ suc n + 2 ^ suc n)) * m.0.Z
    east_of = rw (double (suc n)) at m.2.to_east

    north_of : m.0.Y ≤ (s + (2 ^ suc n + 2 ^ suc n)) * m.0.Z
    north_of = rw (double (suc n)) at m.2.to_north

    put : (x y : ℕ) → x * m.0.Z ≤ m.0.X → m.0.X ≤ (x + 2 ^ suc n) * m.0.Z → y * m.0.Z ≤ m.0.Y → m.0.Y ≤ (y + 2 ^ suc n) * m.0.Z → meets (block n x y) l ≡ true
    put x y a b c d = (meets_iff (block n x y) l).1 (m.0, m.1, record { from_west = a; to_east = b; from_south = c; to_north = d })

    go : (m.0.X ≤ (w + 2 ^ suc n) * m.0.Z) ⊎ ((w + 2 ^ suc n) * m.0.Z < m.0.X)
        → (m.0.Y ≤ (s + 2 ^ suc n) * m.0.Z) ⊎ ((s + 2 ^ suc n) * m.0.Z < m.0.Y)
        → OneOf (meets (block n w (s + 2 ^ suc n)) l) (meets (block n (w + 2 ^ suc n) (s + 2 ^ suc n)) l) (meets (block n w s) l) (meets (block n (w + 2 ^ suc n) s) l)
    go (inl h) (inl k) = is_c (put w s m.2.from_west h m.2.from_south k)
    go (inl h) (inr k) = is_a (put w (s + 2 ^ suc n) m.2.from_west h (omega arith) (omega (arith, north_of)))
    go (inr h) (inl k) = is_d (put (w + 2 ^ suc n) s (omega arith) (omega (arith, east_of)) m.2.from_south k)
    go (inr h) (inr k) = is_b (put (w + 2 ^ suc n) (s + 2 ^ suc n) (omega arith) (omega (arith, east_of)) (omega arith) (omega (arith, north_of)))

-- so the sons list at least as many
at_least : (q : Line → Bool) (l : Line) (ls : List Line) → length (those q ls) ≤ length (those q (l ∷ ls))
at_least q l ls = go (q l) refl
  where
    go : (t : Bool) → q l ≡ t → length (those q ls) ≤ length (those q (l ∷ ls))
    go true e = rw (those_yes q l ls e) (omega arith)
    go false e = rw (those_no q l ls e) (omega arith)

one_more : (q : Line → Bool) (l : Line) (ls : List Line) → q l ≡ true → suc (length (those q ls)) ≤ length (those q (l ∷ ls))
one_more q l ls e = rw (those_yes q l ls e) (omega arith)

pub covered : (p a b c d : Line → Bool) → ((l : Line) → p l ≡ true → OneOf (a l) (b l) (c l) (d l)) → (ls : List Line)
    → length (those p ls) ≤ length (those a ls) + length (those b ls) + length (those c ls) + length (those d ls)
unfolding those
covered p a b c d f [] = omega arith
covered p a b c d f (l ∷ ls) = go (p l) refl (covered p a b c d f ls)
  where
    Goal : Type 0
    Goal = length (those p (l ∷ ls)) ≤ length (those a (l ∷ ls)) + length (those b (l ∷ ls)) + length (those c (l ∷ ls)) + length (those d (l ∷ ls))

    IH : Type 0
    IH = length (those p ls) ≤ length (those a ls) + length (those b ls) + length (those c ls) + length (those d ls)

    hit : p l ≡ true → IH → OneOf (a l) (b l) (c l) (d l) → Goal
    hit e h (is_a x) = rw (those_yes p l ls e) (omega (arith, h, one_more a l ls x, at_least b l ls, at_least c l ls, at_least d l ls))
    hit e h (is_b x) = rw (those_yes p l ls e) (omega (arith, h, at_least a l ls, one_more b l ls x, at_least c l ls, at_least d l ls))
    hit e h (is_c x) = rw (those_yes p l ls e) (omega (arith, h, at_least a l ls, at_least b l ls, one_more c l ls x, at_least d l ls))
    hit e h (is_d x) = rw (those_yes p l ls e) (omega (arith, h, at_least a l ls, at_least b l ls, at_least c l ls, one_more d l ls x))

    go : (t : Bool) → p l ≡ t → IH → Goal
    go true e h = hit e h (f l e)
    go false e h = rw (those_no p l ls e) (omega (arith, h, at_least a l ls, at_least b l ls, at_least c l ls, at_least d l ls))

nodes4 : (a b c d : Tree) → length (nodes_of (divided a b c d)) ≡ suc (length (nodes_of a) + length (nodes_of b) + length (nodes_of c) + length (nodes_of d))
unfolding nodes_of
nodes4 a b c d = simp length-append (omega arith)

pub listings4 : (a b c d : Tree) → length (listings_of (divided a b c d)) ≡ length (listings_of a) + length (listings_of b) + length (listings_of c) + length (listings_of d)
unfolding listings_of
listings4 a b c d = simp length-append (omega arith)

pub some_node : (t : Tree) → 1 ≤ length (nodes_of t)
unfolding nodes_of
some_node (leaf slots) = omega arith
some_node (divided a b c d) = omega arith

pub listed_length : (ls : List Line) (k : Block) → length (listed ls k) ≡ length (those (meets k) ls)
unfolding listed
listed_length ls k = length-map (those (meets k) ls) (λ l. l.slot)

pub leaf_listings : (ls : List Line) (k : Block) → length (listings_of (leaf (listed ls k))) ≡ length (those (meets k) ls)
unfolding listings_of
leaf_listings ls k = listed_length ls k

pub record Smaller (t u : Tree) : Type 0 where
  pub nodes : length (nodes_of t) ≤ length (nodes_of u)
  pub listings : length (listings_of t) ≤ length (listings_of u)

pub four_smaller : {a b c d a' b' c' d' : Tree} → Smaller a a' → Smaller b b' → Smaller c c' → Smaller d d' → Smaller (divided a b c d) (divided a' b' c' d')
four_smaller h i j k = record { nodes = simp nodes4 (omega arith); listings = simp listings4 (omega arith) }
