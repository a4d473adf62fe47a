-- Two lines in one straight line, an end of one within the other: they share more than one point.
use Rattle.std.specs.Prelude.{◌≡◌, ◌⊎◌, ℕ, ◌+◌, ◌*◌, ◌≤◌, ◌<◌, min, max}
use Rattle.std.proofs.Math.Path.{sym, ap₂}
use Rattle.std.proofs.Common.{◌∙◌, inl, inr, arith, mul-le-mul_right}
use Rattle.std.proofs.Math.Decide.{ℕ_discrete}
use Rattle.algebra.specs.Order.{cancel_le}
use Rattle.algebra.specs.Signs.{zero_of_equal}
use Rattle.definitions.specs.declared.Point.{Point}
use Rattle.definitions.specs.Shape.{Line}
use Rattle.definitions.specs.Meaning.{spot_of, Spot, OnLine, Shared, TwoShared}
use Rattle.plane.specs.Compare.{order, cancel, ◌·◌}
use Rattle.plane.specs.Segments.{turn_at_is, online_back, Weighed, mean_lefts, mean_rights, weighed_line, back, Proper, proper_back, differ}
use Rattle.plane.specs.Overlap.{Even}
use Rattle.plane.specs.Ends.{Within, OnAt, on_spot}
use Rattle.plane.specs.Crossing.{at_a}

-- (d - c) (p - q) is 0, and c is not d
factor : (c d p q : ℕ) → (c ≡ d → ⊥) → d * p + c * q ≡ d * q + c * p → p ≡ q
factor c d p q n e = go (order c d) (order d c)
  where
    go : (c ≤ d) ⊎ (d < c) → (d ≤ c) ⊎ (c < d) → p ≡ q
    go (inl h) (inl k) = absurd (n (omega (arith, h, k)))
    go (inl h) (inr k) = let i = cancel_le d c q p k (omega (arith, e)) in let j = cancel_le d c p q k (omega (arith, e)) in omega (arith, i, j)
    go (inr h) k = let i = cancel_le c d q p h (omega (arith, e)) in let j = cancel_le c d p q h (omega (arith, e)) in omega (arith, i, j)

-- one coordinate of a point within c, d, and of another in its straight line
data Along (c d a b : ℕ) : Type 0 where
  level : c ≡ d → a ≡ c → b ≡ c → Along c d a b
  strictly : min c d < a → a < max c d → Along c d a b

along : (c d a b c' d' a' b' : ℕ) → min c d ≤ a → a ≤ max c d → ((c ≡ d) × (c' ≡ d') → ⊥)
    → ((a ≡ c) × (a' ≡ c') → ⊥) → ((a ≡ d) × (a' ≡ d') → ⊥)
    → d * a' + c' * a + d' * c ≡ d * c' + c * a' + d' * a
    → d * b' + c' * b + d' * c ≡ d * c' + c * b' + d' * b → Along c d a b
along c d a b c' d' a' b' lo hi n na nb ea eb = go (ℕ_discrete c d)
  where
    go : Dec (c ≡ d) → Along c d a b
    go (yes f) =
        let i : a ≡ c = omega (arith, lo, hi, f) in
        level f i (sym (factor c' d' c b (λ g. n (f, g)) (omega (arith, eb, b' · f, c' · f))))
    go (no f) = strictly (below (order a (min c d))) (above (order (max c d) a))
      where
        at_c : a ≡ c → ⊥
        at_c i = na (i, factor c d a' c' f (omega (arith, ea, c' · i, d' · i)))

        at_d : a ≡ d → ⊥
        at_d i = nb (i, factor c d a' d' f (omega (arith, ea, c' · i, d' · i)))

        below : (a ≤ min c d) ⊎ (min c d < a) → min c d < a
        below (inr h) = h
        below (inl h) = elim (order c d) [ inl k ↦ absurd (at_c (omega (arith, lo, h, k))) | inr k ↦ absurd (at_d (omega (arith, lo, h, k))) ]

        above : (max c d ≤ a) ⊎ (a < max c d) → a < max c d
        above (inr h) = h
        above (inl h) = elim (order c d) [ inl k ↦ absurd (at_d (omega (arith, hi, h, k))) | inr k ↦ absurd (at_c (omega (arith, hi, h, k))) ]

-- a short way from a to b stays in the range
in_range : (c d a b S : ℕ) → a ≤ S → b ≤ S → Along c d a b → (min c d * (S + 1) ≤ a * S + b * 1) × (a * S + b * 1 ≤ max c d * (S + 1))
in_range c d a b S ha hb (level f i j) = (omega (arith, S · i, j, mul-le-mul_right (S + 1) low), omega (arith, S · i, j, mul-le-mul_right (S + 1) high))
  where
    low : min c d ≤ c
    low = omega arith

    high : c ≤ max c d
    high = omega arith
in_range c d a b S ha hb (strictly lo hi) = (low (min c d) lo, high (max c d) hi)
  where
    low : (m : ℕ) → m < a → m * (S + 1) ≤ a * S + b * 1
    low m h = let k : m + 1 ≤ a = omega (arith, h) in omega (arith, mul-le-mul_right S k, ha, h)

    high : (m : ℕ) → a < m → a * S + b * 1 ≤ m * (S + 1)
    high m h = let k : a + 1 ≤ m = omega (arith, h) in omega (arith, mul-le-mul_right S k, hb, h)

-- the first end of l lies within m, and the second in its straight line: a spot a short way along l is shared too
module _ (l m : Line) (pl : Proper l) (pm : Proper m) (h : Within l.a m) (eb : Even m l.b) (S : ℕ) (ax : l.a.x.0 ≤ S) (ay : l.a.y.0 ≤ S) (bx : l.b.x.0 ≤ S) (by : l.b.y.0 ≤ S) where
  abbrev near : Spot
  near = record { X = l.a.x.0 * S + l.b.x.0 * 1; Y = l.a.y.0 * S + l.b.y.0 * 1; Z = S + 1; some = omega arith }

  near_weighed : Weighed near l
  near_weighed = record { k = 1; v = S; u = 1; some = omega arith; at_x = omega arith; at_y = omega arith; at_z = omega arith }

  at : OnAt l.a m
  at = on_spot l.a m h.0

  not_c : (l.a.x.0 ≡ m.a.x.0) × (l.a.y.0 ≡ m.a.y.0) → ⊥
  unfolding spot_of
  not_c e = h.1 (inl (record { same_x = omega (arith, e.0); same_y = omega (arith, e.1) }))

  not_d : (l.a.x.0 ≡ m.b.x.0) × (l.a.y.0 ≡ m.b.y.0) → ⊥
  unfolding spot_of
  not_d e = h.1 (inr (record { same_x = omega (arith, e.0); same_y = omega (arith, e.1) }))

  x_along : Along m.a.x.0 m.b.x.0 l.a.x.0 l.b.x.0
  x_along = along m.a.x.0 m.b.x.0 l.a.x.0 l.b.x.0 m.a.y.0 m.b.y.0 l.a.y.0 l.b.y.0
      at.w at.e (λ e. differ m pm e.0 e.1) not_c not_d at.even eb

  y_along : Along m.a.y.0 m.b.y.0 l.a.y.0 l.b.y.0
  y_along = along m.a.y.0 m.b.y.0 l.a.y.0 l.b.y.0 m.a.x.0 m.b.x.0 l.a.x.0 l.b.x.0
      at.s at.n (λ e. differ m pm e.1 e.0) (λ e. not_c (e.1, e.0)) (λ e. not_d (e.1, e.0)) (omega (arith, at.even)) (omega (arith, eb))

  near_on : OnLine near m
  unfolding near_weighed
  near_on =
      let x = in_range m.a.x.0 m.b.x.0 l.a.x.0 l.b.x.0 S ax bx x_along in
      let y = in_range m.a.y.0 m.b.y.0 l.a.y.0 l.b.y.0 S ay by y_along in
      record {
        straight = zero_of_equal (turn_at_is m.a m.b near) (cancel 1 (omega arith) (mean_lefts near_weighed m.a m.b ∙ ap₂ (λ (i j : ℕ). S * i + 1 * j) at.even eb ∙ sym (mean_rights near_weighed m.a m.b)));
        from_west = x.0;
        to_east = x.1;
        from_south = y.0;
        to_north = y.1;
      }

  grown : TwoShared l m
  unfolding spot_of
  grown = record {
    one = spot_of l.a;
    other = near;
    one_shared = record { on_first = at_a l; on_second = h.0 };
    other_shared = record { on_first = weighed_line near_weighed; on_second = near_on };
    differ = λ e. differ l pl (omega (arith, e.same_x)) (omega (arith, e.same_y));
  }

grow : (l m : Line) → Proper l → Proper m → Within l.a m → Even m l.b → TwoShared l m
grow l m pl pm h eb =
    grown l m pl pm h eb (l.a.x.0 + l.a.y.0 + (l.b.x.0 + l.b.y.0)) (omega arith) (omega arith) (omega arith) (omega arith)

-- ---- The other ends, by turning a line round

shared_back : {s : Spot} {l m : Line} → Shared s (back l) m → Shared s l m
shared_back {s} {l} h = record { on_first = online_back s l h.on_first; on_second = h.on_second }

two_back : {l m : Line} → TwoShared (back l) m → TwoShared l m
two_back t = record { one = t.one; other = t.other; one_shared = shared_back t.one_shared; other_shared = shared_back t.other_shared; differ = t.differ }

two_swap : {l m : Line} → TwoShared l m → TwoShared m l
two_swap t = record {
  one = t.one;
  other = t.other;
  one_shared = record { on_first = t.one_shared.on_second; on_second = t.one_shared.on_first };
  other_shared = record { on_first = t.other_shared.on_second; on_second = t.other_shared.on_first };
  differ = t.differ;
}

-- c and d in the straight line of a and b: with a, b is in that of c and d
other_even : (l m : Line) → Even l m.a → Even l m.b → Even m l.a → Even m l.b
other_even l m ec ed ea = omega (arith, ec, ed, ea)

other_even' : (l m : Line) → Even l m.a → Even l m.b → Even m l.b → Even m l.a
other_even' l m ec ed eb = omega (arith, ec, ed, eb)

within_even : (p : Point) (m : Line) → Within p m → Even m p
within_even p m w = (on_spot p m w.0).even

module _ (l m : Line) (pl : Proper l) (pm : Proper m) (ec : Even l m.a) (ed : Even l m.b) where
  pub two_a : Within l.a m → TwoShared l m
  two_a w = grow l m pl pm w (other_even l m ec ed (within_even l.a m w))

  pub two_b : Within l.b m → TwoShared l m
  unfolding back
  two_b w = two_back (grow (back l) m (proper_back l pl) pm w (other_even' l m ec ed (within_even l.b m w)))

  pub two_c : Within m.a l → TwoShared l m
  two_c w = two_swap (grow m l pm pl w ed)

  pub two_d : Within m.b l → TwoShared l m
  unfolding back
  two_d w = two_swap (two_back (grow (back m) l (proper_back m pm) pl w ec))
