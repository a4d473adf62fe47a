-- The computed test and the common point: `meets_area k l` is true exactly if some point of the line lies in the closed rectangle, be it one segment or one point.
use Rattle.std.specs.Prelude.{◌≡◌, refl, ◌↔◌, ◌⊎◌, Bool, true, ℕ, ◌+◌, ◌*◌, ◌-◌, ◌≤◌, ◌<◌}
use Rattle.std.proofs.Math.Logic.Iff
use Rattle.std.proofs.Math.Logic.{inl, inr}
use Rattle.std.proofs.Common.{arith, mul-le-mul_right, le_of_lt}
use Rattle.std.proofs.Math.Nat.{mul-lt-mul_of_pos_left}
use Rattle.algebra.specs.Order.{mul_le}
use Rattle.definitions.specs.declared.Point.{Point}
use Rattle.definitions.specs.Shape.{Line, Area, half_point, min_x, max_x, min_y, max_y, corners, meets_area}
use Rattle.definitions.specs.Meaning.{Spot, MeetsArea}
use Rattle.plane.specs.Compare.{order, not_more, cancelled, ◌·◌}
use Rattle.plane.specs.Says.{both, unless, le_says, Left, Right, NotLeft, NotRight, left?, right?, left_says, right_says}
use Rattle.plane.specs.Segments.{straight_of, back, online_back, mix_line}
pub use Rattle.plane.specs.Segments.{turn_at_is}

module _ (k : Area) (east_more : k.west ≤ k.east) (north_more : k.south ≤ k.north) where
  -- the four corners
  abbrev sw : Point
  sw = half_point k.west k.south

  abbrev se : Point
  se = half_point k.east k.south

  abbrev nw : Point
  nw = half_point k.west k.north

  abbrev ne : Point
  ne = half_point k.east k.north

  corners_says : {test : Point → Bool} {P : Point → Type 0} → ((p : Point) → (test p ≡ true) ↔ P p) → (corners test k ≡ true) ↔ (((P sw × P se) × P nw) × P ne)
  unfolding corners
  corners_says says = both (both (both (says sw) (says se)) (says nw)) (says ne)

  -- what the test says
  record Near (l : Line) : Type 0 where
    from_west : min_x l ≤ k.east
    to_east : k.west ≤ max_x l
    from_south : min_y l ≤ k.north
    to_north : k.south ≤ max_y l
    not_left : Left l sw → Left l se → Left l nw → Left l ne → ⊥
    not_right : Right l sw → Right l se → Right l nw → Right l ne → ⊥

  meets_says : (l : Line) → (meets_area k l ≡ true) ↔ Near l
  unfolding meets_area
  meets_says l =
      Iff.trans
      (both (both (both (both (both (le_says _ _) (le_says _ _)) (le_says _ _)) (le_says _ _)) (unless (corners_says (left_says l)))) (unless (corners_says (right_says l)))) (
        λ f. record { from_west = f.0.0.0.0.0; to_east = f.0.0.0.0.1; from_south = f.0.0.0.1; to_north = f.0.0.1; not_left = λ a b c d. f.0.1 (((a, b), c), d); not_right = λ a b c d. f.1 (((a, b), c), d) },
        λ n. (((((n.from_west, n.to_east), n.from_south), n.to_north), λ c. n.not_left c.0.0.0 c.0.0.1 c.0.1 c.1), λ c. n.not_right c.0.0.0 c.0.0.1 c.0.1 c.1),
      )

  near_back : (l : Line) → Near l → Near (back l)
  unfolding back
  near_back l n =
      record {
        from_west = omega (arith, n.from_west);
        to_east = omega (arith, n.to_east);
        from_south = omega (arith, n.from_south);
        to_north = omega (arith, n.to_north);
        not_left = λ a b c d. n.not_right (omega (arith, a)) (omega (arith, b)) (omega (arith, c)) (omega (arith, d));
        not_right = λ a b c d. n.not_left (omega (arith, a)) (omega (arith, b)) (omega (arith, c)) (omega (arith, d));
      }

  meets_back : (l : Line) → MeetsArea k (back l) → MeetsArea k l
  meets_back l (s, o, i) = (s, online_back s l o, i)

  -- ---- The test passes: a spot

  -- the mixture of the ends that lies in the rectangle
  at_mix : (l : Line) (v u : ℕ) → 0 < v + u
      → k.west * (v + u) ≤ l.a.x.0 * v + l.b.x.0 * u → l.a.x.0 * v + l.b.x.0 * u ≤ k.east * (v + u)
      → k.south * (v + u) ≤ l.a.y.0 * v + l.b.y.0 * u → l.a.y.0 * v + l.b.y.0 * u ≤ k.north * (v + u) → MeetsArea k l
  at_mix l v u h w e s n =
      let spot : Spot = record { X = l.a.x.0 * v + l.b.x.0 * u; Y = l.a.y.0 * v + l.b.y.0 * u; Z = v + u; some = h } in
      (spot, mix_line spot l v u (refl, refl, refl), record { from_west = w; to_east = e; from_south = s; to_north = n })

  at_end : (l : Line) → k.west ≤ l.a.x.0 → l.a.x.0 ≤ k.east → k.south ≤ l.a.y.0 → l.a.y.0 ≤ k.north → MeetsArea k l
  at_end l w e s n = at_mix l 1 0 (omega arith) (omega arith) (omega arith) (omega arith) (omega arith)

  -- the line comes to the west side
  at_west : (l : Line) → l.a.x.0 ≤ k.west → k.west ≤ l.b.x.0 → l.a.x.0 < l.b.x.0
      → NotLeft l sw → NotRight l nw → MeetsArea k l
  at_west l h i j s n = go (l.b.x.0 - k.west) (k.west - l.a.x.0) (omega arith) (omega arith)
    where
      go : (v u : ℕ) → k.west ≡ l.a.x.0 + u → l.b.x.0 ≡ l.a.x.0 + u + v → MeetsArea k l
      go v u e f =
          let s' : _ = rw (f, e) at s in
          let n' : _ = rw (f, e) at n in
          at_mix l v u (omega arith) (rw (f, e) (omega arith)) (omega (arith, mul-le-mul_right (v + u) east_more, (v + u) · e, u · f)) (omega arith) (omega arith)

  -- the line comes to the level w, which the rectangle has
  at_level : (l : Line) (w : ℕ) → k.south ≤ w → w ≤ k.north → l.a.y.0 ≤ w → w ≤ l.b.y.0 → l.a.y.0 < l.b.y.0
      → NotRight l (half_point k.west w) → NotLeft l (half_point k.east w) → MeetsArea k l
  at_level l w f g h i j s n = go (l.b.y.0 - w) (w - l.a.y.0) (omega arith) (omega arith)
    where
      go : (v u : ℕ) → w ≡ l.a.y.0 + u → l.b.y.0 ≡ l.a.y.0 + u + v → MeetsArea k l
      go v u e q =
          let s' : _ = rw (q, e) at s in
          let n' : _ = rw (q, e) at n in
          at_mix l v u (omega arith) (omega arith) (omega arith)
          (omega (arith, mul-le-mul_right (v + u) f, (v + u) · e, u · q)) (omega (arith, mul-le-mul_right (v + u) g, (v + u) · e, u · q))

  -- a line that goes east
  module _ (l : Line) (n : Near l) (ex : l.a.x.0 ≤ l.b.x.0) where
    tall : l.b.x.0 * k.south + l.a.x.0 * k.north ≤ l.b.x.0 * k.north + l.a.x.0 * k.south
    tall = mul_le l.b.x.0 l.a.x.0 k.north k.south ex (omega arith)

    wide : (p q : ℕ) → p ≤ q → q * k.west + p * k.east ≤ q * k.east + p * k.west
    wide p q h = mul_le q p k.east k.west h (omega arith)

    -- first below the rectangle, it rises
    from_south : l.a.y.0 < k.south → NotRight l sw → MeetsArea k l
    from_south q s =
        let h : l.a.y.0 < l.b.y.0 = omega (arith, n.to_north) in
        let w = wide l.a.y.0 l.b.y.0 (le_of_lt h) in
        at_level l k.south (omega arith) (omega arith) (omega arith) (omega (arith, n.to_north)) h s
        (not_more (λ f. n.not_left (omega (arith, f, tall, w)) f (omega (arith, f, tall, w)) (omega (arith, f, tall, w))))

    -- first above it, it falls
    from_north : k.north < l.a.y.0 → NotLeft l nw → MeetsArea k l
    unfolding back
    from_north q s =
        let h : l.b.y.0 < l.a.y.0 = omega (arith, n.from_south) in
        let w = wide l.b.y.0 l.a.y.0 (le_of_lt h) in
        let t : NotRight l ne = not_more (λ f. n.not_right (omega (arith, f, tall, w)) (omega (arith, f, tall, w)) (omega (arith, f, tall, w)) f) in
        meets_back l (at_level (back l) k.north (omega arith) (omega arith) (omega (arith, n.from_south)) (omega arith) h (omega (arith, s)) (omega (arith, t)))

    -- first west of it, it comes to the west side, or passes a corner of that
    from_west : l.a.x.0 < k.west → MeetsArea k l
    from_west p = elim (left? l sw) [
      | inr s ↦ from_south (low s) (omega (arith, s))
      | inl s ↦ elim (right? l nw) [
        | inr t ↦ from_north (high t) (omega (arith, t))
        | inl t ↦ at_west l (omega arith) (omega (arith, n.to_east)) (omega (arith, n.to_east)) s t
      ]
    ]
      where
        low : Left l sw → l.a.y.0 < k.south
        low s = not_more (λ q. elim (order l.a.y.0 l.b.y.0) [
          | inl h ↦ omega (arith, s, mul_le l.b.x.0 l.a.x.0 l.a.y.0 k.south ex (omega arith), mul_le l.b.y.0 l.a.y.0 k.west l.a.x.0 h (omega arith))
          | inr h ↦ let w = wide l.b.y.0 l.a.y.0 (le_of_lt h) in n.not_left s (omega (arith, s, tall, w)) (omega (arith, s, tall, w)) (omega (arith, s, tall, w))
        ])

        high : Right l nw → k.north < l.a.y.0
        high t = not_more (λ q. elim (order l.a.y.0 l.b.y.0) [
          | inl h ↦ let w = wide l.a.y.0 l.b.y.0 h in n.not_right (omega (arith, t, tall, w)) (omega (arith, t, tall, w)) t (omega (arith, t, tall, w))
          | inr h ↦ omega (arith, t, mul_le l.b.x.0 l.a.x.0 k.north l.a.y.0 ex (omega arith), mul_le l.a.y.0 l.b.y.0 k.west l.a.x.0 (le_of_lt h) (omega arith))
        ])

    eastward : MeetsArea k l
    eastward = elim (order k.west l.a.x.0) [
      | inr p ↦ from_west p
      | inl p ↦ elim (order k.south l.a.y.0) [
        | inr q ↦ from_south q (omega (arith, mul_le l.b.x.0 l.a.x.0 k.south l.a.y.0 ex (le_of_lt q), mul_le l.b.y.0 l.a.y.0 l.a.x.0 k.west (omega (arith, n.to_north)) p))
        | inl q ↦ elim (order l.a.y.0 k.north) [
          | inr r ↦ from_north r (omega (arith, mul_le l.b.x.0 l.a.x.0 l.a.y.0 k.north ex (le_of_lt r), mul_le l.a.y.0 l.b.y.0 l.a.x.0 k.west (omega (arith, n.from_south)) p))
          | inl r ↦ at_end l p (omega (arith, n.from_west)) q r
        ]
      ]
    ]

  spot_of_lem : (l : Line) → Near l → MeetsArea k l
  unfolding back
  spot_of_lem l n = elim (order l.a.x.0 l.b.x.0) [ inl h ↦ eastward l n h | inr h ↦ meets_back l (eastward (back l) (near_back l n) (omega arith)) ]

  -- ---- A spot: the test passes

  -- (bx - ax) (Y - cy Z) and (by - ay) (cx Z - X) are not negative: c is not left
  not_left : (l : Line) (c : Point) (m : MeetsArea k l)
      → l.b.x.0 * (c.y.0 * m.0.Z) + l.a.x.0 * m.0.Y ≤ l.b.x.0 * m.0.Y + l.a.x.0 * (c.y.0 * m.0.Z)
      → l.b.y.0 * m.0.X + l.a.y.0 * (c.x.0 * m.0.Z) ≤ l.b.y.0 * (c.x.0 * m.0.Z) + l.a.y.0 * m.0.X
      → Left l c → ⊥
  not_left l c (s, o, i) h j f = let e = straight_of o in omega (arith, e, h, j, mul-lt-mul_of_pos_left f s.some)

  some_corner : (l : Line) → MeetsArea k l → Left l sw → Left l se → Left l nw → Left l ne → ⊥
  some_corner l m c d e f = go (order l.a.x.0 l.b.x.0) (order l.a.y.0 l.b.y.0)
    where
      go : (l.a.x.0 ≤ l.b.x.0) ⊎ (l.b.x.0 < l.a.x.0) → (l.a.y.0 ≤ l.b.y.0) ⊎ (l.b.y.0 < l.a.y.0) → ⊥
      go (inl h) (inl j) = not_left l se m (mul_le _ _ _ _ h m.2.from_south) (mul_le _ _ _ _ j m.2.to_east) d
      go (inl h) (inr j) = not_left l sw m (mul_le _ _ _ _ h m.2.from_south) (omega (arith, mul_le _ _ _ _ (le_of_lt j) m.2.from_west)) c
      go (inr h) (inl j) = not_left l ne m (omega (arith, mul_le _ _ _ _ (le_of_lt h) m.2.to_north)) (mul_le _ _ _ _ j m.2.to_east) f
      go (inr h) (inr j) = not_left l nw m (omega (arith, mul_le _ _ _ _ (le_of_lt h) m.2.to_north)) (omega (arith, mul_le _ _ _ _ (le_of_lt j) m.2.from_west)) e

  near_of : (l : Line) → MeetsArea k l → Near l
  unfolding back
  near_of l (s, o, i) =
      record {
        from_west = cancelled s.some o.from_west i.to_east;
        to_east = cancelled s.some i.from_west o.to_east;
        from_south = cancelled s.some o.from_south i.to_north;
        to_north = cancelled s.some i.from_south o.to_north;
        not_left = some_corner l (s, o, i);
        not_right = λ c d e f. some_corner (back l) (meets_back (back l) (s, o, i)) (omega (arith, c)) (omega (arith, d)) (omega (arith, e)) (omega (arith, f));
      }

  pub meets_area_iff : (l : Line) → (meets_area k l ≡ true) ↔ MeetsArea k l
  meets_area_iff l = Iff.trans (meets_says l) (spot_of_lem l, near_of l)
