-- A spot of a line is a mixture of its two ends.
use Rattle.std.specs.Prelude.{◌≡◌, refl, false, [], ◌∷◌, ℕ, ◌+◌, ◌*◌, ◌≤◌, ◌<◌, min, max}
use Rattle.std.proofs.Common.{sym, ◌∙◌, inl, inr, arith, mul-le-mul_right, pos_of_ne-zero}
use Rattle.std.proofs.Math.Nat.{le_of_mul-le-mul_left, min-le_left, min-le_right, le-max_left, le-max_right, min_comm, max_comm, min-eq_left, min-eq_right, max-eq_left, max-eq_right}
use Rattle.algebra.specs.Order.{mul_le, mul_lt}
use Rattle.algebra.specs.Signs.{Is, sub_is, neg_is, add_is, mul_is, shift_is, equal_of_zero, zero_of_equal}
use Rattle.algebra.specs.Solve.{solveℕ, re}
use Rattle.algebra.specs.Tests.{no_path, false_by}
use Rattle.definitions.specs.declared.Point.{Point}
use Rattle.definitions.specs.Shape.{Line, same_point}
use Rattle.definitions.specs.Meaning.{Spot, turn_at, OnLine, AtPoint, AtEnd}
use Rattle.plane.specs.Compare.{order, cancel, ◌·◌, ◌⊞◌, follows, rest, gap}
use Rattle.plane.specs.Turns.{lefts, rights}
use Rattle.plane.specs.Says.{both, eq_says}

-- the two sums whose difference is the turn at a spot
pub turn_at_is : (a b : Point) (s : Spot)
    → Is (turn_at a b s) (b.x.0 * s.Y + b.y.0 * (a.x.0 * s.Z) + a.y.0 * s.X) (b.x.0 * (a.y.0 * s.Z) + a.x.0 * s.Y + b.y.0 * s.X)
unfolding turn_at
turn_at_is a b s =
    shift_is
    (add_is (mul_is (sub_is b.x.0 a.x.0) (sub_is s.Y (a.y.0 * s.Z)))
    (neg_is (mul_is (sub_is b.y.0 a.y.0) (sub_is s.X (a.x.0 * s.Z)))))
    (omega arith)

-- the spot lies on the straight line through the ends
abbrev pub Straight : Spot → Line → Type 0
Straight s l =
    l.b.x.0 * s.Y + l.b.y.0 * (l.a.x.0 * s.Z) + l.a.y.0 * s.X ≡ l.b.x.0 * (l.a.y.0 * s.Z) + l.a.x.0 * s.Y + l.b.y.0 * s.X

pub straight_of : {s : Spot} {l : Line} → OnLine s l → Straight s l
straight_of {s} {l} o = equal_of_zero (turn_at_is l.a l.b s) o.straight

-- ---- The ends

unfoldable pub back : Line → Line
back m = record { slot = m.slot; a = m.b; b = m.a }

pub online_back : (s : Spot) (l : Line) → OnLine s (back l) → OnLine s l
unfolding back
online_back s l o =
    let e = straight_of {l = back l} o in
    record {
      straight = zero_of_equal (turn_at_is l.a l.b s) (omega (arith, e));
      from_west = rw min_comm o.from_west;
      to_east = rw max_comm o.to_east;
      from_south = rw min_comm o.from_south;
      to_north = rw max_comm o.to_north;
    }

-- the ends are distinct
unfoldable pub Proper : Line → Type 0
Proper l = same_point l.a l.b ≡ false

pub differ : (l : Line) → Proper l → l.a.x.0 ≡ l.b.x.0 → l.a.y.0 ≡ l.b.y.0 → ⊥
unfolding Proper same_point
differ l pr e f = no_path (sym pr ∙ (both (eq_says _ _) (eq_says _ _)).1 (e, f))

pub proper_back : (l : Line) → Proper l → Proper (back l)
unfolding Proper same_point back
proper_back l pr = false_by _ (λ t. let h = (both (eq_says l.b.x.0 l.a.x.0) (eq_says l.b.y.0 l.a.y.0)).0 t in differ l pr (sym h.0) (sym h.1))

-- ---- Mixtures

-- the spot that divides the line in the ratio u to v
abbrev pub Mix : Spot → Line → ℕ → ℕ → Type 0
Mix s l v u = (s.X ≡ l.a.x.0 * v + l.b.x.0 * u) × (s.Y ≡ l.a.y.0 * v + l.b.y.0 * u) × (s.Z ≡ v + u)

-- the same, k times over
pub record Weighed (s : Spot) (l : Line) : Type 0 where
  pub k : ℕ
  pub v : ℕ
  pub u : ℕ
  pub some : 0 < k
  pub at_x : k * s.X ≡ l.a.x.0 * v + l.b.x.0 * u
  pub at_y : k * s.Y ≡ l.a.y.0 * v + l.b.y.0 * u
  pub at_z : k * s.Z ≡ v + u

unfoldable pub flip : {s : Spot} {l : Line} → Weighed s l → Weighed s (back l)
unfolding back
flip w = record { k = w.k; v = w.u; u = w.v; some = w.some; at_x = omega (arith, w.at_x); at_y = omega (arith, w.at_y); at_z = omega (arith, w.at_z) }

-- the turn about c, d is the mean of the turns at the ends
module _ {s : Spot} {l : Line} (w : Weighed s l) (c d : Point) where
  pub mean_lefts : w.k * (d.x.0 * s.Y + d.y.0 * (c.x.0 * s.Z) + c.y.0 * s.X) ≡ w.v * lefts c d l.a + w.u * lefts c d l.b
  mean_lefts = omega (arith, d.x.0 · w.at_y, c.y.0 · w.at_x, (d.y.0 * c.x.0) · w.at_z)

  pub mean_rights : w.k * (d.x.0 * (c.y.0 * s.Z) + c.x.0 * s.Y + d.y.0 * s.X) ≡ w.v * rights c d l.a + w.u * rights c d l.b
  mean_rights = omega (arith, c.x.0 · w.at_y, d.y.0 · w.at_x, (d.x.0 * c.y.0) · w.at_z)

-- a mean lies between
range : (a b X Z k v u : ℕ) → 0 < k → k * X ≡ a * v + b * u → k * Z ≡ v + u → (min a b * Z ≤ X) × (X ≤ max a b * Z)
range a b X Z k v u h e f = (low (min a b) (min-le_left a b) (min-le_right a b), high (max a b) (le-max_left a b) (le-max_right a b))
  where
    low : (m : ℕ) → m ≤ a → m ≤ b → m * Z ≤ X
    low m p q = le_of_mul-le-mul_left {k = k} (omega (arith, m · f, mul-le-mul_right v p, mul-le-mul_right u q)) h

    high : (m : ℕ) → a ≤ m → b ≤ m → X ≤ m * Z
    high m p q = le_of_mul-le-mul_left {k = k} (omega (arith, m · f, mul-le-mul_right v p, mul-le-mul_right u q)) h

pub weighed_line : {s : Spot} {l : Line} → Weighed s l → OnLine s l
weighed_line {s} {l} w =
    let x = range l.a.x.0 l.b.x.0 s.X s.Z w.k w.v w.u w.some w.at_x w.at_z in
    let y = range l.a.y.0 l.b.y.0 s.Y s.Z w.k w.v w.u w.some w.at_y w.at_z in
    record {
      straight = zero_of_equal (turn_at_is l.a l.b s) (cancel w.k w.some (mean_lefts w l.a l.b ∙ omega arith ∙ sym (mean_rights w l.a l.b)));
      from_west = x.0;
      to_east = x.1;
      from_south = y.0;
      to_north = y.1;
    }

weighed : (s : Spot) (l : Line) (v u : ℕ) → Mix s l v u → Weighed s l
weighed s l v u m = record { k = 1; v = v; u = u; some = omega arith; at_x = omega (arith, m.0); at_y = omega (arith, m.1); at_z = omega (arith, m.2) }

pub mix_line : (s : Spot) (l : Line) (v u : ℕ) → Mix s l v u → OnLine s l
mix_line s l v u m = weighed_line (weighed s l v u m)

-- ---- The place of a spot along a direction

abbrev pub dot : Point → Point → ℕ
dot p q = p.x.0 * q.x.0 + p.y.0 * q.y.0

abbrev pub dot_at : Point → Spot → ℕ
dot_at p s = p.x.0 * s.X + p.y.0 * s.Y

-- a coordinate of a spot in the straight line of c and d, by the places of the three along p, q less r, t
pub weighed_at : (p q r t cx cy dx dy X Y Z k v u : ℕ) → dx * Y + dy * (cx * Z) + cy * X ≡ dx * (cy * Z) + cx * Y + dy * X
    → k + (p * cx + q * cy + (r * dx + t * dy)) ≡ p * dx + q * dy + (r * cx + t * cy)
    → v + (p * X + q * Y + (r * dx + t * dy) * Z) ≡ (p * dx + q * dy) * Z + (r * X + t * Y)
    → u + ((p * cx + q * cy) * Z + (r * X + t * Y)) ≡ p * X + q * Y + (r * cx + t * cy) * Z
    → k * X ≡ cx * v + dx * u
weighed_at p q r t cx cy dx dy X Y Z k v u e ek ev eu =
    follows (X · ek ⊞ sym (cx · ev) ⊞ sym (dx · eu) ⊞ sym (q · e) ⊞ t · e)
    (solveℕ (p ∷ q ∷ r ∷ t ∷ cx ∷ cy ∷ dx ∷ dy ∷ X ∷ Y ∷ Z ∷ k ∷ v ∷ u ∷ []) (search re depth 12) refl)

-- a spot of m's straight line, by its place between the ends of m in the direction from a to b
unfoldable pub weigh : (a b : Point) (m : Line) (s : Spot) (k v u : ℕ) → 0 < k → Straight s m
    → k + (dot b m.a + dot a m.b) ≡ dot b m.b + dot a m.a
    → v + (dot_at b s + dot a m.b * s.Z) ≡ dot b m.b * s.Z + dot_at a s
    → u + (dot b m.a * s.Z + dot_at a s) ≡ dot_at b s + dot a m.a * s.Z
    → Weighed s m
weigh a b m s k v u h e ek ev eu =
    record {
      k = k;
      v = v;
      u = u;
      some = h;
      at_x = weighed_at b.x.0 b.y.0 a.x.0 a.y.0 m.a.x.0 m.a.y.0 m.b.x.0 m.b.y.0 s.X s.Y s.Z k v u e ek ev eu;
      at_y = weighed_at b.y.0 b.x.0 a.y.0 a.x.0 m.a.y.0 m.a.x.0 m.b.y.0 m.b.x.0 s.Y s.X s.Z k v u
          (omega (arith, e)) (omega (arith, ek)) (omega (arith, ev)) (omega (arith, eu));
      at_z = omega (arith, s.Z · ek);
    }

-- both products of the differences are not negative: a and X / Z, and X / Z and b, lie the same way as a and b
same_way : (a b X Z : ℕ) → min a b * Z ≤ X → X ≤ max a b * Z → (b * (a * Z) + a * X ≤ b * X + a * (a * Z)) × (b * X + a * (b * Z) ≤ b * (b * Z) + a * X)
same_way a b X Z h k = elim (order a b) [
  | inl i ↦ (mul_le b a X (a * Z) i (rw (min-eq_left i) at h), mul_le b a (b * Z) X i (rw (max-eq_right i) at k))
  | inr i ↦
      let j : b ≤ a = omega arith in
      (omega (arith, mul_le a b (a * Z) X j (rw (max-eq_left j) at k)), omega (arith, mul_le a b X (b * Z) j (rw (min-eq_right j) at h)))
]

squares : (a b : ℕ) → a * b + b * a ≤ a * a + b * b
squares a b = elim (order a b) [ inl h ↦ omega (arith, mul_le b a b a h h) | inr h ↦ omega (arith, mul_lt a b a b h h) ]

level : (a b : ℕ) → a * a + b * b ≤ a * b + b * a → a ≡ b
level a b h = elim (order a b) [
  | inl i ↦ elim (order b a) [ inl j ↦ omega arith | inr j ↦ absurd (omega (arith, mul_lt b a b a j j)) ]
  | inr i ↦ absurd (omega (arith, mul_lt a b a b i i))
]

-- in a line's own direction, its second end comes after its first
pub ahead : (l : Line) → Proper l → dot l.b l.a + dot l.a l.b < dot l.b l.b + dot l.a l.a
ahead l pr = elim (order (dot l.b l.b + dot l.a l.a) (dot l.b l.a + dot l.a l.b)) [
  | inl h ↦ absurd (differ l pr (level _ _ (omega (arith, squares l.a.y.0 l.b.y.0))) (level _ _ (omega (arith, squares l.a.x.0 l.b.x.0))))
  | inr h ↦ h
]

pub weights : {s : Spot} {l : Line} → Proper l → OnLine s l → Weighed s l
weights {s} {l} pr o =
    let (x, x') = same_way l.a.x.0 l.b.x.0 s.X s.Z o.from_west o.to_east in
    let (y, y') = same_way l.a.y.0 l.b.y.0 s.Y s.Z o.from_south o.to_north in
    let (k, h, ek) = gap (ahead l pr) in
    let (u, eu) = rest {m = dot l.b l.a * s.Z + dot_at l.a s} {n = dot_at l.b s + dot l.a l.a * s.Z} (omega (arith, x, y)) in
    let (v, ev) = rest {m = dot_at l.b s + dot l.a l.b * s.Z} {n = dot l.b l.b * s.Z + dot_at l.a s} (omega (arith, x', y')) in
    weigh l.a l.b l s k v u h (straight_of o) ek ev eu

-- ---- Inside a line

-- of a spot that is not at the second end, the weight of the first is not 0
first : {s : Spot} {l : Line} (w : Weighed s l) → (AtPoint s l.b → ⊥) → 0 < w.v
first {s} {l} w f = pos_of_ne-zero (λ e. f (record { same_x = far _ _ _ w.at_x e; same_y = far _ _ _ w.at_y e }))
  where
    far : (a b X : ℕ) → w.k * X ≡ a * w.v + b * w.u → w.v ≡ 0 → X ≡ b * s.Z
    far a b X e g = cancel w.k w.some (omega (arith, a · g, b · w.at_z, b · g))

pub inner : {s : Spot} {l : Line} (w : Weighed s l) → (AtEnd s l → ⊥) → (0 < w.v) × (0 < w.u)
unfolding back flip
inner w f = (first w (λ h. f (inr h)), first (flip w) (λ h. f (inl h)))

-- at the first end, though the second has a weight: the ends agree
no_first : {s : Spot} {l : Line} (w : Weighed s l) → 0 < w.u → AtPoint s l.a → (l.a.x.0 ≡ l.b.x.0) × (l.a.y.0 ≡ l.b.y.0)
no_first {s} {l} w h i = (near _ _ _ w.at_x i.same_x, near _ _ _ w.at_y i.same_y)
  where
    near : (a b X : ℕ) → w.k * X ≡ a * w.v + b * w.u → X ≡ a * s.Z → a ≡ b
    near a b X e g = cancel w.u h (omega (arith, w.k · g, a · w.at_z))

-- a spot strictly between the ends of a line with distinct ends is no end of it
pub no_end : {s : Spot} {l : Line} (w : Weighed s l) → Proper l → 0 < w.v → 0 < w.u → AtEnd s l → ⊥
unfolding back flip
no_end {s} {l} w pr hv hu (inl h) = let e = no_first w hu h in differ l pr e.0 e.1
no_end {s} {l} w pr hv hu (inr h) = let e = no_first (flip w) hv h in differ l pr (sym e.0) (sym e.1)

pub mix_inner : (s : Spot) (l : Line) (v u : ℕ) → Proper l → 0 < v → 0 < u → Mix s l v u → AtEnd s l → ⊥
unfolding weighed
mix_inner s l v u pr hv hu m = no_end (weighed s l v u m) pr hv hu
