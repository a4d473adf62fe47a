-- Heights as fractions: the point of a line over x, and which of two is higher there.
use Rattle.std.specs.Prelude.{◌≡◌, refl, ◌↔◌, ◌⊎◌, Bool, true, false, ◌&&◌, ℕ, ◌+◌, ◌*◌, ◌-◌, ◌≤◌, ◌<◌, min, max, leb, ltb, if◌then◌else◌}
use Rattle.std.proofs.Common.{sym, ◌∙◌, ap, subst, subst₂, mul-lt-mul_of_pos_right, mul-pos, le_of_mul-le-mul_right, lt_of_mul-lt-mul_right}
use Rattle.std.proofs.Math.Logic.{inl, inr}
use native.Mathlib.Omega.{arith}
use borrow.Author.Tests.{leb-true, le-leb, lt-ltb, ltb-true, ltb-false}
use Rattle.definitions.specs.declared.Point.{Point}
use Rattle.algebra.specs.Signs.{positive_is, negative_is, equal_of_zero, zero_of_equal}
use Rattle.algebra.specs.Tests.{and_l, and_r, and_b}
use Rattle.algebra.specs.Words.{is_positive, is_negative}
use Rattle.definitions.specs.Lookup.{west_end, east_end, below, above, run, height_over}
use Rattle.definitions.specs.Meaning.{Spot, OnLine, Steeper, PointOver, CountsBelow, CountsAbove, NoneHigher}
use Rattle.definitions.specs.Shape.{Line, min_x, max_x, turn}
use Rattle.plane.specs.Compare.{order}
use Rattle.plane.specs.Crossing.{back, mix_line}
use Rattle.plane.specs.Meeting.{turn_at_is}
use Rattle.meaning.specs.Rank.{eastward, eastward_is, Over, Taller, Level, Higher, taller, steeper, asym, turn_height, run_some}
use Rattle.plane.specs.Turns.{turn_is}

-- a point of the line taken west to east is a point of the line
online_back : (s : Spot) (l : Line) → OnLine s (back l) → OnLine s l
unfolding back
online_back s l o =
    record {
      straight = zero_of_equal (turn_at_is l.a l.b s) (sym (flip l.b.x.0 l.b.y.0 l.a.x.0 l.a.y.0 s.X s.Y s.Z (equal_of_zero (turn_at_is l.b l.a s) o.straight)));
      from_west = low _ _ _ _ o.from_west;
      to_east = high _ _ _ _ o.to_east;
      from_south = low _ _ _ _ o.from_south;
      to_north = high _ _ _ _ o.to_north;
    }
  where
    flip : (ax ay bx by X Y Z : ℕ) → bx * Y + by * (ax * Z) + ay * X ≡ bx * (ay * Z) + ax * Y + by * X → ax * (by * Z) + bx * Y + ay * X ≡ ax * Y + ay * (bx * Z) + by * X
    flip ax ay bx by X Y Z e = omega arith

    low : (p q z x : ℕ) → min q p * z ≤ x → min p q * z ≤ x
    low p q z x h = subst (λ (n : ℕ). n * z ≤ x) {x = min q p} (omega arith) h

    high : (p q z x : ℕ) → x ≤ max q p * z → x ≤ max p q * z
    high p q z x h = subst (λ (n : ℕ). x ≤ n * z) {x = max q p} (omega arith) h

pub online_east : (s : Spot) (l : Line) → OnLine s (eastward l) ↔ OnLine s l
unfolding back
online_east s l = go (eastward_is l)
  where
    go : (eastward l ≡ l) ⊎ (eastward l ≡ back l) → OnLine s (eastward l) ↔ OnLine s l
    go (inl e) = (λ o. subst (λ (k : Line). OnLine s k) e o, λ o. subst (λ (k : Line). OnLine s k) (sym e) o)
    go (inr e) = (λ o. online_back s l (subst (λ (k : Line). OnLine s k) e o), λ o. subst (λ (k : Line). OnLine s k) (sym e) (online_back s (back l) o))

-- the ranges by min and max, and by the two ends
pub over_is : (x : ℕ) (l : Line) → (min_x l ≤ x) → (x < max_x l) → Over x l
over_is x l h k = record { from_west = (go (ltb l.a.x.0 l.b.x.0) refl).0; before_east = (go (ltb l.a.x.0 l.b.x.0) refl).1 }
  where
    go : (t : Bool) → ltb l.a.x.0 l.b.x.0 ≡ t → ((if t then l.a else l.b).x.0 ≤ x) × (x < (if t then l.b else l.a).x.0)
    go true e = let z : l.a.x.0 < l.b.x.0 = ltb-true _ _ e in (omega arith, omega arith)
    go false e = let z : l.b.x.0 ≤ l.a.x.0 = ltb-false _ _ e in (omega arith, omega arith)

pub over_range : (x : ℕ) (l : Line) → Over x l → (min_x l ≤ x) × (x < max_x l)
over_range x l o = go (ltb l.a.x.0 l.b.x.0) refl o.from_west o.before_east
  where
    go : (t : Bool) → ltb l.a.x.0 l.b.x.0 ≡ t → (if t then l.a else l.b).x.0 ≤ x → x < (if t then l.b else l.a).x.0 → (min_x l ≤ x) × (x < max_x l)
    go true e h k = (omega arith, omega arith)
    go false e h k = (omega arith, omega arith)

-- the line's point over x
unfoldable pub point_over : (x : ℕ) (l : Line) → Over x l → Spot
point_over x l o = record { X = x * run l; Y = height_over x l; Z = run l; some = run_some x l o }

pub point_over_is : (x : ℕ) (l : Line) (o : Over x l) → PointOver x l (point_over x l o)
unfolding point_over eastward height_over run
point_over_is x l o =
    record {
      online = (online_east (point_over x l o) l).0 (mix_line (point_over x l o) (eastward l) ((east_end l).x.0 - x) (x - (west_end l).x.0) (
        along (west_end l).x.0 (east_end l).x.0 o.from_west o.before_east,
        refl,
        sums (west_end l).x.0 (east_end l).x.0 o.from_west o.before_east,
      ));
      over = refl;
    }
  where
    sums : (a b : ℕ) → a ≤ x → x < b → b - a ≡ b - x + (x - a)
    sums a b h k = omega arith

    flat : (a b u v : ℕ) → a + u ≡ x → x + v ≡ b → x * (v + u) ≡ a * v + b * u
    flat a b u v e f = rw (← f, ← e) (omega arith)

    along : (a b : ℕ) → a ≤ x → x < b → x * (b - a) ≡ a * (b - x) + b * (x - a)
    along a b h k = ap (λ (n : ℕ). x * n) (sums a b h k) ∙ flat a b (x - a) (b - x) (omega arith) (omega arith)

-- its height, whatever its scale
pub spot_height : (x : ℕ) (l : Line) (s : Spot) → Over x l → PointOver x l s → s.Y * run l ≡ height_over x l * s.Z
unfolding eastward height_over run
spot_height x l s o p =
    go (west_end l).x.0 (west_end l).y.0 (east_end l).x.0 (east_end l).y.0 s.Y s.Z o.from_west o.before_east
    (subst (λ (n : ℕ). (east_end l).x.0 * s.Y + (east_end l).y.0 * ((west_end l).x.0 * s.Z) + (west_end l).y.0 * n ≡ (east_end l).x.0 * ((west_end l).y.0 * s.Z) + (west_end l).x.0 * s.Y + (east_end l).y.0 * n) p.over
    (equal_of_zero (turn_at_is (west_end l) (east_end l) s) ((online_east s l).1 p.online).straight))
  where
    numbers : (a ay b by Y Z u v : ℕ) → a + u ≡ x → x + v ≡ b → b * Y + by * (a * Z) + ay * (x * Z) ≡ b * (ay * Z) + a * Y + by * (x * Z) → Y * (v + u) ≡ (ay * v + by * u) * Z
    numbers a ay b by Y Z u v e f h = flat a ay by Y Z u v (subst₂ (λ (m n : ℕ). n * Y + by * (a * Z) + ay * (m * Z) ≡ n * (ay * Z) + a * Y + by * (m * Z)) (sym e) (sym f ∙ ap (λ (n : ℕ). n + v) (sym e)) h)
      where
        flat : (a ay by Y Z u v : ℕ) → (a + u + v) * Y + by * (a * Z) + ay * ((a + u) * Z) ≡ (a + u + v) * (ay * Z) + a * Y + by * ((a + u) * Z) → Y * (v + u) ≡ (ay * v + by * u) * Z
        flat a ay by Y Z u v h = omega arith

    go : (a ay b by Y Z : ℕ) → a ≤ x → x < b → b * Y + by * (a * Z) + ay * (x * Z) ≡ b * (ay * Z) + a * Y + by * (x * Z) → Y * (b - a) ≡ (ay * (b - x) + by * (x - a)) * Z
    go a ay b by Y Z h k e = ap (λ (n : ℕ). Y * n) {x = b - a} {y = b - x + (x - a)} (omega arith) ∙ numbers a ay b by Y Z (x - a) (b - x) (omega arith) (omega arith) e

-- below and above, by heights
of_lt : {a b : ℕ} → a < b → a ≤ b
of_lt h = omega arith

module _ (p : Point) (l : Line) where
  abbrev range : Bool
  range = leb (west_end l).x.0 p.x.0 && ltb p.x.0 (east_end l).x.0

  range→ : range ≡ true → Over p.x.0 l
  range→ e = record { from_west = leb-true _ _ (and_l (leb (west_end l).x.0 p.x.0) (ltb p.x.0 (east_end l).x.0) e); before_east = ltb-true _ _ (and_r (leb (west_end l).x.0 p.x.0) (ltb p.x.0 (east_end l).x.0) e) }

  range← : Over p.x.0 l → range ≡ true
  range← o = and_b _ _ (le-leb _ _ o.from_west) (lt-ltb _ _ o.before_east)

  pub below→ : below p l ≡ true → Over p.x.0 l × (height_over p.x.0 l < p.y.0 * run l)
  unfolding below
  below→ e = (o, lower _ _ _ _ (turn_height l p o.from_west (of_lt o.before_east)) (ltb-true _ _ (sym (positive_is (turn_is (west_end l) (east_end l) p)) ∙ and_r range (is_positive (turn (west_end l) (east_end l) p)) e)))
    where
      o : Over p.x.0 l
      o = range→ (and_l range (is_positive (turn (west_end l) (east_end l) p)) e)

      lower : (a b c d : ℕ) → a + b ≡ c + d → c < a → b < d
      lower a b c d e k = omega arith

  pub below← : Over p.x.0 l → height_over p.x.0 l < p.y.0 * run l → below p l ≡ true
  unfolding below
  below← o h = and_b _ _ (range← o) (positive_is (turn_is (west_end l) (east_end l) p) ∙ lt-ltb _ _ (upper _ _ _ _ (turn_height l p o.from_west (of_lt o.before_east)) h))
    where
      upper : (a b c d : ℕ) → a + b ≡ c + d → b < d → c < a
      upper a b c d e k = omega arith

  pub above→ : above p l ≡ true → Over p.x.0 l × (p.y.0 * run l < height_over p.x.0 l)
  unfolding above
  above→ e = (o, upper _ _ _ _ (turn_height l p o.from_west (of_lt o.before_east)) (ltb-true _ _ (sym (negative_is (turn_is (west_end l) (east_end l) p)) ∙ and_r range (is_negative (turn (west_end l) (east_end l) p)) e)))
    where
      o : Over p.x.0 l
      o = range→ (and_l range (is_negative (turn (west_end l) (east_end l) p)) e)

      upper : (a b c d : ℕ) → a + b ≡ c + d → a < c → d < b
      upper a b c d e k = omega arith

  pub above← : Over p.x.0 l → p.y.0 * run l < height_over p.x.0 l → above p l ≡ true
  unfolding above
  above← o h = and_b _ _ (range← o) (negative_is (turn_is (west_end l) (east_end l) p) ∙ lt-ltb _ _ (lower _ _ _ _ (turn_height l p o.from_west (of_lt o.before_east)) h))
    where
      lower : (a b c d : ℕ) → a + b ≡ c + d → d < b → a < c
      lower a b c d e k = omega arith

-- the computed test is the paper's
pub counts_below : (p : Point) (l : Line) → (below p l ≡ true) ↔ CountsBelow p l
unfolding point_over
counts_below p l = (
  λ e. let b = below→ p l e in record {
    from_west = (over_range p.x.0 l b.0).0;
    before_east = (over_range p.x.0 l b.0).1;
    spot = point_over p.x.0 l b.0;
    there = point_over_is p.x.0 l b.0;
    under = b.1;
  },
  λ c. let o = over_is p.x.0 l c.from_west c.before_east in
      below← p l o (lower (height_over p.x.0 l) p.y.0 (run l) c.spot.Y c.spot.Z (spot_height p.x.0 l c.spot o c.there) c.under (run_some p.x.0 l o)),
)
  where
    lower : (h y r Y Z : ℕ) → Y * r ≡ h * Z → Y < y * Z → 0 < r → h < y * r
    lower h y r Y Z e k i = lt_of_mul-lt-mul_right Z (last h y r Y Z e (mul-lt-mul_of_pos_right k i))
      where
        last : (h y r Y Z : ℕ) → Y * r ≡ h * Z → Y * r < y * Z * r → h * Z < y * r * Z
        last h y r Y Z e k = omega arith

pub counts_above : (p : Point) (l : Line) → (above p l ≡ true) ↔ CountsAbove p l
unfolding point_over
counts_above p l = (
  λ e. let b = above→ p l e in record {
    from_west = (over_range p.x.0 l b.0).0;
    before_east = (over_range p.x.0 l b.0).1;
    spot = point_over p.x.0 l b.0;
    there = point_over_is p.x.0 l b.0;
    over = b.1;
  },
  λ c. let o = over_is p.x.0 l c.from_west c.before_east in
      above← p l o (upper (height_over p.x.0 l) p.y.0 (run l) c.spot.Y c.spot.Z (spot_height p.x.0 l c.spot o c.there) c.over (run_some p.x.0 l o)),
)
  where
    upper : (h y r Y Z : ℕ) → Y * r ≡ h * Z → y * Z < Y → 0 < r → y * r < h
    upper h y r Y Z e k i = lt_of_mul-lt-mul_right Z (last h y r Y Z e (mul-lt-mul_of_pos_right k i))
      where
        last : (h y r Y Z : ℕ) → Y * r ≡ h * Z → y * Z * r < Y * r → y * r * Z < h * Z
        last h y r Y Z e k = omega arith

-- the order of two points is the order of the heights
module _ (x : ℕ) (l m : Line) (s t : Spot) (o : Over x l) (q : Over x m) (p : PointOver x l s) (r : PointOver x m t) where
  scaled : (t.Y * s.Z) * (run l * run m) ≡ (height_over x m * run l) * (s.Z * t.Z)
  scaled = numbers t.Y t.Z s.Z (run l) (run m) (height_over x m) (spot_height x m t q r)
    where
      numbers : (Y Z W a b h : ℕ) → Y * b ≡ h * Z → (Y * W) * (a * b) ≡ (h * a) * (W * Z)
      numbers Y Z W a b h e = move Y W a b ∙ ap (λ (n : ℕ). n * (W * a)) e ∙ move' h Z W a
        where
          move : (Y W a b : ℕ) → (Y * W) * (a * b) ≡ Y * b * (W * a)
          move Y W a b = omega arith

          move' : (h Z W a : ℕ) → h * Z * (W * a) ≡ (h * a) * (W * Z)
          move' h Z W a = omega arith

  scaled' : (s.Y * t.Z) * (run l * run m) ≡ (height_over x l * run m) * (s.Z * t.Z)
  scaled' = numbers s.Y s.Z t.Z (run l) (run m) (height_over x l) (spot_height x l s o p)
    where
      numbers : (Y Z W a b h : ℕ) → Y * a ≡ h * Z → (Y * W) * (a * b) ≡ (h * b) * (Z * W)
      numbers Y Z W a b h e = move Y W a b ∙ ap (λ (n : ℕ). n * (W * b)) e ∙ move' h Z W b
        where
          move : (Y W a b : ℕ) → (Y * W) * (a * b) ≡ Y * a * (W * b)
          move Y W a b = omega arith

          move' : (h Z W b : ℕ) → h * Z * (W * b) ≡ (h * b) * (Z * W)
          move' h Z W b = omega arith

  runs : 0 < run l * run m
  runs = mul-pos (run_some x l o) (run_some x m q)

  zs : 0 < s.Z * t.Z
  zs = mul-pos s.some t.some

  less : (a b c d k n : ℕ) → a * k ≡ b * n → c * k ≡ d * n → a < c → 0 < k → b < d
  less a b c d k n e f h i = lt_of_mul-lt-mul_right n (subst₂ (λ (y z : ℕ). y < z) e f (mul-lt-mul_of_pos_right h i))

  alike : (a b c d k n : ℕ) → a * k ≡ b * n → c * k ≡ d * n → a ≡ c → 0 < n → b ≡ d
  alike a b c d k n e f h i = cancel b d n i (sym e ∙ ap (λ (y : ℕ). y * k) h ∙ f)
    where
      cancel : (a b k : ℕ) → 0 < k → a * k ≡ b * k → a ≡ b
      cancel a b k h e =
          let p : a ≤ b = le_of_mul-le-mul_right {k = k} (omega arith) h in
          let q : b ≤ a = le_of_mul-le-mul_right {k = k} (omega arith) h in
          omega arith

  pub spot_taller : (t.Y * s.Z < s.Y * t.Z) ↔ Taller x l m
  unfolding Taller
  spot_taller = (λ h. less _ _ _ _ (run l * run m) (s.Z * t.Z) scaled scaled' h runs, λ h. less _ _ _ _ (s.Z * t.Z) (run l * run m) (sym scaled) (sym scaled') h zs)

  pub spot_level : (t.Y * s.Z ≡ s.Y * t.Z) ↔ Level x l m
  unfolding Level
  spot_level = (λ h. alike _ _ _ _ (run l * run m) (s.Z * t.Z) scaled scaled' h zs, λ h. alike _ _ _ _ (s.Z * t.Z) (run l * run m) (sym scaled) (sym scaled') h runs)

  -- none higher, by spots and by the computed order
  pub none_higher→ : NoneHigher l s m t → Higher x m l → ⊥
  unfolding NoneHigher
  none_higher→ (inl h) k = asym x l m (taller (spot_taller.0 h)) k
  none_higher→ (inr h) (taller k) = unfold Taller Level in (no (spot_level.0 h.0) k)
    where
      no : height_over x m * run l ≡ height_over x l * run m → height_over x l * run m < height_over x m * run l → ⊥
      no e f = omega arith
  none_higher→ (inr h) (steeper k j) = h.1 j

  pub none_higher← : (Higher x m l → ⊥) → NoneHigher l s m t
  unfolding NoneHigher Taller Level
  none_higher← f = go (order (height_over x l * run m) (height_over x m * run l)) (order (height_over x m * run l) (height_over x l * run m))
    where
      go : (height_over x l * run m ≤ height_over x m * run l) ⊎ (height_over x m * run l < height_over x l * run m)
          → (height_over x m * run l ≤ height_over x l * run m) ⊎ (height_over x l * run m < height_over x m * run l)
          → (t.Y * s.Z < s.Y * t.Z) ⊎ ((t.Y * s.Z ≡ s.Y * t.Z) × (Steeper m l → ⊥))
      go (inr h) k = inl (spot_taller.1 h)
      go (inl h) (inr k) = absurd (f (taller k))
      go (inl h) (inl k) = let e : height_over x m * run l ≡ height_over x l * run m = omega arith in inr (spot_level.1 e, λ j. f (steeper (sym e) j))
