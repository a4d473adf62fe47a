-- The order of two lines over an x, by height and then by slope; and by turns of ends alone.
use Rattle.std.specs.Prelude.{◌≡◌, refl, ◌⊎◌, Bool, true, false, ◌&&◌, ◌||◌, ltb, eqb, pos, ◌*ℤ◌, ◌-ℤ◌, if◌then◌else◌}
use Rattle.std.proofs.Math.Path.{sym, ap, subst₂}
use Rattle.std.proofs.Common.{◌∙◌, subst, inl, inr, mul-le-mul_right, mul-lt-mul_of_pos_right, le_of_mul-le-mul_right, lt_of_mul-lt-mul_right, le-leb, lt-ltb, le-ltb, ltb-true, eqb-true, eq-eqb, ne_eqb}
use Prim.Native.Nat.{ℕ, zero, suc, ◌+◌, ◌*◌, ◌-◌, ◌≤◌, ◌<◌}
use native.Mathlib.Omega.{arith}
use Rattle.std.proofs.Math.Nat.{mul-le-mul_left, mul-lt-mul_of_pos_left}
use Rattle.std.proofs.Math.Dec.{leb}
use Rattle.std.proofs.lemmas.Bool.{lt-leb}
use Rattle.definitions.specs.declared.Point.{Point}
use Rattle.algebra.specs.Signs.{Is, pos_is, sub_is, neg_is, add_is, mul_is, shift_is, positive_is, negative_is, zero_is}
use Rattle.algebra.specs.Tests.{no_path, and_l, and_r, and_b, or_cases}
use Rattle.algebra.specs.Words.{is_positive, is_negative, is_zero}
use Rattle.definitions.specs.Lookup.{west_end, east_end, run, height_over, rise, higher}
use Rattle.definitions.specs.Meaning.{Conflicts, Steeper}
use Rattle.definitions.specs.Shape.{Line, turn, same_point, conflict}
use Rattle.plane.specs.Compare.{order}
use Rattle.plane.specs.Crossing.{Proper, back, unback, turned, conflict_iff}
use Rattle.plane.specs.Turns.{lefts, rights, turn_is, higher_by_turns}
use Rattle.meaning.specs.Weigh.{touch, overlaid, cross}

-- the line, taken west to east
unfoldable pub eastward : Line → Line
eastward l = record { slot = l.slot; a = west_end l; b = east_end l }

pub eastward_is : (l : Line) → (eastward l ≡ l) ⊎ (eastward l ≡ back l)
unfolding eastward back
eastward_is l = go (ltb l.a.x.0 l.b.x.0)
  where
    go : (t : Bool) → (◌≡◌ {A = Line} (record { slot = l.slot; a = if t then l.a else l.b; b = if t then l.b else l.a }) l) ⊎ (◌≡◌ {A = Line} (record { slot = l.slot; a = if t then l.a else l.b; b = if t then l.b else l.a }) (record { slot = l.slot; a = l.b; b = l.a }))
    go true = inl refl
    go false = inr refl

-- the line's x range, west end included and east end left off, holds x
pub record Over (x : ℕ) (l : Line) : Type 0 where
  pub from_west : (west_end l).x.0 ≤ x
  pub before_east : x < (east_end l).x.0

-- no point in common but an end of both
unfoldable pub Clear : Line → Line → Type 0
Clear l m = Conflicts l m → ⊥

pub clear_back : (l m : Line) → Clear l m → Clear m l
unfolding Clear
clear_back l m f c = f (turned c)

pub conflict_east : (l m : Line) → Conflicts (eastward l) (eastward m) → Conflicts l m
conflict_east l m c = turned (one m l (turned (one l (eastward m) c)))
  where
    one : (l m : Line) → Conflicts (eastward l) m → Conflicts l m
    one l m c = go (eastward_is l)
      where
        go : (eastward l ≡ l) ⊎ (eastward l ≡ back l) → Conflicts l m
        go (inl e) = subst (λ (k : Line). Conflicts k m) e c
        go (inr e) = turned (unback (turned (subst (λ (k : Line). Conflicts k m) e c)))

point_differs : (p q : Point) → (p.x.0 ≡ q.x.0 → ⊥) → same_point p q ≡ false
unfolding same_point
point_differs p q f = rw (ne_eqb p.x.0 q.x.0 f) refl

over_proper : (x : ℕ) (l : Line) → Over x l → Proper (eastward l)
unfolding Proper eastward
over_proper x l o = point_differs (west_end l) (east_end l) (λ e. omega (arith, o.from_west, o.before_east))

pub proper_of_over : (x : ℕ) (l : Line) → Over x l → Proper l
unfolding Proper
proper_of_over x l o = point_differs l.a l.b (λ e. go (ltb l.a.x.0 l.b.x.0) refl e o.from_west o.before_east)
  where
    go : (t : Bool) → ltb l.a.x.0 l.b.x.0 ≡ t → l.a.x.0 ≡ l.b.x.0 → (if t then l.a else l.b).x.0 ≤ x → x < (if t then l.b else l.a).x.0 → ⊥
    go true h e i j = omega arith
    go false h e i j = omega arith

pub clear_of : (x : ℕ) (l m : Line) → Over x l → Over x m → conflict l m ≡ false → Clear l m
unfolding Clear
clear_of x l m o q e c = no_path (sym e ∙ (conflict_iff l m (proper_of_over x l o) (proper_of_over x m q)).1 c)

-- over x, l is strictly higher, and as high
unfoldable pub Taller : ℕ → Line → Line → Type 0
Taller x l m = height_over x m * run l < height_over x l * run m

unfoldable pub Level : ℕ → Line → Line → Type 0
Level x l m = height_over x m * run l ≡ height_over x l * run m

pub data Higher (x : ℕ) (l m : Line) : Type 0 where
  taller : Taller x l m → Higher x l m
  steeper : Level x l m → Steeper l m → Higher x l m

slope_is : (l m : Line) → Is (rise l *ℤ pos (run m) -ℤ rise m *ℤ pos (run l)) ((east_end l).y.0 * run m + (west_end m).y.0 * run l) ((west_end l).y.0 * run m + (east_end m).y.0 * run l)
unfolding rise
slope_is l m =
    shift_is
    (add_is (mul_is (sub_is (east_end l).y.0 (west_end l).y.0) (pos_is (run m)))
    (neg_is (mul_is (sub_is (east_end m).y.0 (west_end m).y.0) (pos_is (run l)))))
    (shape (east_end l).y.0 (west_end l).y.0 (east_end m).y.0 (west_end m).y.0 (run l) (run m))
  where
    shape : (b a d c r k : ℕ) → b * k + a * 0 + (d * 0 + c * r) + (a * k + d * r) ≡ b * k + c * r + (b * 0 + a * k + (d * r + c * 0))
    shape b a d c r k = omega arith

pub higher→ : (x : ℕ) (l m : Line) → higher x l m ≡ true → Higher x l m
unfolding higher Taller Level Steeper
higher→ x l m e = go (or_cases (ltb (height_over x m * run l) (height_over x l * run m)) (eqb (height_over x m * run l) (height_over x l * run m) && is_positive (rise l *ℤ pos (run m) -ℤ rise m *ℤ pos (run l))) e)
  where
    go : (ltb (height_over x m * run l) (height_over x l * run m) ≡ true) ⊎ (eqb (height_over x m * run l) (height_over x l * run m) && is_positive (rise l *ℤ pos (run m) -ℤ rise m *ℤ pos (run l)) ≡ true) → Higher x l m
    go (inl h) = taller (ltb-true _ _ h)
    go (inr h) = steeper (eqb-true _ _ (and_l (eqb (height_over x m * run l) (height_over x l * run m)) (is_positive (rise l *ℤ pos (run m) -ℤ rise m *ℤ pos (run l))) h)) (ltb-true _ _ (sym (positive_is (slope_is l m)) ∙ and_r (eqb (height_over x m * run l) (height_over x l * run m)) (is_positive (rise l *ℤ pos (run m) -ℤ rise m *ℤ pos (run l))) h))

pub higher← : (x : ℕ) (l m : Line) → Higher x l m → higher x l m ≡ true
unfolding higher Taller Level Steeper
higher← x l m (taller h) = rw (lt-ltb _ _ h) refl
higher← x l m (steeper e h) = or_right (ltb (height_over x m * run l) (height_over x l * run m)) _ (and_b _ _ (eq-eqb _ _ e) (positive_is (slope_is l m) ∙ lt-ltb _ _ h))
  where
    or_right : (a b : Bool) → b ≡ true → a || b ≡ true
    or_right true b e = refl
    or_right false b e = e

-- weights over x
to_east : ℕ → Line → ℕ
to_east x l = (east_end l).x.0 - x

to_west : ℕ → Line → ℕ
to_west x l = x - (west_end l).x.0

run_is : (x : ℕ) (l : Line) → Over x l → run l ≡ to_east x l + to_west x l
unfolding run to_east to_west
run_is x l o = omega (arith, o.from_west, o.before_east)

pub run_some : (x : ℕ) (l : Line) → Over x l → 0 < run l
unfolding run
run_some x l o = omega (arith, o.from_west, o.before_east)

module _ (x : ℕ) (l : Line) (o : Over x l) where
  wl : (west_end l).x.0 + to_west x l ≡ x
  unfolding to_west
  wl = omega (arith, o.from_west)

  el : x + to_east x l ≡ (east_end l).x.0
  unfolding to_east
  el = omega (arith, o.before_east)

  some_east : 0 < to_east x l
  unfolding to_east
  some_east = omega (arith, o.before_east)

  some_west : (west_end l).x.0 < x → 0 < to_west x l
  unfolding to_west
  some_west h = omega arith

  some_run : 0 < to_east x l + to_west x l
  some_run = omega (arith, some_east)

-- the height over x, its weights named
weighted : ℕ → Line → ℕ
weighted x l = (west_end l).y.0 * to_east x l + (east_end l).y.0 * to_west x l

module _ (x : ℕ) (l m : Line) (o : Over x l) (q : Over x m) where
  level_w : Level x l m → weighted x l * (to_east x m + to_west x m) ≡ weighted x m * (to_east x l + to_west x l)
  unfolding Level height_over to_east to_west weighted
  level_w e = sym (subst₂ (λ (r k : ℕ). height_over x m * r ≡ height_over x l * k) (run_is x l o) (run_is x m q) e)

  taller_w : Taller x l m → weighted x m * (to_east x l + to_west x l) < weighted x l * (to_east x m + to_west x m)
  unfolding Taller height_over to_east to_west weighted
  taller_w e = subst₂ (λ (r k : ℕ). height_over x m * r < height_over x l * k) (run_is x l o) (run_is x m q) e

  -- as high over x, and inside l: a conflict
  level_inside : Clear l m → (west_end l).x.0 < x → Level x l m → ⊥
  unfolding Clear weighted
  level_inside clear h e =
      clear (conflict_east l m (unfold eastward in (touch (eastward l) (eastward m) x (to_west x l) (to_east x l) (to_west x m) (to_east x m)
      (over_proper x l o) (wl x l o) (el x l o) (wl x m q) (el x m q) (some_east x l o) (some_west x l o h) (some_run x m q) (level_w e))))

level_back : (x : ℕ) (l m : Line) → Level x l m → Level x m l
unfolding Level
level_back x l m e = sym e

-- as high over x: both lines begin there
pub level_west : (x : ℕ) (l m : Line) → Over x l → Over x m → Clear l m → Level x l m → ((west_end l).x.0 ≡ x) × ((west_end m).x.0 ≡ x)
level_west x l m o q clear e = (
  at l o (order x (west_end l).x.0) (λ h. level_inside x l m o q clear h e),
  at m q (order x (west_end m).x.0) (λ h. level_inside x m l q o (clear_back l m clear) h (level_back x l m e)),
)
  where
    at : (k : Line) → Over x k → (x ≤ (west_end k).x.0) ⊎ ((west_end k).x.0 < x) → ((west_end k).x.0 < x → ⊥) → (west_end k).x.0 ≡ x
    at k o (inl h) f = omega (arith, o.from_west)
    at k o (inr h) f = absurd (f h)

-- as high over x, and as steep: a conflict
pub level_steep : (x : ℕ) (l m : Line) → Over x l → Over x m → Clear l m → Level x l m
    → (west_end l).y.0 * run m + (east_end m).y.0 * run l ≡ (east_end l).y.0 * run m + (west_end m).y.0 * run l → ⊥
unfolding Clear weighted
level_steep x l m o q clear e f = go (to_east x l) refl (to_east x m) refl
  where
    go : (v : ℕ) → to_east x l ≡ v → (t : ℕ) → to_east x m ≡ t → ⊥
    go zero h t i = omega (arith, some_east x l o)
    go (suc v) h zero i = omega (arith, some_east x m q)
    go (suc v) h (suc t) i =
        clear (conflict_east l m (unfold eastward in (overlaid (eastward l) (eastward m) x (to_west x l) v (to_west x m) t
        (over_proper x l o) (wl x l o) (ap (λ (n : ℕ). x + n) (sym h) ∙ el x l o) (wl x m q) (ap (λ (n : ℕ). x + n) (sym i) ∙ el x m q)
        (subst₂ (λ (a b : ℕ). ((west_end l).y.0 * a + (east_end l).y.0 * to_west x l) * (b + to_west x m) ≡ ((west_end m).y.0 * b + (east_end m).y.0 * to_west x m) * (a + to_west x l)) h i (level_w x l m o q e))
        (sym (subst₂ (λ (a b : ℕ). (west_end l).y.0 * b + (east_end m).y.0 * a ≡ (east_end l).y.0 * b + (west_end m).y.0 * a) (run_is x l o ∙ ap (λ (n : ℕ). n + to_west x l) h) (run_is x m q ∙ ap (λ (n : ℕ). n + to_west x m) i) f)))))

-- the higher of two lines stays so further east
pub stays : (w x : ℕ) (l m : Line) → w ≤ x → Over w l → Over w m → Over x l → Over x m → Clear l m → Taller w l m → Taller x l m
unfolding Taller Clear weighted Level
stays w x l m h o q o' q' clear e = go (order x w) (order (height_over x l * run m) (height_over x m * run l)) (order (height_over x m * run l) (height_over x l * run m))
  where
    further : w < x → height_over x l * run m < height_over x m * run l → ⊥
    further k f =
        clear (conflict_east l m (unfold eastward in (cross (eastward l) (eastward m) w x (to_west w l) (to_east w l) (to_west w m) (to_east w m) (to_west x l) (to_east x l) (to_west x m) (to_east x m)
        (over_proper x l o') (wl w l o) (el w l o) (wl w m q) (el w m q) (wl x l o') (el x l o') (wl x m q') (el x m q')
        (some_east w l o) (some_west x l o' (omega (arith, o.from_west))) (some_east w m q)
        (taller_w w l m o q e) (taller_w x m l q' o' f))))

    go : (x ≤ w) ⊎ (w < x) → (height_over x l * run m ≤ height_over x m * run l) ⊎ (height_over x m * run l < height_over x l * run m)
        → (height_over x m * run l ≤ height_over x l * run m) ⊎ (height_over x l * run m < height_over x m * run l) → height_over x m * run l < height_over x l * run m
    go k (inr f) g = f
    go (inl k) (inl f) g = subst (λ (n : ℕ). height_over n m * run l < height_over n l * run m) {x = w} (omega arith) e
    go (inr k) (inl f) (inl g) = absurd (level_inside x l m o' q' clear (omega (arith, o.from_west)) (omega arith))
    go (inr k) (inl f) (inr g) = absurd (further k g)

-- the turn of a line and a point over or under it weighs the point's height against the line's
pub turn_height : (m : Line) (p : Point) → (west_end m).x.0 ≤ p.x.0 → p.x.0 ≤ (east_end m).x.0
    → lefts (west_end m) (east_end m) p + height_over p.x.0 m ≡ rights (west_end m) (east_end m) p + p.y.0 * run m
unfolding height_over run
turn_height m p h k = go (west_end m).x.0 (west_end m).y.0 (east_end m).x.0 (east_end m).y.0 p.x.0 p.y.0 h k
  where
    numbers : (cx cy dx dy px py s t r : ℕ) → cx + s ≡ px → px + t ≡ dx → t + s ≡ r → dx * py + cy * px + dy * cx + (cy * t + dy * s) ≡ dx * cy + cx * py + dy * px + py * r
    numbers cx cy dx dy px py s t r e f g = rw (← g, ← f, ← e) (omega arith)

    go : (cx cy dx dy px py : ℕ) → cx ≤ px → px ≤ dx → dx * py + cy * px + dy * cx + (cy * (dx - px) + dy * (px - cx)) ≡ dx * cy + cx * py + dy * px + py * (dx - cx)
    go cx cy dx dy px py h k = numbers cx cy dx dy px py (px - cx) (dx - px) (dx - cx) (omega arith) (omega arith) (omega arith)

-- the height over the west end
pub height_west : (l : Line) → height_over (west_end l).x.0 l ≡ (west_end l).y.0 * run l
unfolding height_over run
height_west l = rw (none (west_end l).x.0) (drop ((west_end l).y.0 * ((east_end l).x.0 - (west_end l).x.0)) (east_end l).y.0)
  where
    none : (n : ℕ) → n - n ≡ 0
    none n = omega arith

    drop : (a b : ℕ) → a + b * 0 ≡ a
    drop a b = omega arith

data Sign (a b : ℕ) : Type 0 where
  less : a < b → Sign a b
  same : a ≡ b → Sign a b
  more : b < a → Sign a b

sign : (a b : ℕ) → Sign a b
sign a b = go (order a b) (order b a)
  where
    go : (a ≤ b) ⊎ (b < a) → (b ≤ a) ⊎ (a < b) → Sign a b
    go (inl h) (inl k) = same (omega arith)
    go (inl h) (inr k) = less k
    go (inr h) k = more h

pub asym : (x : ℕ) (l m : Line) → Higher x l m → Higher x m l → ⊥
unfolding Taller Level Steeper
asym x l m (taller h) (taller k) = omega arith
asym x l m (taller h) (steeper k j) = omega arith
asym x l m (steeper h i) (taller k) = omega arith
asym x l m (steeper h i) (steeper k j) = omega arith

pub higher_not : (x : ℕ) (l m : Line) → (Higher x l m → ⊥) → higher x l m ≡ false
higher_not x l m f = go (higher x l m) refl
  where
    go : (b : Bool) → higher x l m ≡ b → b ≡ false
    go true e = absurd (f (higher→ x l m e))
    go false e = refl

module _ (x : ℕ) (l m : Line) (o : Over x l) (q : Over x m) (clear : Clear l m) where
  module _ (h : (west_end m).x.0 ≤ (west_end l).x.0) where
    ol : Over (west_end l).x.0 l
    ol = record { from_west = omega arith; before_east = omega (arith, o.from_west, o.before_east) }

    om : Over (west_end l).x.0 m
    om = record { from_west = h; before_east = omega (arith, o.from_west, q.before_east) }

    balance : lefts (west_end m) (east_end m) (west_end l) + height_over (west_end l).x.0 m ≡ rights (west_end m) (east_end m) (west_end l) + (west_end l).y.0 * run m
    balance = turn_height m (west_end l) h (omega (arith, o.from_west, q.before_east))

    left_taller : rights (west_end m) (east_end m) (west_end l) < lefts (west_end m) (east_end m) (west_end l) → Taller (west_end l).x.0 l m
    unfolding Taller
    left_taller k =
        rw (height_west l)
        (swap (height_over (west_end l).x.0 m) (west_end l).y.0 (run l) (run m) (mul-lt-mul_of_pos_right (lower _ _ _ _ balance k) (run_some x l o)))
      where
        lower : (a b c d : ℕ) → a + b ≡ c + d → c < a → b < d
        lower a b c d e k = omega arith

        swap : (g y r k : ℕ) → g * r < y * k * r → g * r < y * r * k
        swap g y r k e = omega arith

    right_taller : lefts (west_end m) (east_end m) (west_end l) < rights (west_end m) (east_end m) (west_end l) → Taller (west_end l).x.0 m l
    unfolding Taller
    right_taller k =
        rw (height_west l)
        (swap (height_over (west_end l).x.0 m) (west_end l).y.0 (run l) (run m) (mul-lt-mul_of_pos_right (upper _ _ _ _ balance k) (run_some x l o)))
      where
        upper : (a b c d : ℕ) → a + b ≡ c + d → a < c → d < b
        upper a b c d e k = omega arith

        swap : (g y r k : ℕ) → y * k * r < g * r → y * r * k < g * r
        swap g y r k e = omega arith

    even_level : lefts (west_end m) (east_end m) (west_end l) ≡ rights (west_end m) (east_end m) (west_end l) → Level (west_end l).x.0 l m
    unfolding Level
    even_level k = rw (height_west l) (swap (height_over (west_end l).x.0 m) (west_end l).y.0 (run l) (run m) (ap (λ (n : ℕ). n * run l) (even _ _ _ _ balance k)))
      where
        even : (a b c d : ℕ) → a + b ≡ c + d → a ≡ c → b ≡ d
        even a b c d e k = omega arith

        swap : (g y r k : ℕ) → g * r ≡ y * k * r → g * r ≡ y * r * k
        swap g y r k e = omega arith

    -- both begin at one point: the steeper is the higher
    module _ (e : lefts (west_end m) (east_end m) (west_end l) ≡ rights (west_end m) (east_end m) (west_end l)) where
      same_x : (west_end m).x.0 ≡ (west_end l).x.0
      same_x = (level_west (west_end l).x.0 l m ol om clear (even_level e)).1

      same_y : (west_end m).y.0 ≡ (west_end l).y.0
      same_y =
          both (le_of_mul-le-mul_right {k = run m} (up _ _ ys.0) (run_some x m q)) (le_of_mul-le-mul_right {k = run m} (up _ _ ys.1) (run_some x m q))
        where
          even : (a b c d : ℕ) → a + b ≡ c + d → a ≡ c → b ≡ d
          even a b c d e k = omega arith

          at : height_over (west_end l).x.0 m ≡ (west_end m).y.0 * run m
          at = subst (λ (n : ℕ). height_over n m ≡ (west_end m).y.0 * run m) same_x (height_west m)

          ys : ((west_end m).y.0 * run m ≡ (west_end l).y.0 * run m) × ((west_end l).y.0 * run m ≡ (west_end m).y.0 * run m)
          ys = let z = sym at ∙ even _ _ _ _ balance e in (z, sym z)

          up : (a b : ℕ) → a ≡ b → a ≤ b
          up a b e = omega arith

          both : {a b : ℕ} → a ≤ b → b ≤ a → a ≡ b
          both h k = omega arith

      -- the turn of m and l's east end weighs the slopes
      slopes : lefts (west_end m) (east_end m) (east_end l) + ((west_end l).y.0 * run m + (east_end m).y.0 * run l)
          ≡ rights (west_end m) (east_end m) (east_end l) + ((east_end l).y.0 * run m + (west_end m).y.0 * run l)
      slopes =
          numbers (west_end l).x.0 (west_end l).y.0 (east_end l).x.0 (east_end l).y.0 (west_end m).x.0 (west_end m).y.0 (east_end m).x.0 (east_end m).y.0 (run l) (run m)
          same_x same_y run_l run_m
        where
          run_l : (west_end l).x.0 + run l ≡ (east_end l).x.0
          run_l = unfold run in (omega (arith, o.from_west, o.before_east))

          run_m : (west_end m).x.0 + run m ≡ (east_end m).x.0
          run_m = unfold run in (omega (arith, q.from_west, q.before_east))

          numbers : (ax ay bx by cx cy dx dy r k : ℕ) → cx ≡ ax → cy ≡ ay → ax + r ≡ bx → cx + k ≡ dx
              → dx * by + cy * bx + dy * cx + (ay * k + dy * r) ≡ dx * cy + cx * by + dy * bx + (by * k + cy * r)
          numbers ax ay bx by cx cy dx dy r k e f g h = rw (← g, ← h, e, f) (omega arith)

      -- the heights over x, by the slopes and the way from the common end
      rises : height_over x l * run m + (x - (west_end l).x.0) * ((west_end l).y.0 * run m + (east_end m).y.0 * run l)
          ≡ height_over x m * run l + (x - (west_end l).x.0) * ((east_end l).y.0 * run m + (west_end m).y.0 * run l)
      rises =
          unfold height_over run in (go (west_end l).x.0 (west_end l).y.0 (east_end l).x.0 (east_end l).y.0 (west_end m).x.0 (west_end m).y.0 (east_end m).x.0 (east_end m).y.0
          same_x same_y o.from_west o.before_east q.before_east)
        where
          numbers : (u v t ay by dy : ℕ) → (ay * v + by * u) * (t + u) + u * (ay * (t + u) + dy * (v + u)) ≡ (ay * t + dy * u) * (v + u) + u * (by * (t + u) + ay * (v + u))
          numbers u v t ay by dy = omega arith

          go : (ax ay bx by cx cy dx dy : ℕ) → cx ≡ ax → cy ≡ ay → ax ≤ x → x < bx → x < dx
              → (ay * (bx - x) + by * (x - ax)) * (dx - cx) + (x - ax) * (ay * (dx - cx) + dy * (bx - ax)) ≡ (cy * (dx - x) + dy * (x - cx)) * (bx - ax) + (x - ax) * (by * (dx - cx) + cy * (bx - ax))
          go ax ay bx by cx cy dx dy e f h i j =
              rw (e, f) (subst₂ (λ (r k : ℕ). (ay * (bx - x) + by * (x - ax)) * k + (x - ax) * (ay * k + dy * r) ≡ (ay * (dx - x) + dy * (x - ax)) * r + (x - ax) * (by * k + ay * r))
              {x = bx - x + (x - ax)} {u = dx - x + (x - ax)} (omega arith) (omega arith) (numbers (x - ax) (bx - x) (dx - x) ay by dy))

      steep→ : Higher x l m → Steeper l m
      unfolding Taller Level Steeper
      steep→ (steeper h k) = k
      steep→ (taller h) = go (x - (west_end l).x.0) (height_over x l * run m) (height_over x m * run l) (order ((east_end l).y.0 * run m + (west_end m).y.0 * run l) ((west_end l).y.0 * run m + (east_end m).y.0 * run l)) (λ k. mul-le-mul_left (x - (west_end l).x.0) k) rises h
        where
          go : {p n : ℕ} (u a b : ℕ) → (p ≤ n) ⊎ (n < p) → (p ≤ n → u * p ≤ u * n) → a + u * n ≡ b + u * p → b < a → n < p
          go u a b (inl h) f e k = absurd (omega (arith, f h))
          go u a b (inr h) f e k = h

      steep← : Steeper l m → Higher x l m
      unfolding Taller Level Steeper
      steep← h = go (order (x - (west_end l).x.0) 0) rises
        where
          flat : (u a b n p : ℕ) → u ≤ 0 → a + u * n ≡ b + u * p → b ≡ a
          flat zero a b n p h e = omega arith
          flat (suc u) a b n p h e = absurd (omega arith)

          up : (u a b n p : ℕ) → u * n < u * p → a + u * n ≡ b + u * p → b < a
          up u a b n p k e = omega arith

          go : (x - (west_end l).x.0 ≤ 0) ⊎ (0 < x - (west_end l).x.0)
              → height_over x l * run m + (x - (west_end l).x.0) * ((west_end l).y.0 * run m + (east_end m).y.0 * run l)
              ≡ height_over x m * run l + (x - (west_end l).x.0) * ((east_end l).y.0 * run m + (west_end m).y.0 * run l) → Higher x l m
          go (inl k) e = steeper (flat (x - (west_end l).x.0) _ _ _ _ k e) h
          go (inr k) e = taller (up (x - (west_end l).x.0) _ _ _ _ (mul-lt-mul_of_pos_left h k) e)

    -- l's west end is over or under m, or on it
    west_in : higher x l m
        ≡ (is_positive (turn (west_end m) (east_end m) (west_end l)) || is_zero (turn (west_end m) (east_end m) (west_end l)) && is_positive (turn (west_end m) (east_end m) (east_end l)))
    west_in = rw (positive_is (turn_is (west_end m) (east_end m) (west_end l)), zero_is (turn_is (west_end m) (east_end m) (west_end l)), positive_is (turn_is (west_end m) (east_end m) (east_end l)))
        (go (sign (rights (west_end m) (east_end m) (west_end l)) (lefts (west_end m) (east_end m) (west_end l))))
      where
        L : ℕ
        L = lefts (west_end m) (east_end m) (west_end l)

        R : ℕ
        R = rights (west_end m) (east_end m) (west_end l)

        L' : ℕ
        L' = lefts (west_end m) (east_end m) (east_end l)

        R' : ℕ
        R' = rights (west_end m) (east_end m) (east_end l)

        is_more : (a b : ℕ) (c : Bool) → b < a → (ltb b a || eqb a b && c) ≡ true
        is_more a b c h = rw (lt-ltb b a h) refl

        is_less : (a b : ℕ) (c : Bool) → a < b → (ltb b a || eqb a b && c) ≡ false
        is_less a b c h = rw (le-ltb b a (omega arith), ne_eqb a b (λ e. omega arith)) refl

        is_same : (a b : ℕ) (c : Bool) → a ≡ b → (ltb b a || eqb a b && c) ≡ c
        is_same a b c h = rw (le-ltb b a (omega arith), eq-eqb a b h) refl

        slope : lefts (west_end m) (east_end m) (west_end l) ≡ rights (west_end m) (east_end m) (west_end l) → higher x l m ≡ ltb R' L'
        slope e = pick (order L' R') (slopes e)
          where
            pick : (L' ≤ R') ⊎ (R' < L') → L' + ((west_end l).y.0 * run m + (east_end m).y.0 * run l) ≡ R' + ((east_end l).y.0 * run m + (west_end m).y.0 * run l) → higher x l m ≡ ltb R' L'
            pick (inl k) f = higher_not x l m (λ g. no _ _ _ _ k f (unfold Steeper in (steep→ e g))) ∙ sym (le-ltb _ _ k)
              where
                no : (a b c d : ℕ) → a ≤ b → a + c ≡ b + d → c < d → ⊥
                no a b c d k f g = omega arith
            pick (inr k) f = higher← x l m (steep← e (unfold Steeper in (yes' _ _ _ _ k f))) ∙ sym (lt-ltb _ _ k)
              where
                yes' : (a b c d : ℕ) → b < a → a + c ≡ b + d → c < d
                yes' a b c d k f = omega arith

        go : Sign R L → higher x l m ≡ (ltb R L || eqb L R && ltb R' L')
        go (less k) = higher← x l m (taller (stays (west_end l).x.0 x l m o.from_west ol om o q clear (left_taller k))) ∙ sym (is_more L R (ltb R' L') k)
        go (more k) =
            higher_not x l m (λ g. asym x l m g (taller (stays (west_end l).x.0 x m l o.from_west om ol q o (clear_back l m clear) (right_taller k))))
            ∙ sym (is_less L R (ltb R' L') k)
        go (same k) = slope (sym k) ∙ sym (is_same L R (ltb R' L') (sym k))

-- m's west end is over or under l
module _ (x : ℕ) (l m : Line) (o : Over x l) (q : Over x m) (clear : Clear l m) where
  module _ (h : (west_end l).x.0 < (west_end m).x.0) where
    oml : Over (west_end m).x.0 l
    oml = record { from_west = omega arith; before_east = omega (arith, q.from_west, o.before_east) }

    omm : Over (west_end m).x.0 m
    omm = record { from_west = omega arith; before_east = omega (arith, q.from_west, q.before_east) }

    west_out : higher x l m ≡ is_negative (turn (west_end l) (east_end l) (west_end m))
    west_out = rw (negative_is (turn_is (west_end l) (east_end l) (west_end m))) (go (sign (lefts (west_end l) (east_end l) (west_end m)) (rights (west_end l) (east_end l) (west_end m))))
      where
        le : (west_end l).x.0 ≤ (west_end m).x.0
        le = omega arith

        L : ℕ
        L = lefts (west_end l) (east_end l) (west_end m)

        R : ℕ
        R = rights (west_end l) (east_end l) (west_end m)

        clear' : Clear m l
        clear' = clear_back l m clear

        go : Sign L R → higher x l m ≡ ltb L R
        go (less k) = higher← x l m (taller (stays (west_end m).x.0 x l m q.from_west oml omm o q clear (right_taller x m l q o clear' le k))) ∙ sym (lt-ltb L R k)
        go (more k) =
            higher_not x l m (λ g. asym x l m g (taller (stays (west_end m).x.0 x m l q.from_west omm oml q o clear' (left_taller x m l q o clear' le k))))
            ∙ sym (le-ltb L R (omega arith))
        go (same k) = absurd (no (level_west (west_end m).x.0 m l omm oml clear' (even_level x m l q o clear' le k)).1)
          where
            no : (west_end l).x.0 ≡ (west_end m).x.0 → ⊥
            no e = omega arith

  by_turns_clear : higher x l m ≡ higher_by_turns l m
  unfolding higher_by_turns
  by_turns_clear = go (order (west_end m).x.0 (west_end l).x.0)
    where
      go : ((west_end m).x.0 ≤ (west_end l).x.0) ⊎ ((west_end l).x.0 < (west_end m).x.0)
          → higher x l m ≡ (if leb (west_end m).x.0 (west_end l).x.0 then
          is_positive (turn (west_end m) (east_end m) (west_end l))
          || is_zero (turn (west_end m) (east_end m) (west_end l)) && is_positive (turn (west_end m) (east_end m) (east_end l))
          else is_negative (turn (west_end l) (east_end l) (west_end m)))
      go (inl h) = rw (le-leb _ _ h) (west_in x l m o q clear h)
      go (inr h) = rw (lt-leb _ _ h) (west_out h)

-- by heights is by turns
pub by_turns : (x : ℕ) (l m : Line) → Over x l → Over x m → conflict l m ≡ false → higher x l m ≡ higher_by_turns l m
by_turns x l m o q e = by_turns_clear x l m o q (clear_of x l m o q e)

-- fractions (p - n) / r, compared by products
frac_lt : (p n r p' n' r' p'' n'' r'' : ℕ) → 0 < r → 0 < r''
    → n * r' + p' * r < p * r' + n' * r → n' * r'' + p'' * r' < p' * r'' + n'' * r' → n * r'' + p'' * r < p * r'' + n'' * r
frac_lt p n r p' n' r' p'' n'' r'' h k e f =
    lt_of_mul-lt-mul_right r' (sum p n r p' n' r' p'' n'' r'' (mul-lt-mul_of_pos_right e k) (mul-lt-mul_of_pos_right f h))
  where
    sum : (p n r p' n' r' p'' n'' r'' : ℕ) → (n * r' + p' * r) * r'' < (p * r' + n' * r) * r'' → (n' * r'' + p'' * r') * r < (p' * r'' + n'' * r') * r → (n * r'' + p'' * r) * r' < (p * r'' + n'' * r) * r'
    sum p n r p' n' r' p'' n'' r'' e f = omega arith

pub high_le : (p r p' r' p'' r'' : ℕ) → 0 < r' → p' * r ≤ p * r' → p'' * r' ≤ p' * r'' → p'' * r ≤ p * r''
high_le p r p' r' p'' r'' h e f =
    le_of_mul-le-mul_right {k = r'} (sum p r p' r' p'' r'' (mul-le-mul_right r'' e) (mul-le-mul_right r f)) h
  where
    sum : (p r p' r' p'' r'' : ℕ) → p' * r * r'' ≤ p * r' * r'' → p'' * r' * r ≤ p' * r'' * r → p'' * r * r' ≤ p * r'' * r'
    sum p r p' r' p'' r'' e f = omega arith

pub high_lt_le : (p r p' r' p'' r'' : ℕ) → 0 < r'' → p' * r < p * r' → p'' * r' ≤ p' * r'' → p'' * r < p * r''
high_lt_le p r p' r' p'' r'' h e f =
    lt_of_mul-lt-mul_right r' (sum p r p' r' p'' r'' (mul-lt-mul_of_pos_right e h) (mul-le-mul_right r f))
  where
    sum : (p r p' r' p'' r'' : ℕ) → p' * r * r'' < p * r' * r'' → p'' * r' * r ≤ p' * r'' * r → p'' * r * r' < p * r'' * r'
    sum p r p' r' p'' r'' e f = omega arith

pub high_le_lt : (p r p' r' p'' r'' : ℕ) → 0 < r → p' * r ≤ p * r' → p'' * r' < p' * r'' → p'' * r < p * r''
high_le_lt p r p' r' p'' r'' h e f =
    lt_of_mul-lt-mul_right r' (sum p r p' r' p'' r'' (mul-le-mul_right r'' e) (mul-lt-mul_of_pos_right f h))
  where
    sum : (p r p' r' p'' r'' : ℕ) → p' * r * r'' ≤ p * r' * r'' → p'' * r' * r < p' * r'' * r → p'' * r * r' < p * r'' * r'
    sum p r p' r' p'' r'' e f = omega arith

of_lt : {a b : ℕ} → a < b → a ≤ b
of_lt h = omega arith

of_eq : (a b : ℕ) → a ≡ b → (a ≤ b) × (b ≤ a)
of_eq a b h = (omega arith, omega arith)

pub higher_trans : (x : ℕ) (l m n : Line) → 0 < run l → 0 < run m → 0 < run n → Higher x l m → Higher x m n → Higher x l n
unfolding Taller Level Steeper
higher_trans x l m n hl hm hn (taller h) (taller k) = taller (high_lt_le (height_over x l) (run l) (height_over x m) (run m) (height_over x n) (run n) hn h (of_lt k))
higher_trans x l m n hl hm hn (taller h) (steeper k j) = taller (high_lt_le (height_over x l) (run l) (height_over x m) (run m) (height_over x n) (run n) hn h (of_eq _ _ k).0)
higher_trans x l m n hl hm hn (steeper h i) (taller k) = taller (high_le_lt (height_over x l) (run l) (height_over x m) (run m) (height_over x n) (run n) hl (of_eq _ _ h).0 k)
higher_trans x l m n hl hm hn (steeper h i) (steeper k j) =
    steeper
    (both (high_le (height_over x l) (run l) (height_over x m) (run m) (height_over x n) (run n) hm (of_eq _ _ h).0 (of_eq _ _ k).0)
    (high_le (height_over x n) (run n) (height_over x m) (run m) (height_over x l) (run l) hm (of_eq _ _ k).1 (of_eq _ _ h).1))
    (frac_lt (east_end l).y.0 (west_end l).y.0 (run l) (east_end m).y.0 (west_end m).y.0 (run m) (east_end n).y.0 (west_end n).y.0 (run n) hl hn i j)
  where
    both : {a b : ℕ} → a ≤ b → b ≤ a → a ≡ b
    both h k = omega arith

-- of two lines over x that do not conflict, one is the higher
pub higher_total : (x : ℕ) (l m : Line) → Over x l → Over x m → Clear l m → Higher x l m ⊎ Higher x m l
unfolding Taller Level Steeper
higher_total x l m o q clear = go (sign (height_over x m * run l) (height_over x l * run m))
  where
    slope : height_over x m * run l ≡ height_over x l * run m
        → Sign ((west_end l).y.0 * run m + (east_end m).y.0 * run l) ((east_end l).y.0 * run m + (west_end m).y.0 * run l) → Higher x l m ⊎ Higher x m l
    slope e (less h) = inl (steeper e h)
    slope e (more h) = inr (steeper (sym e) (turn_over ((east_end l).y.0 * run m) ((west_end m).y.0 * run l) ((west_end l).y.0 * run m) ((east_end m).y.0 * run l) h))
      where
        turn_over : (a b c d : ℕ) → a + b < c + d → b + a < d + c
        turn_over a b c d h = omega arith
    slope e (same h) = absurd (level_steep x l m o q clear e h)

    go : Sign (height_over x m * run l) (height_over x l * run m) → Higher x l m ⊎ Higher x m l
    go (less h) = inl (taller h)
    go (more h) = inr (taller h)
    go (same h) = slope h (sign ((west_end l).y.0 * run m + (east_end m).y.0 * run l) ((east_end l).y.0 * run m + (west_end m).y.0 * run l))
