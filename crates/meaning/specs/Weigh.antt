-- A common point of two lines from weights along them: what a touch, an overlay and a crossing give.
use Rattle.std.specs.Prelude.{◌≡◌, ℕ, suc, ◌+◌, ◌*◌, ◌-◌, ◌<◌}
use Rattle.std.proofs.Common.{sym, ◌∙◌, ap, ap₂, arith, mul-pos}
use Rattle.definitions.specs.Meaning.{Spot, Conflicts}
use Rattle.definitions.specs.Shape.{Line}
use Rattle.plane.specs.Crossing.{Proper, Mix, mix_line, mix_inner}

-- the weights v, u of a line's ends over x
pub flat : (ax bx x u v : ℕ) → ax + u ≡ x → x + v ≡ bx → ax * v + bx * u ≡ x * (v + u)
flat ax bx x u v e f = rw (← f, ← e) (omega arith)

-- the spot with weights v, u on l is the spot with weights t, s on m, and strictly inside l
pub common : (l m : Line) (v u t s : ℕ) → Proper l → 0 < v → 0 < u → 0 < t + s
    → (l.a.x.0 * v + l.b.x.0 * u) * (t + s) ≡ (m.a.x.0 * t + m.b.x.0 * s) * (v + u)
    → (l.a.y.0 * v + l.b.y.0 * u) * (t + s) ≡ (m.a.y.0 * t + m.b.y.0 * s) * (v + u)
    → Conflicts l m
common l m v u t s pr hv hu hk ex ey =
    (sp, mix_line sp l (v * k) (u * k) ml, mix_line sp m (t * r) (s * r) mm, λ b. mix_inner sp l (v * k) (u * k) pr (mul-pos hv hk) (mul-pos hu hk) ml b.0)
  where
    k : ℕ
    k = t + s

    r : ℕ
    r = v + u

    spread : (a b p q n : ℕ) → (a * p + b * q) * n ≡ a * (p * n) + b * (q * n)
    spread a b p q n = omega arith

    some : 0 < r * k
    some = mul-pos (omega arith) hk

    sp : Spot
    sp = record { X = (l.a.x.0 * v + l.b.x.0 * u) * k; Y = (l.a.y.0 * v + l.b.y.0 * u) * k; Z = r * k; some = some }

    ml : Mix sp l (v * k) (u * k)
    ml = (spread _ _ v u k, spread _ _ v u k, sums v u k)
      where
        sums : (v u k : ℕ) → (v + u) * k ≡ v * k + u * k
        sums v u k = omega arith

    mm : Mix sp m (t * r) (s * r)
    mm = (ex ∙ spread _ _ t s r, ey ∙ spread _ _ t s r, sums v u t s)
      where
        sums : (v u t s : ℕ) → (v + u) * (t + s) ≡ t * (v + u) + s * (v + u)
        sums v u t s = omega arith

-- both over x
over_x : (ax bx cx dx x u v s t : ℕ) → ax + u ≡ x → x + v ≡ bx → cx + s ≡ x → x + t ≡ dx
    → (ax * v + bx * u) * (t + s) ≡ (cx * t + dx * s) * (v + u)
over_x ax bx cx dx x u v s t e f g h = ap (λ (n : ℕ). n * (t + s)) (flat ax bx x u v e f) ∙ swap x (v + u) (t + s) ∙ sym (ap (λ (n : ℕ). n * (v + u)) (flat cx dx x s t g h))
  where
    swap : (x r k : ℕ) → x * r * k ≡ x * k * r
    swap x r k = omega arith

-- equal heights over x, inside l
pub touch : (l m : Line) (x u v s t : ℕ) → Proper l → l.a.x.0 + u ≡ x → x + v ≡ l.b.x.0 → m.a.x.0 + s ≡ x → x + t ≡ m.b.x.0
    → 0 < v → 0 < u → 0 < t + s
    → (l.a.y.0 * v + l.b.y.0 * u) * (t + s) ≡ (m.a.y.0 * t + m.b.y.0 * s) * (v + u) → Conflicts l m
touch l m x u v s t pr e f g h hv hu hk ey = common l m v u t s pr hv hu hk (over_x _ _ _ _ x u v s t e f g h) ey

-- equal heights over x and equal slopes: the lines agree half a step further east
pub overlaid : (l m : Line) (x u v s t : ℕ) → Proper l → l.a.x.0 + u ≡ x → x + suc v ≡ l.b.x.0 → m.a.x.0 + s ≡ x → x + suc t ≡ m.b.x.0
    → (l.a.y.0 * suc v + l.b.y.0 * u) * (suc t + s) ≡ (m.a.y.0 * suc t + m.b.y.0 * s) * (suc v + u)
    → l.b.y.0 * (suc t + s) + m.a.y.0 * (suc v + u) ≡ l.a.y.0 * (suc t + s) + m.b.y.0 * (suc v + u)
    → Conflicts l m
overlaid l m x u v s t pr e f g h eh es =
    common l m (2 * v + 1) (2 * u + 1) (2 * t + 1) (2 * s + 1) pr (omega arith) (omega arith) (omega arith)
    (along l.a.x.0 l.b.x.0 m.a.x.0 m.b.x.0 x u v s t e f g h)
    (high l.a.y.0 l.b.y.0 m.a.y.0 m.b.y.0 u v s t eh es)
  where
    one : (ax bx x u v : ℕ) → ax + u ≡ x → x + suc v ≡ bx → ax * (2 * v + 1) + bx * (2 * u + 1) ≡ (2 * x + 1) * (v + 1 + u)
    one ax bx x u v e f = rw (← f, ← e) (omega arith)

    along : (ax bx cx dx x u v s t : ℕ) → ax + u ≡ x → x + suc v ≡ bx → cx + s ≡ x → x + suc t ≡ dx
        → (ax * (2 * v + 1) + bx * (2 * u + 1)) * (2 * t + 1 + (2 * s + 1)) ≡ (cx * (2 * t + 1) + dx * (2 * s + 1)) * (2 * v + 1 + (2 * u + 1))
    along ax bx cx dx x u v s t e f g h =
        ap (λ (n : ℕ). n * (2 * t + 1 + (2 * s + 1))) (one ax bx x u v e f) ∙ swap x u v s t
        ∙ sym (ap (λ (n : ℕ). n * (2 * v + 1 + (2 * u + 1))) (one cx dx x s t g h))
      where
        swap : (x u v s t : ℕ) → (2 * x + 1) * (v + 1 + u) * (2 * t + 1 + (2 * s + 1)) ≡ (2 * x + 1) * (t + 1 + s) * (2 * v + 1 + (2 * u + 1))
        swap x u v s t = omega arith

    high : (ay by cy dy u v s t : ℕ) → (ay * suc v + by * u) * (suc t + s) ≡ (cy * suc t + dy * s) * (suc v + u)
        → by * (suc t + s) + cy * (suc v + u) ≡ ay * (suc t + s) + dy * (suc v + u)
        → (ay * (2 * v + 1) + by * (2 * u + 1)) * (2 * t + 1 + (2 * s + 1)) ≡ (cy * (2 * t + 1) + dy * (2 * s + 1)) * (2 * v + 1 + (2 * u + 1))
    high ay by cy dy u v s t p q = omega (arith, p, q)

-- higher over x, lower over y: the lines cross between
module _ (l m : Line) (x y : ℕ) (u v s t u' v' s' t' : ℕ) where
  pub cross : Proper l → l.a.x.0 + u ≡ x → x + v ≡ l.b.x.0 → m.a.x.0 + s ≡ x → x + t ≡ m.b.x.0
      → l.a.x.0 + u' ≡ y → y + v' ≡ l.b.x.0 → m.a.x.0 + s' ≡ y → y + t' ≡ m.b.x.0
      → 0 < v → 0 < u' → 0 < t
      → (m.a.y.0 * t + m.b.y.0 * s) * (v + u) < (l.a.y.0 * v + l.b.y.0 * u) * (t + s)
      → (l.a.y.0 * v' + l.b.y.0 * u') * (t' + s') < (m.a.y.0 * t' + m.b.y.0 * s') * (v' + u')
      → Conflicts l m
  cross pr e f g h e' f' g' h' hv hu ht hi lo =
      common l m (v * q + v' * p) (u * q + u' * p) (t * q + t' * p) (s * q + s' * p) pr
      (first (v * q) _ (mul-pos hv hq)) (last _ (u' * p) (mul-pos hu hp)) (first _ _ (first (t * q) _ (mul-pos ht hq)))
      (along l.a.x.0 l.b.x.0 m.a.x.0 m.b.x.0 e f g h e' f' g' h')
      (high l.a.y.0 l.b.y.0 m.a.y.0 m.b.y.0 (same_run l.a.x.0 l.b.x.0 x y u v u' v' e f e' f') (same_run m.a.x.0 m.b.x.0 x y s t s' t' g h g' h') (filled hi) (filled lo))
    where
      p : ℕ
      p = (l.a.y.0 * v + l.b.y.0 * u) * (t + s) - (m.a.y.0 * t + m.b.y.0 * s) * (v + u)

      q : ℕ
      q = (m.a.y.0 * t' + m.b.y.0 * s') * (v' + u') - (l.a.y.0 * v' + l.b.y.0 * u') * (t' + s')

      gap : {a b : ℕ} → a < b → 0 < b - a
      gap h = omega arith

      filled : {a b : ℕ} → a < b → b ≡ a + (b - a)
      filled h = omega arith

      hp : 0 < p
      hp = gap hi

      hq : 0 < q
      hq = gap lo

      first : (a b : ℕ) → 0 < a → 0 < a + b
      first a b h = omega arith

      last : (a b : ℕ) → 0 < b → 0 < a + b
      last a b h = omega arith

      gather : (a b v u v' u' p q : ℕ) → a * (v * q + v' * p) + b * (u * q + u' * p) ≡ (a * v + b * u) * q + (a * v' + b * u') * p
      gather a b v u v' u' p q = omega arith

      sums : (v u v' u' p q : ℕ) → v * q + v' * p + (u * q + u' * p) ≡ (v + u) * q + (v' + u') * p
      sums v u v' u' p q = omega arith

      same_run : (ax bx x y u v u' v' : ℕ) → ax + u ≡ x → x + v ≡ bx → ax + u' ≡ y → y + v' ≡ bx → v' + u' ≡ v + u
      same_run ax bx x y u v u' v' e f e' f' = omega arith

      along : (ax bx cx dx : ℕ) → ax + u ≡ x → x + v ≡ bx → cx + s ≡ x → x + t ≡ dx → ax + u' ≡ y → y + v' ≡ bx → cx + s' ≡ y → y + t' ≡ dx
          → (ax * (v * q + v' * p) + bx * (u * q + u' * p)) * (t * q + t' * p + (s * q + s' * p)) ≡ (cx * (t * q + t' * p) + dx * (s * q + s' * p)) * (v * q + v' * p + (u * q + u' * p))
      along ax bx cx dx e f g h e' f' g' h' =
          ap₂ (λ (i j : ℕ). i * j) (gather ax bx v u v' u' p q ∙ ap₂ (λ (i j : ℕ). i * q + j * p) (flat ax bx x u v e f) (flat ax bx y u' v' e' f' ∙ ap (λ (n : ℕ). y * n) rl)) (sums t s t' s' p q ∙ ap (λ (n : ℕ). (t + s) * q + n * p) rm)
          ∙ turn_over x y (v + u) (t + s) p q
          ∙ sym (ap₂ (λ (i j : ℕ). i * j) (gather cx dx t s t' s' p q ∙ ap₂ (λ (i j : ℕ). i * q + j * p) (flat cx dx x s t g h) (flat cx dx y s' t' g' h' ∙ ap (λ (n : ℕ). y * n) rm)) (sums v u v' u' p q ∙ ap (λ (n : ℕ). (v + u) * q + n * p) rl))
        where
          rl : v' + u' ≡ v + u
          rl = same_run ax bx x y u v u' v' e f e' f'

          rm : t' + s' ≡ t + s
          rm = same_run cx dx x y s t s' t' g h g' h'

          turn_over : (x y r k p q : ℕ) → (x * r * q + y * r * p) * (k * q + k * p) ≡ (x * k * q + y * k * p) * (r * q + r * p)
          turn_over x y r k p q = omega arith

      high : (ay by cy dy : ℕ) → v' + u' ≡ v + u → t' + s' ≡ t + s
          → (ay * v + by * u) * (t + s) ≡ (cy * t + dy * s) * (v + u) + p → (cy * t' + dy * s') * (v' + u') ≡ (ay * v' + by * u') * (t' + s') + q
          → (ay * (v * q + v' * p) + by * (u * q + u' * p)) * (t * q + t' * p + (s * q + s' * p)) ≡ (cy * (t * q + t' * p) + dy * (s * q + s' * p)) * (v * q + v' * p + (u * q + u' * p))
      high ay by cy dy rl rm i j =
          ap₂ (λ (i j : ℕ). i * j) (gather ay by v u v' u' p q) (sums t s t' s' p q ∙ ap (λ (n : ℕ). (t + s) * q + n * p) rm)
          ∙ turn_over (ay * v + by * u) (ay * v' + by * u') (cy * t + dy * s) (cy * t' + dy * s') (v + u) (t + s) p q i
          (ap (λ (n : ℕ). (cy * t' + dy * s') * n) (sym rl) ∙ j ∙ ap (λ (n : ℕ). (ay * v' + by * u') * n + q) rm)
          ∙ sym (ap₂ (λ (i j : ℕ). i * j) (gather cy dy t s t' s' p q) (sums v u v' u' p q ∙ ap (λ (n : ℕ). (v + u) * q + n * p) rl))
        where
          turn_over : (h h' g g' r k p q : ℕ) → h * k ≡ g * r + p → g' * r ≡ h' * k + q → (h * q + h' * p) * (k * q + k * p) ≡ (g * q + g' * p) * (r * q + r * p)
          turn_over h h' g g' r k p q i j = left h h' k p q ∙ core (h * k) (h' * k) (g * r) (g' * r) p q i j ∙ sym (left g g' r p q)
            where
              left : (h h' k p q : ℕ) → (h * q + h' * p) * (k * q + k * p) ≡ (h * k * q + h' * k * p) * (q + p)
              left h h' k p q = omega arith

              core : (a a' b b' p q : ℕ) → a ≡ b + p → b' ≡ a' + q → (a * q + a' * p) * (q + p) ≡ (b * q + b' * p) * (q + p)
              core a a' b b' p q i j = rw (i, j) (omega arith)
