-- A fan: lines with a common end v. Two of them conflict only if they leave v the same way, so on the same side of any way from v.
use Rattle.std.specs.Prelude.{◌≡◌, ◌⊎◌, Bool, not, ◌&&◌, ◌||◌, ℕ, ◌+◌, ◌*◌, ◌≤◌, ◌<◌, min, max}
use Rattle.std.proofs.Math.Path.{refl}
use Rattle.std.proofs.Common.{sym, ◌∙◌, ap, ap₂, inl, inr, arith, lt-ltb}
use Rattle.std.proofs.Math.Bool.{true, false}
use Rattle.std.proofs.Math.Nat.{min_comm, max_comm}
use Rattle.std.proofs.lemmas.Bool.{not-true}
use Rattle.algebra.specs.Order.{mul_lt, cancel_lt}
use Rattle.algebra.specs.Signs.{positive_is}
use Rattle.algebra.specs.Tests.{both→, both_ways, false_by, no_path}
use Rattle.algebra.specs.Words.{is_positive, is_zero}
use Rattle.definitions.specs.declared.Point.{Point}
use Rattle.definitions.specs.Shape.{Line, turn, between, same_point, is_end, conflict}
use Rattle.plane.specs.Compare.{order, ◌·◌}
use Rattle.plane.specs.Ends.{same_refl, end_cases}
use Rattle.plane.specs.Turns.{lefts, rights, turn_is}
use Rattle.geometry.specs.Join.{zero→, left→, boxed←, fork_ac, fork_ad, fork_bc, fork_bd}
use Rattle.geometry.specs.Means.{boxed_of, line_from, fork_of}
use Rattle.geometry.specs.Slots.{conflict_slot}

-- the line, which has an end at v, leaves it to the left of the way from v to w: at the end that is v the turn is 0
unfoldable pub leaves_left : Point → Point → Line → Bool
leaves_left v w l = is_positive (turn v w l.a) || is_positive (turn v w l.b)

-- ---- lines from v to p and to q that run the same way

-- (a - b)(l - r) is (c - d)(m - n): so m - n has the sign of l - r
carry : (a b c d l r m n : ℕ) → b < a → d ≤ c → a * l + b * r + (c * n + d * m) ≡ a * r + b * l + (c * m + d * n) → r < l → n < m
carry a b c d l r m n h k e p = cancel_lt c d m n k (omega (arith, mul_lt a b l r h p))

-- v stands beside p and q, which are in one straight line with it: p left of the way from v to w has q left of it
module _ (v p q w : Point) (e : lefts v p q ≡ rights v p q) where
  abbrev Follows : Type 0
  Follows = rights v w p < lefts v w p → rights v w q < lefts v w q

  west : v.x.0 < min p.x.0 q.x.0 → Follows
  west h = carry q.x.0 v.x.0 p.x.0 v.x.0 _ _ _ _ (omega arith) (omega arith) (omega (arith, w.x.0 · e, v.x.0 · e))

  east : max p.x.0 q.x.0 < v.x.0 → Follows
  east h = carry v.x.0 q.x.0 v.x.0 p.x.0 _ _ _ _ (omega arith) (omega arith) (omega (arith, w.x.0 · e, v.x.0 · e))

  south : v.y.0 < min p.y.0 q.y.0 → Follows
  south h = carry q.y.0 v.y.0 p.y.0 v.y.0 _ _ _ _ (omega arith) (omega arith) (omega (arith, w.y.0 · e, v.y.0 · e))

  north : max p.y.0 q.y.0 < v.y.0 → Follows
  north h = carry v.y.0 q.y.0 v.y.0 p.y.0 _ _ _ _ (omega arith) (omega arith) (omega (arith, w.y.0 · e, v.y.0 · e))

  follows : boxed_of (line_from p q) v ≡ false → Follows
  follows f = elim (order (min p.x.0 q.x.0) v.x.0) [
    | inr h ↦ west h
    | inl i ↦ elim (order v.x.0 (max p.x.0 q.x.0)) [
      | inr h ↦ east h
      | inl j ↦ elim (order (min p.y.0 q.y.0) v.y.0) [
        | inr h ↦ south h
        | inl k ↦ elim (order v.y.0 (max p.y.0 q.y.0)) [
          | inr h ↦ north h
          | inl m ↦ no_path (sym f ∙ boxed← v (line_from p q) (record { w = i; e = j; s = k; n = m }))
        ]
      ]
    ]
  ]

left← : (a b c : Point) → rights a b c < lefts a b c → is_positive (turn a b c) ≡ true
left← a b c h = positive_is (turn_is a b c) ∙ lt-ltb _ _ h

fork_left : (v p q w : Point) → fork_of v p q ≡ true → is_positive (turn v w p) ≡ is_positive (turn v w q)
unfolding fork_of
fork_left v p q w f =
    let t = both→ (is_zero (turn v p q)) (not (boxed_of (line_from p q) v)) f in
    let e = zero→ v p q t.0 in
    let b = not-true _ t.1 in
    both_ways _ _
    (λ h. left← v w q (follows v p q w e b (left→ v w p h)))
    (λ h. left← v w p (follows v q p w (omega (arith, e)) (sym turned ∙ b) (left→ v w q h)))
  where
    turned : boxed_of (line_from p q) v ≡ boxed_of (line_from q p) v
    turned i = boxed (min_comm p.x.0 q.x.0 i) (max_comm p.x.0 q.x.0 i) (min_comm p.y.0 q.y.0 i) (max_comm p.y.0 q.y.0 i)
      where
        boxed : ℕ → ℕ → ℕ → ℕ → Bool
        boxed a b c d = between a v.x.0 b && between c v.y.0 d

-- ---- lines with an end at v
module _ (v w : Point) (l : Line) where
  at_v : is_positive (turn v w v) ≡ false
  at_v = false_by _ (λ t. omega (arith, left→ v w v t))

  from_a : v ≡ l.a → leaves_left v w l ≡ is_positive (turn v w l.b)
  unfolding leaves_left
  from_a e = rw (← e, at_v)

  from_b : v ≡ l.b → leaves_left v w l ≡ is_positive (turn v w l.a)
  unfolding leaves_left
  from_b e = rw (← e, at_v) (last (is_positive (turn v w l.a)))
    where
      last : (b : Bool) → b || false ≡ b
      last true = refl
      last false = refl

module _ (v w : Point) (l m : Line) (dl : same_point l.a l.b ≡ false) (dm : same_point m.a m.b ≡ false) where
  -- they conflict only where they leave v on one side of the way to w
  pub one_side : is_end v l ≡ true → is_end v m ≡ true → conflict l m ≡ true → leaves_left v w l ≡ leaves_left v w m
  one_side el em c = go (end_cases v l el) (end_cases v m em)
    where
      same : {p q : Point} → v ≡ p → v ≡ q → same_point p q ≡ true
      same e f = ap₂ same_point (sym e) (sym f) ∙ same_refl v

      fork : (p q : Point) {u : Point} → v ≡ u → fork_of u p q ≡ conflict (line_from l.a l.b) (line_from m.a m.b) → is_positive (turn v w p) ≡ is_positive (turn v w q)
      fork p q e f = fork_left v p q w (ap (λ (z : Point). fork_of z p q) e ∙ f ∙ conflict_slot l m ∙ c)

      go : (v ≡ l.a) ⊎ (v ≡ l.b) → (v ≡ m.a) ⊎ (v ≡ m.b) → leaves_left v w l ≡ leaves_left v w m
      go (inl e) (inl f) = from_a v w l e ∙ fork l.b m.b e (fork_ac _ _ _ _ dl dm (same e f)) ∙ sym (from_a v w m f)
      go (inl e) (inr f) = from_a v w l e ∙ fork l.b m.a e (fork_ad _ _ _ _ dl dm (same e f)) ∙ sym (from_b v w m f)
      go (inr e) (inl f) = from_b v w l e ∙ fork l.a m.b e (fork_bc _ _ _ _ dl dm (same e f)) ∙ sym (from_a v w m f)
      go (inr e) (inr f) = from_b v w l e ∙ fork l.a m.a e (fork_bd _ _ _ _ dl dm (same e f)) ∙ sym (from_b v w m f)
