-- Two lines that share two points lie in one straight line: otherwise what they share is one point.
use Rattle.std.specs.Prelude.{◌≡◌, ◌⊎◌, ℕ, ◌+◌, ◌*◌, ◌≤◌, ◌<◌}
use Rattle.std.proofs.Common.{sym, ◌∙◌, ap₂, inl, inr, arith, mul-le-mul_right, mul-pos}
use Rattle.std.proofs.Math.Decide.{ℕ_discrete}
use Rattle.definitions.specs.Shape.{Line}
use Rattle.definitions.specs.Meaning.{Spot, OnLine, SameSpot, Shared}
use Rattle.plane.specs.Compare.{order, cancel, ◌·◌, gap}
use Rattle.plane.specs.Turns.{lefts, rights}
use Rattle.plane.specs.Segments.{straight_of, Weighed, mean_lefts, mean_rights, weights, Proper}
use Rattle.plane.specs.Overlap.{Even}

-- with p = L - R over 0
cross_up : (v u v' u' p R L M N : ℕ) → 0 < p → p + R ≡ L → v * L + u * M ≡ v * R + u * N → v' * L + u' * M ≡ v' * R + u' * N → v * u' ≡ u * v'
cross_up v u v' u' p R L M N hp f e e' = go (order N M)
  where
    e1 : v * p + u * M ≡ u * N
    e1 = omega (arith, v · f, e)

    e2 : v' * p + u' * M ≡ u' * N
    e2 = omega (arith, v' · f, e')

    none : (w z : ℕ) → w * p + z * M ≡ z * N → N ≤ M → w ≡ 0
    none w z i h = cancel p hp (omega (arith, i, mul-le-mul_right z h))

    go : (N ≤ M) ⊎ (M < N) → v * u' ≡ u * v'
    go (inl h) = let a = none v u e1 h in let b = none v' u' e2 h in omega (arith, u' · a, u · b)
    go (inr h) =
        let (q, hq, g) = gap h in
        let a : v * p ≡ u * q = omega (arith, e1, u · g) in
        let b : v' * p ≡ u' * q = omega (arith, e2, u' · g) in
        cancel (p * q) (mul-pos hp hq) (omega (arith, ap₂ ◌*◌ a (sym b)))

-- the weights that two zeros of one straight line have, unless it is the line's own
cross : (v u v' u' L R M N : ℕ) → ((L ≡ R) × (M ≡ N) → ⊥) → v * L + u * M ≡ v * R + u * N → v' * L + u' * M ≡ v' * R + u' * N → v * u' ≡ u * v'
cross v u v' u' L R M N n e e' = go (order L R) (order R L) (ℕ_discrete M N)
  where
    even : L ≡ R → (M ≡ N → ⊥) → (w z : ℕ) → w * L + z * M ≡ w * R + z * N → z ≡ 0
    even f d w z i = let j : z * M ≡ z * N = omega (arith, w · f, i) in elim (order z 0) [ inl h ↦ omega (arith, h) | inr h ↦ absurd (d (cancel z h j)) ]

    go : (L ≤ R) ⊎ (R < L) → (R ≤ L) ⊎ (L < R) → Dec (M ≡ N) → v * u' ≡ u * v'
    go (inr h) k d = let (p, hp, f) = gap h in cross_up v u v' u' p R L M N hp f e e'
    go (inl h) (inr k) d = let (p, hp, f) = gap k in cross_up v u v' u' p L R N M hp f (sym e) (sym e')
    go (inl h) (inl k) (yes d) = absurd (n (omega (arith, h, k), d))
    go (inl h) (inl k) (no d) =
        let f : L ≡ R = omega (arith, h, k) in
        let a = even f d v u e in
        let b = even f d v' u' e' in
        omega (arith, v · b, v' · a)

-- spots of one line with weights in proportion are one point
one_at : (c d X Z X' Z' k v u k' v' u' : ℕ) → 0 < k → 0 < k' → k * X ≡ c * v + d * u → k * Z ≡ v + u → k' * X' ≡ c * v' + d * u' → k' * Z' ≡ v' + u' → v * u' ≡ u * v' → X * Z' ≡ X' * Z
one_at c d X Z X' Z' k v u k' v' u' h h' ex ez ex' ez' e = cancel (k * k') (mul-pos h h') (l ∙ mid ∙ sym r)
  where
    l : k * k' * (X * Z') ≡ (c * v + d * u) * (v' + u')
    l = omega arith ∙ ap₂ ◌*◌ ex ez'

    r : k * k' * (X' * Z) ≡ (c * v' + d * u') * (v + u)
    r = omega arith ∙ ap₂ ◌*◌ ex' ez

    mid : (c * v + d * u) * (v' + u') ≡ (c * v' + d * u') * (v + u)
    mid = omega (arith, c · e, d · e)

pub one_spot : {s t : Spot} (l m : Line) → Proper m → Shared s l m → Shared t l m → (Even l m.a × Even l m.b → ⊥) → SameSpot s t
one_spot {s} {t} l m pm hs ht n =
    let w = weights pm hs.on_second in
    let z = weights pm ht.on_second in
    let e = cross w.v w.u z.v z.u (lefts l.a l.b m.a) (rights l.a l.b m.a) (lefts l.a l.b m.b) (rights l.a l.b m.b) n (level w hs.on_first) (level z ht.on_first) in
    record {
      same_x = one_at m.a.x.0 m.b.x.0 s.X s.Z t.X t.Z w.k w.v w.u z.k z.v z.u w.some z.some w.at_x w.at_z z.at_x z.at_z e;
      same_y = one_at m.a.y.0 m.b.y.0 s.Y s.Z t.Y t.Z w.k w.v w.u z.k z.v z.u w.some z.some w.at_y w.at_z z.at_y z.at_z e;
    }
  where
    level : {r : Spot} (w : Weighed r m) → OnLine r l → w.v * lefts l.a l.b m.a + w.u * lefts l.a l.b m.b ≡ w.v * rights l.a l.b m.a + w.u * rights l.a l.b m.b
    level w o = sym (mean_lefts w l.a l.b) ∙ (w.k · straight_of o) ∙ mean_rights w l.a l.b
