-- Two lines in one straight line, with a spot inside both: an end of one lies within the other, or their ends agree.
use Rattle.std.specs.Prelude.{◌≡◌, ◌⊎◌, ℕ, ◌+◌, ◌*◌, ◌≤◌, ◌<◌}
use Rattle.std.proofs.Common.{inl, inr, arith, mul-le-mul_left, lt_irrefl, lt_of_lt_of_le}
use Rattle.std.proofs.Math.Logic.{⊎_swap}
use Rattle.std.proofs.Math.Nat.{mul-lt-mul_of_pos_left, lt_of_mul-lt-mul_left, le_of_mul-le-mul_left}
use Rattle.definitions.specs.declared.Point.{Point}
use Rattle.definitions.specs.Shape.{Line}
use Rattle.definitions.specs.Meaning.{spot_of, Spot, AtPoint, AtEnd}
use Rattle.plane.specs.Compare.{order, cancel, ◌·◌, gap}
use Rattle.plane.specs.Turns.{lefts, rights}
use Rattle.plane.specs.Segments.{back, online_back, Weighed, flip, dot, dot_at, weigh, Proper, proper_back}
use Rattle.plane.specs.Ends.{Within, within_by}

-- p lies in the straight line of l
abbrev pub Even : Line → Point → Type 0
Even l p = lefts l.a l.b p ≡ rights l.a l.b p

-- in the direction of l, p comes before q
abbrev Before : Line → Point → Point → Type 0
Before l p q = dot l.b p + dot l.a q < dot l.b q + dot l.a p

-- not after it
abbrev Upto : Line → Point → Point → Type 0
Upto l p q = dot l.b p + dot l.a q ≤ dot l.b q + dot l.a p

which : (l : Line) (p q : Point) → Upto l p q ⊎ Before l q p
which l p q = order (dot l.b p + dot l.a q) (dot l.b q + dot l.a p)

-- between the ends of m in some direction
between : (l m : Line) (p : Point) → Proper m → Even m p → Before l m.a p → Before l p m.b → Within p m
unfolding weigh spot_of
between l m p pr e h k =
    let (u, hu, eu) = gap h in
    let (v, hv, ev) = gap k in
    within_by p pr (weigh l.a l.b m (spot_of p) (v + u) v u (omega (arith, hu)) (omega (arith, e)) (omega (arith, ev, eu)) (omega (arith, ev)) (omega (arith, eu))) hv hu

-- at the place of the first end of l
same_place : (l : Line) (p : Point) → Before l l.a l.b → Even l p → Upto l p l.a → Upto l l.a p → AtPoint (spot_of l.a) p
unfolding weigh spot_of
same_place l p ab e f g =
    let (k, h, ek) = gap ab in
    let w = weigh l.a l.b l (spot_of p) k k 0 h (omega (arith, e)) ek (omega (arith, ek, f, g)) (omega (arith, f, g)) in
    record { same_x = cancel k h (omega (arith, w.at_x)); same_y = cancel k h (omega (arith, w.at_y)) }

-- the place of a mean is the mean of the places
place : {s : Spot} {l : Line} (w : Weighed s l) (p : Point) → w.k * dot_at p s ≡ w.v * dot p l.a + w.u * dot p l.b
place w p = omega (arith, p.x.0 · w.at_x, p.y.0 · w.at_y)

-- s inside l: in l's direction, the ends of m through s do not both lie up to l's first end
one_side : {s : Spot} {l m : Line} (w : Weighed s l) → 0 < w.u → Before l l.a l.b
    → Weighed s m → Upto l m.a l.a → Upto l m.b l.a → ⊥
one_side {s} {l} {m} w h ab z c d =
    lt_irrefl _ (lt_of_lt_of_le
    (past _ _ _ _ _ _ s.Z w.k w.v w.u (place w l.b) (place w l.a) w.at_z h ab)
    (upto _ _ _ _ _ _ _ _ s.Z z.k z.v z.u z.some (place z l.b) (place z l.a) z.at_z c d))
  where
    past : (Pa Na Pb Nb Ps Ns Z k v u : ℕ) → k * Ps ≡ v * Pa + u * Pb → k * Ns ≡ v * Na + u * Nb → k * Z ≡ v + u
        → 0 < u → Pa + Nb < Pb + Na → Pa * Z + Ns < Ps + Na * Z
    past Pa Na Pb Nb Ps Ns Z k v u e_p e_n e_z h ab = lt_of_mul-lt-mul_left k (omega (arith, Pa · e_z, Na · e_z, mul-lt-mul_of_pos_left ab h))

    upto : (Pa Na Pc Nc Pd Nd Ps Ns Z k v u : ℕ) → 0 < k → k * Ps ≡ v * Pc + u * Pd → k * Ns ≡ v * Nc + u * Nd → k * Z ≡ v + u
        → Pc + Na ≤ Pa + Nc → Pd + Na ≤ Pa + Nd → Ps + Na * Z ≤ Pa * Z + Ns
    upto Pa Na Pc Nc Pd Nd Ps Ns Z k v u h e_p e_n e_z ca da = le_of_mul-le-mul_left {k = k} (omega (arith, Pa · e_z, Na · e_z, mul-le-mul_left v ca, mul-le-mul_left u da)) h

-- an end of one lies within the other, or their ends agree
pub data Held (l m : Line) : Type 0 where
  a_in : Within l.a m → Held l m
  b_in : Within l.b m → Held l m
  c_in : Within m.a l → Held l m
  d_in : Within m.b l → Held l m
  equal : AtEnd (spot_of l.a) m → AtEnd (spot_of l.b) m → Held l m

held_back : (l m : Line) → Held l (back m) → Held l m
unfolding back
held_back l m (a_in w) = a_in (online_back (spot_of l.a) m w.0, λ e. w.1 (⊎_swap e))
held_back l m (b_in w) = b_in (online_back (spot_of l.b) m w.0, λ e. w.1 (⊎_swap e))
held_back l m (c_in w) = d_in w
held_back l m (d_in w) = c_in w
held_back l m (equal e f) = equal (⊎_swap e) (⊎_swap f)

module _ (l : Line) (ab : Before l l.a l.b) where
  -- m reaches from l's first end, or before it, to l's second, or past it
  spans : (m : Line) → Proper m → Even m l.a → Even m l.b → Even l m.a → Even l m.b
      → Upto l m.a l.a → Upto l l.b m.b → Held l m
  unfolding back
  spans m pm ea eb ec ed ca bd =
      go (which l l.a m.a) (which l m.b l.b)
    where
      go : Upto l l.a m.a ⊎ Before l m.a l.a → Upto l m.b l.b ⊎ Before l l.b m.b → Held l m
      go (inr h) k = a_in (between l m l.a pm ea h (omega (arith, ab, bd)))
      go (inl h) (inr k) = b_in (between l m l.b pm eb (omega (arith, ab, ca)) k)
      go (inl h) (inl k) =
          equal (inl (same_place l m.a ab ec ca h)) (inr (same_place (back l) m.b (omega (arith, ab)) (omega (arith, ed)) (omega (arith, bd)) (omega (arith, k))))

  pub overlap : {s : Spot} (m : Line) → Proper l → Proper m → (w : Weighed s l) → 0 < w.v → 0 < w.u → Weighed s m
      → Even m l.a → Even m l.b → Even l m.a → Even l m.b → Held l m
  unfolding back flip
  overlap {s} m pl pm w hv hu z ea eb ec ed =
      go (which l m.a l.a) (which l l.b m.a) (which l m.b l.a) (which l l.b m.b)
    where
      go : Upto l m.a l.a ⊎ Before l l.a m.a → Upto l l.b m.a ⊎ Before l m.a l.b
          → Upto l m.b l.a ⊎ Before l l.a m.b → Upto l l.b m.b ⊎ Before l m.b l.b → Held l m
      go (inr p) (inr q) r t = c_in (between l l m.a pl ec p q)
      go (inl p) q (inl r) t = absurd (one_side w hu ab z p r)
      go (inl p) q (inr r) (inl t) = spans m pm ea eb ec ed p t
      go (inl p) q (inr r) (inr t) = d_in (between l l m.b pl ed r t)
      go (inr p) (inl q) r (inl t) = absurd (one_side {l = back l} (flip w) hv (omega (arith, ab)) z (omega (arith, q)) (omega (arith, t)))
      go (inr p) (inl q) (inl r) (inr t) = held_back l m (spans (back m) (proper_back m pm) (omega (arith, ea)) (omega (arith, eb)) ed ec r q)
      go (inr p) (inl q) (inr r) (inr t) = d_in (between l l m.b pl ed r t)
