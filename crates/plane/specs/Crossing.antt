-- The computed test and the common point: `conflict l m` is true exactly if the lines share a point that is not an end of both.
use Rattle.std.specs.Prelude.{◌≡◌, refl, ◌↔◌, ◌⊎◌, true, [], ◌∷◌, ℕ, ◌+◌, ◌*◌, ◌≤◌, ◌<◌}
use Rattle.std.proofs.Common.{sym, ◌∙◌, inl, inr, ⊎_elim, arith, mul-pos}
use Rattle.std.proofs.Math.Logic.Iff
use Rattle.std.proofs.Math.Logic.{⊎_swap}
use Rattle.std.proofs.Math.Nat.{mul-lt-mul_of_pos_left, lt_of_mul-lt-mul_left}
use Rattle.std.proofs.Math.Decide.{ℕ_discrete}
use Rattle.algebra.specs.Solve.{solveℕ, re}
use Rattle.definitions.specs.declared.Point.{Point}
use Rattle.definitions.specs.Shape.{Line, parts, conflict}
use Rattle.definitions.specs.Meaning.{spot_of, Spot, OnLine, AtPoint, AtEnd, Conflicts}
use Rattle.plane.specs.Compare.{order, cancel, ◌·◌, ◌⊞◌, follows, gap}
use Rattle.plane.specs.Says.{both, either, Left, Right, left_says, right_says}
use Rattle.plane.specs.Segments.{straight_of, online_back, Weighed, mean_lefts, mean_rights, ahead, weights, inner}
pub use Rattle.plane.specs.Segments.{differ, Mix, mix_line, mix_inner}
unfoldable pub use Rattle.plane.specs.Segments.{Proper, back}
use Rattle.plane.specs.Overlap.{Even, Held, a_in, b_in, c_in, d_in, equal, overlap}
use Rattle.plane.specs.Ends.{Within, within_says, end_says, within_by}
pub use Rattle.plane.specs.Ends.{OnAt, on→, on←, spot_on}

pub turned : {l m : Line} → Conflicts l m → Conflicts m l
turned (s, ol, om, f) = (s, om, ol, λ b. f (b.1, b.0))

pub unback : {l m : Line} → Conflicts l (back m) → Conflicts l m
unfolding back
unback {l} {m} (s, ol, om, f) = (s, ol, online_back s m om, λ b. f (b.0, ⊎_swap b.1))

-- ---- What the test says

-- the ends of m lie strictly on the two sides of l
abbrev pub Parts : Line → Line → Type 0
Parts l m = (Left l m.a × Right l m.b) ⊎ (Right l m.a × Left l m.b)

pub parts_says : (l m : Line) → (parts l m ≡ true) ↔ Parts l m
unfolding parts
parts_says l m = either (both (left_says l m.a) (right_says l m.b)) (both (right_says l m.a) (left_says l m.b))

-- the test, part by part
abbrev pub Clash : Line → Line → Type 0
Clash l m =
    ((((Within l.a m ⊎ Within l.b m) ⊎ Within m.a l) ⊎ Within m.b l) ⊎ (Parts l m × Parts m l))
    ⊎ (AtEnd (spot_of l.a) m × AtEnd (spot_of l.b) m)

pub conflict_says : (l m : Line) → (conflict l m ≡ true) ↔ Clash l m
unfolding conflict
conflict_says l m =
    either (either (either (either (either (within_says l.a m) (within_says l.b m)) (within_says m.a l)) (within_says m.b l))
    (both (parts_says l m) (parts_says m l)))
    (both (end_says l.a m) (end_says l.b m))

held_clash : {l m : Line} → Held l m → Clash l m
held_clash (a_in w) = inl (inl (inl (inl (inl w))))
held_clash (b_in w) = inl (inl (inl (inl (inr w))))
held_clash (c_in w) = inl (inl (inl (inr w)))
held_clash (d_in w) = inl (inl (inr w))
held_clash (equal e f) = inr (e, f)

-- ---- The test passes: a spot

-- an end of one within the other
hit : (p : Point) (l m : Line) → OnLine (spot_of p) l → Within p m → Conflicts l m
hit p l m o w = (spot_of p, o, w.0, λ b. w.1 b.1)

pub at_a : (l : Line) → OnLine (spot_of l.a) l
unfolding spot_of
at_a l = mix_line (spot_of l.a) l 1 0 (omega arith, omega arith, omega arith)

pub at_b : (l : Line) → OnLine (spot_of l.b) l
unfolding spot_of
at_b l = mix_line (spot_of l.b) l 0 1 (omega arith, omega arith, omega arith)

-- the ends agree: so do the spots half way
half_way : (l m : Line) → Proper l → l.a.x.0 + l.b.x.0 ≡ m.a.x.0 + m.b.x.0 → l.a.y.0 + l.b.y.0 ≡ m.a.y.0 + m.b.y.0 → Conflicts l m
half_way l m pr ex ey =
    let s : Spot = record { X = l.a.x.0 + l.b.x.0; Y = l.a.y.0 + l.b.y.0; Z = 2; some = omega arith } in
    let i : Mix s l 1 1 = (omega arith, omega arith, omega arith) in
    (s, mix_line s l 1 1 i, mix_line s m 1 1 (omega (arith, ex), omega (arith, ey), omega arith), λ b. mix_inner s l 1 1 pr (omega arith) (omega arith) i b.0)

pub ends_agree : (l m : Line) → Proper l → AtEnd (spot_of l.a) m → AtEnd (spot_of l.b) m → Conflicts l m
unfolding spot_of
ends_agree l m pr (inl h) (inl k) = absurd (differ l pr (h.same_x ∙ sym k.same_x) (h.same_y ∙ sym k.same_y))
ends_agree l m pr (inl h) (inr k) = half_way l m pr (omega (arith, h.same_x, k.same_x)) (omega (arith, h.same_y, k.same_y))
ends_agree l m pr (inr h) (inl k) = half_way l m pr (omega (arith, h.same_x, k.same_x)) (omega (arith, h.same_y, k.same_y))
ends_agree l m pr (inr h) (inr k) = absurd (differ l pr (h.same_x ∙ sym k.same_x) (h.same_y ∙ sym k.same_y))

-- the crossing spot, by its weights on each line: the turns of the ends about the other
agree : (ax ay bx by cx cy dx dy u v t r : ℕ)
    → u + (bx * ay + ax * cy + by * cx) ≡ bx * cy + ay * cx + by * ax
    → v + (bx * dy + ay * dx + by * ax) ≡ bx * ay + ax * dy + by * dx
    → t + (dx * ay + cy * ax + dy * cx) ≡ dx * cy + cx * ay + dy * ax
    → r + (dx * cy + cx * by + dy * bx) ≡ dx * by + cy * bx + dy * cx
    → cx * v + dx * u ≡ ax * r + bx * t
agree ax ay bx by cx cy dx dy u v t r ec ed fa fb =
    follows (cx · ed ⊞ dx · ec ⊞ sym (ax · fb) ⊞ sym (bx · fa))
    (solveℕ (ax ∷ ay ∷ bx ∷ by ∷ cx ∷ cy ∷ dx ∷ dy ∷ u ∷ v ∷ t ∷ r ∷ []) (search re depth 12) refl)

crossing : (l m : Line) → Proper l → Left l m.a → Right l m.b → Right m l.a → Left m l.b → Conflicts l m
crossing l m pr hc hd ha hb =
    let (u, hu, ec) = gap hc in
    let (v, hv, ed) = gap hd in
    let (t, ht, fa) = gap ha in
    let (r, hr, fb) = gap hb in
    let s : Spot = record { X = m.a.x.0 * v + m.b.x.0 * u; Y = m.a.y.0 * v + m.b.y.0 * u; Z = v + u; some = omega (arith, hu) } in
    let i : Mix s l r t = (
      agree l.a.x.0 l.a.y.0 l.b.x.0 l.b.y.0 m.a.x.0 m.a.y.0 m.b.x.0 m.b.y.0 u v t r
          (omega (arith, ec)) (omega (arith, ed)) (omega (arith, fa)) (omega (arith, fb)),
      omega (
        arith,
        agree l.a.y.0 l.a.x.0 l.b.y.0 l.b.x.0 m.b.y.0 m.b.x.0 m.a.y.0 m.a.x.0 v u t r
            (omega (arith, ed)) (omega (arith, ec)) (omega (arith, fa)) (omega (arith, fb)),
      ),
      omega (arith, ec, ed, fa, fb),
    ) in
    (s, mix_line s l r t i, mix_line s m v u (refl, refl, refl), λ b. mix_inner s l r t pr hr ht i b.0)

pub crosses : (l m : Line) → Proper l → Parts l m → Parts m l → Conflicts l m
unfolding back
crosses l m pr (inl h) (inl k) = absurd (omega (arith, h, k))
crosses l m pr (inl h) (inr k) = crossing l m pr h.0 h.1 k.0 k.1
crosses l m pr (inr h) (inl k) = unback (crossing l (back m) pr h.1 h.0 (omega (arith, k.0)) (omega (arith, k.1)))
crosses l m pr (inr h) (inr k) = absurd (omega (arith, h, k))

spot_of_lem : (l m : Line) → Proper l → Clash l m → Conflicts l m
spot_of_lem l m pr (inl (inl (inl (inl (inl w))))) = hit l.a l m (at_a l) w
spot_of_lem l m pr (inl (inl (inl (inl (inr w))))) = hit l.b l m (at_b l) w
spot_of_lem l m pr (inl (inl (inl (inr w)))) = turned (hit m.a m l (at_a m) w)
spot_of_lem l m pr (inl (inl (inr w))) = turned (hit m.b m l (at_b m) w)
spot_of_lem l m pr (inl (inr p)) = crosses l m pr p.0 p.1
spot_of_lem l m pr (inr e) = ends_agree l m pr e.0 e.1

-- ---- A spot: the test passes

pub at? : (s : Spot) (p : Point) → AtPoint s p ⊎ (AtPoint s p → ⊥)
at? s p = go (ℕ_discrete s.X (p.x.0 * s.Z)) (ℕ_discrete s.Y (p.y.0 * s.Z))
  where
    go : Dec (s.X ≡ p.x.0 * s.Z) → Dec (s.Y ≡ p.y.0 * s.Z) → AtPoint s p ⊎ (AtPoint s p → ⊥)
    go (yes h) (yes k) = inl (record { same_x = h; same_y = k })
    go (yes h) (no k) = inr (λ t. k t.same_y)
    go (no h) k = inr (λ t. h t.same_x)

-- s - t and m - n, which a mean holds level, have two signs, or are both 0
balance : (v u s t m n : ℕ) → 0 < v → 0 < u → v * s + u * m ≡ v * t + u * n
    → (((t < s) × (m < n)) ⊎ ((s < t) × (n < m))) ⊎ ((s ≡ t) × (m ≡ n))
balance v u s t m n hv hu e = go (order s t) (order t s)
  where
    go : (s ≤ t) ⊎ (t < s) → (t ≤ s) ⊎ (s < t) → (((t < s) × (m < n)) ⊎ ((s < t) × (n < m))) ⊎ ((s ≡ t) × (m ≡ n))
    go (inr h) k = inl (inl (h, lt_of_mul-lt-mul_left u (omega (arith, mul-lt-mul_of_pos_left h hv))))
    go (inl h) (inr k) = inl (inr (k, lt_of_mul-lt-mul_left u (omega (arith, mul-lt-mul_of_pos_left k hv))))
    go (inl h) (inl k) = let f : s ≡ t = omega arith in inr (f, cancel u hu (omega (arith, v · f)))

-- the ends of l lie on the two sides of m, or both in its straight line
sides : {s : Spot} {l m : Line} (w : Weighed s l) → 0 < w.v → 0 < w.u → OnLine s m → Parts m l ⊎ (Even m l.a × Even m l.b)
sides {s} {l} {m} w hv hu o =
    balance w.v w.u _ _ _ _ hv hu (sym (mean_lefts w m.a m.b) ∙ (w.k · straight_of o) ∙ mean_rights w m.a m.b)

-- the spot is a point, and no end of m
ending : (s : Spot) (p : Point) (m : Line) → Proper m → AtPoint s p → OnLine s m → (AtEnd s m → ⊥) → Within p m
unfolding spot_of
ending s p m pm h o f =
    let w = weights pm o in
    let i = inner w f in
    within_by p pm (record { k = w.k * s.Z; v = w.v; u = w.u; some = mul-pos w.some s.some; at_x = omega (arith, w.k · h.same_x, w.at_x); at_y = omega (arith, w.k · h.same_y, w.at_y); at_z = omega (arith, w.at_z) }) i.0 i.1

-- a line in m's straight line does not part m
never : (l m : Line) → Parts l m → Even m l.a × Even m l.b → ⊥
never l m (inl p) e = omega (arith, p, e)
never l m (inr p) e = omega (arith, p, e)

inside : {s : Spot} (l m : Line) → Proper l → Proper m → OnLine s l → OnLine s m → (AtEnd s l → ⊥) → (AtEnd s m → ⊥) → Clash l m
inside l m pl pm ol om nl nm =
    let w = weights pl ol in
    let z = weights pm om in
    let (wv, wu) = inner w nl in
    let (zv, zu) = inner z nm in
    elim (sides z zv zu ol) [
      | inl p ↦ elim (sides w wv wu om) [ inl q ↦ inl (inr (p, q)) | inr e ↦ absurd (never l m p e) ]
      | inr d ↦ elim (sides w wv wu om) [
        | inl q ↦ absurd (never m l q d)
        | inr e ↦ held_clash (overlap l (ahead l pl) m pl pm w wv wu z e.0 e.1 d.0 d.1)
      ]
    ]

clash_of : (l m : Line) → Proper l → Proper m → Conflicts l m → Clash l m
clash_of l m pl pm (s, ol, om, f) = go (at? s l.a) (at? s l.b) (at? s m.a) (at? s m.b)
  where
    go : AtPoint s l.a ⊎ (AtPoint s l.a → ⊥) → AtPoint s l.b ⊎ (AtPoint s l.b → ⊥)
        → AtPoint s m.a ⊎ (AtPoint s m.a → ⊥) → AtPoint s m.b ⊎ (AtPoint s m.b → ⊥) → Clash l m
    go (inl h) i j k = held_clash (a_in (ending s l.a m pm h om (λ e. f (inl h, e))))
    go (inr h) (inl i) j k = held_clash (b_in (ending s l.b m pm i om (λ e. f (inr i, e))))
    go (inr h) (inr i) (inl j) k = held_clash (c_in (ending s m.a l pl j ol (λ e. f (e, inl j))))
    go (inr h) (inr i) (inr j) (inl k) = held_clash (d_in (ending s m.b l pl k ol (λ e. f (e, inr k))))
    go (inr h) (inr i) (inr j) (inr k) = inside l m pl pm ol om (⊎_elim h i) (⊎_elim j k)

pub conflict_iff : (l m : Line) → Proper l → Proper m → (conflict l m ≡ true) ↔ Conflicts l m
conflict_iff l m pl pm = Iff.trans (conflict_says l m) (spot_of_lem l m pl, clash_of l m pl pm)
