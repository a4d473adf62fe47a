-- The kind that `kind_of` tells of lines that conflict is the one that holds, and no two hold at once.
use Rattle.std.specs.Prelude.{◌≡◌, ◌↔◌, ◌⊎◌, Bool, ◌&&◌, if◌then◌else◌}
use Rattle.std.proofs.Math.Path.{refl}
use Rattle.std.proofs.Common.{sym, ◌∙◌, ap, subst, inl, inr, ⊎_elim, arith}
use Rattle.std.proofs.Math.Bool.{true, false}
use Rattle.algebra.specs.Tests.{no_path, both→, both←}
use Rattle.definitions.specs.declared.Point.{Point}
use Rattle.definitions.specs.declared.Kind.{Kind}
use Rattle.definitions.specs.declared.Kind.TheVariants.{Crossing, Touching, Overlap, Same}
use Rattle.definitions.specs.Shape.{Line, is_end, parts, conflict, in_line_of, kind_of}
use Rattle.definitions.specs.Meaning.{spot_of, Spot, OnLine, AtPoint, AtEnd, Conflicts, SameSpot, Shared, OnlyShared, TwoShared, SameEnds, KindIs}
use Rattle.plane.specs.Compare.{cancel, ◌·◌}
use Rattle.plane.specs.Says.{both}
use Rattle.plane.specs.Segments.{straight_of, Proper, differ}
use Rattle.plane.specs.Overlap.{Even}
use Rattle.plane.specs.Ends.{straight_says, same_says, same_refl, end_says, end_cases}
use Rattle.plane.specs.Crossing.{Clash, Parts, parts_says, conflict_says, at?, at_a, at_b, crosses, ends_agree}
use Rattle.plane.specs.OneShared.{one_spot}
use Rattle.plane.specs.MoreShared.{two_a, two_b, two_c, two_d}

-- ---- The kind that is told holds

point_at : {p q : Point} → p ≡ q → AtPoint (spot_of p) q
point_at {p} e = subst (AtPoint (spot_of p)) e ((same_says p p).0 (same_refl p))

-- a spot at a point, on a line: the point is in its straight line
at_even : (s : Spot) (p : Point) (l : Line) → AtPoint s p → OnLine s l → Even l p
at_even s p l h o = cancel s.Z s.some (omega (arith, straight_of o, l.b.x.0 · h.same_y, l.a.y.0 · h.same_x, l.a.x.0 · h.same_y, l.b.y.0 · h.same_x))

no_parts : (l m : Line) → Parts l m → Even l m.a ⊎ Even l m.b → ⊥
no_parts l m (inl p) (inl e) = omega (arith, p.0, e)
no_parts l m (inl p) (inr e) = omega (arith, p.1, e)
no_parts l m (inr p) (inl e) = omega (arith, p.0, e)
no_parts l m (inr p) (inr e) = omega (arith, p.1, e)

in_line_says : (l m : Line) → (in_line_of l m ≡ true) ↔ (Even l m.a × Even l m.b)
unfolding in_line_of
in_line_says l m = both (straight_says l m.a) (straight_says l m.b)

same_ends : (l m : Line) → Proper l → is_end l.a m && is_end l.b m ≡ true → SameEnds l m
same_ends l m pl e = let t = both→ (is_end l.a m) (is_end l.b m) e in go (end_cases l.a m t.0) (end_cases l.b m t.1)
  where
    apart : {p : Point} → l.a ≡ p → l.b ≡ p → ⊥
    apart h k = let e : l.a ≡ l.b = h ∙ sym k in differ l pl (ap (λ (p : Point). p.x.0) e) (ap (λ (p : Point). p.y.0) e)

    go : (l.a ≡ m.a) ⊎ (l.a ≡ m.b) → (l.b ≡ m.a) ⊎ (l.b ≡ m.b) → SameEnds l m
    go (inl h) (inl k) = absurd (apart h k)
    go (inl h) (inr k) = inl (h, k)
    go (inr h) (inl k) = inr (h, k)
    go (inr h) (inr k) = absurd (apart h k)

module _ (l m : Line) (pl : Proper l) (pm : Proper m) (clash : conflict l m ≡ true) where
  -- the lines are not in one straight line: what is shared is one point
  module _ (n : in_line_of l m ≡ false) where
    not_even : Even l m.a × Even l m.b → ⊥
    not_even e = no_path (sym n ∙ (in_line_says l m).1 e)

    only : {s : Spot} → OnLine s l → OnLine s m → OnlyShared s l m
    only {s} ol om = record { shared = record { on_first = ol; on_second = om }; only = λ t h. one_spot l m pm h (record { on_first = ol; on_second = om }) not_even }

  crossing_told : in_line_of l m ≡ false → parts l m && parts m l ≡ true → KindIs l m Crossing
  crossing_told n e =
      let t = both→ (parts l m) (parts m l) e in
      let p = (parts_says l m).0 t.0 in
      let q = (parts_says m l).0 t.1 in
      let (s, ol, om, f) = crosses l m pl p q in (
        s,
        only n ol om,
        λ h. elim h [ inl i ↦ no_parts m l q (inl (at_even s l.a m i om)) | inr i ↦ no_parts m l q (inr (at_even s l.b m i om)) ],
        λ h. elim h [ inl i ↦ no_parts l m p (inl (at_even s m.a l i ol)) | inr i ↦ no_parts l m p (inr (at_even s m.b l i ol)) ],
      )

  overlap_told : is_end l.a m && is_end l.b m ≡ false → in_line_of l m ≡ true → KindIs l m Overlap
  overlap_told n e = let (ec, ed) = (in_line_says l m).0 e in (two ec ed ((conflict_says l m).0 clash), not_same)
    where
      not_same : SameEnds l m → ⊥
      not_same (inl h) = no_path (sym n ∙ (both← ((end_says l.a m).1 (inl (point_at h.0))) ((end_says l.b m).1 (inr (point_at h.1)))))
      not_same (inr h) = no_path (sym n ∙ (both← ((end_says l.a m).1 (inr (point_at h.0))) ((end_says l.b m).1 (inl (point_at h.1)))))

      two : Even l m.a → Even l m.b → Clash l m → TwoShared l m
      two ec ed (inl (inl (inl (inl (inl w))))) = two_a l m pl pm ec ed w
      two ec ed (inl (inl (inl (inl (inr w))))) = two_b l m pl pm ec ed w
      two ec ed (inl (inl (inl (inr w)))) = two_c l m pl pm ec ed w
      two ec ed (inl (inl (inr w))) = two_d l m pl pm ec ed w
      two ec ed (inl (inr p)) = absurd (no_parts l m p.0 (inl ec))
      two ec ed (inr (h, k)) = absurd (no_path (sym n ∙ (both← ((end_says l.a m).1 h) ((end_says l.b m).1 k))))

  touching_told : is_end l.a m && is_end l.b m ≡ false → in_line_of l m ≡ false → parts l m && parts m l ≡ false → KindIs l m Touching
  touching_told n i e = go ((conflict_says l m).0 clash)
    where
      go : Clash l m → KindIs l m Touching
      go (inl (inl (inl (inl (inl w))))) = (spot_of l.a, only i (at_a l) w.0, inl (inl (point_at refl), w.1))
      go (inl (inl (inl (inl (inr w))))) = (spot_of l.b, only i (at_b l) w.0, inl (inr (point_at refl), w.1))
      go (inl (inl (inl (inr w)))) = (spot_of m.a, only i w.0 (at_a m), inr (w.1, inl (point_at refl)))
      go (inl (inl (inr w))) = (spot_of m.b, only i w.0 (at_b m), inr (w.1, inr (point_at refl)))
      go (inl (inr p)) = absurd (no_path (sym e ∙ (both← ((parts_says l m).1 p.0) ((parts_says m l).1 p.1))))
      go (inr (h, k)) = absurd (no_path (sym n ∙ (both← ((end_says l.a m).1 h) ((end_says l.b m).1 k))))

  -- the kind told is the kind
  pub kind_told : KindIs l m (kind_of l m)
  unfolding kind_of
  kind_told = go (is_end l.a m && is_end l.b m) (in_line_of l m) (parts l m && parts m l) refl refl refl
    where
      go : (a b c : Bool) → is_end l.a m && is_end l.b m ≡ a → in_line_of l m ≡ b → parts l m && parts m l ≡ c → KindIs l m (if a then Same else if b then Overlap else if c then Crossing else Touching)
      go true b c e f g = same_ends l m pl e
      go false true c e f g = overlap_told e f
      go false false true e f g = crossing_told f g
      go false false false e f g = touching_told e f g

-- ---- No two kinds at once

at_same : {s t : Spot} {p : Point} → SameSpot s t → AtPoint s p → AtPoint t p
at_same {s} {t} {p} e h = record {
  same_x = cancel s.Z s.some (omega (arith, e.same_x, t.Z · h.same_x));
  same_y = cancel s.Z s.some (omega (arith, e.same_y, t.Z · h.same_y));
}

end_same : {s t : Spot} (l : Line) → SameSpot s t → AtEnd s l → AtEnd t l
end_same l e (inl h) = inl (at_same e h)
end_same l e (inr h) = inr (at_same e h)

same_turned : {s t : Spot} → SameSpot s t → SameSpot t s
same_turned e = record { same_x = sym e.same_x; same_y = sym e.same_y }

same_by : {r s t : Spot} → SameSpot r t → SameSpot s t → SameSpot r s
same_by {r} {s} {t} e f = record {
  same_x = cancel t.Z t.some (omega (arith, s.Z · e.same_x, r.Z · f.same_x));
  same_y = cancel t.Z t.some (omega (arith, s.Z · e.same_y, r.Z · f.same_y));
}

not_two : {s : Spot} {l m : Line} → OnlyShared s l m → TwoShared l m → ⊥
not_two o t = t.differ (same_by (o.only t.one t.one_shared) (o.only t.other t.other_shared))

-- lines with equal ends have them at the same spots
same_end : (s : Spot) (l m : Line) → SameEnds l m → AtEnd s l → AtEnd s m
same_end s l m (inl h) (inl i) = inl (rw (sym h.0) i)
same_end s l m (inl h) (inr i) = inr (rw (sym h.1) i)
same_end s l m (inr h) (inl i) = inr (rw (sym h.0) i)
same_end s l m (inr h) (inr i) = inl (rw (sym h.1) i)

same_turn : (l m : Line) → SameEnds l m → SameEnds m l
same_turn l m (inl h) = inl (sym h.0, sym h.1)
same_turn l m (inr h) = inr (sym h.1, sym h.0)

same_cross : (l m : Line) → SameEnds l m → KindIs l m Crossing → ⊥
same_cross l m e (s, o, n, k) = n (end_same l (o.only (spot_of l.a) (record { on_first = at_a l; on_second = on e })) (inl (point_at refl)))
  where
    on : SameEnds l m → OnLine (spot_of l.a) m
    on (inl h) = rw h.0 (at_a m)
    on (inr h) = rw h.0 (at_b m)

same_touch : (l m : Line) → SameEnds l m → KindIs l m Touching → ⊥
same_touch l m e (s, o, inl (h, i)) = i (same_end s l m e h)
same_touch l m e (s, o, inr (h, i)) = h (same_end s m l (same_turn l m e) i)

cross_touch : (l m : Line) → KindIs l m Crossing → KindIs l m Touching → ⊥
cross_touch l m (s, o, n, k) (t, p, inl (h, i)) = n (end_same l (o.only t p.shared) h)
cross_touch l m (s, o, n, k) (t, p, inr (h, i)) = k (end_same m (o.only t p.shared) i)

pub one_kind : (l m : Line) (j k : Kind) → KindIs l m j → KindIs l m k → j ≡ k
one_kind l m Crossing Crossing h i = refl
one_kind l m Crossing Touching h i = absurd (cross_touch l m h i)
one_kind l m Crossing Overlap (s, o, h, g) (t, i) = absurd (not_two o t)
one_kind l m Crossing Same h i = absurd (same_cross l m i h)
one_kind l m Touching Crossing h i = absurd (cross_touch l m i h)
one_kind l m Touching Touching h i = refl
one_kind l m Touching Overlap (s, o, h) (t, i) = absurd (not_two o t)
one_kind l m Touching Same h i = absurd (same_touch l m i h)
one_kind l m Overlap Crossing (t, i) (s, o, h, g) = absurd (not_two o t)
one_kind l m Overlap Touching (t, i) (s, o, h) = absurd (not_two o t)
one_kind l m Overlap Overlap h i = refl
one_kind l m Overlap Same (t, n) i = absurd (n i)
one_kind l m Same Crossing i h = absurd (same_cross l m i h)
one_kind l m Same Touching i h = absurd (same_touch l m i h)
one_kind l m Same Overlap i (t, n) = absurd (n i)
one_kind l m Same Same h i = refl

-- of lines that conflict, the test tells a kind exactly if it is that kind
pub kind_iff : (l m : Line) → Proper l → Proper m → conflict l m ≡ true → (k : Kind) → (kind_of l m ≡ k) ↔ KindIs l m k
kind_iff l m pl pm e k = (λ f. subst (KindIs l m) f (kind_told l m pl pm e), λ h. one_kind l m (kind_of l m) k (kind_told l m pl pm e) h)

-- ---- Lines conflict exactly if one of the four holds

-- one spot, one point
at_one : {s : Spot} {p q : Point} → AtPoint s p → AtPoint s q → p ≡ q
at_one {s} {p} {q} h k =
    let ex : p.x.0 ≡ q.x.0 = cancel s.Z s.some (omega (arith, h.same_x, k.same_x)) in
    let ey : p.y.0 ≡ q.y.0 = cancel s.Z s.some (omega (arith, h.same_y, k.same_y)) in
    λ i. record { x = record { 0 = ex i }; y = record { 0 = ey i } }

at_both : {s t : Spot} {p : Point} → AtPoint s p → AtPoint t p → SameSpot s t
at_both {s} {t} h k = record { same_x = omega (arith, t.Z · h.same_x, s.Z · k.same_x); same_y = omega (arith, t.Z · h.same_y, s.Z · k.same_y) }

-- two points that are ends of both: the lines are the same
ends_same : {s t : Spot} (l m : Line) → ¬ SameSpot s t → AtEnd s l → AtEnd s m → AtEnd t l → AtEnd t m → SameEnds l m
ends_same l m n (inl a) b (inl c) d = absurd (n (at_both a c))
ends_same l m n (inr a) b (inr c) d = absurd (n (at_both a c))
ends_same l m n (inl a) (inl b) (inr c) (inl d) = absurd (n (at_both b d))
ends_same l m n (inl a) (inl b) (inr c) (inr d) = inl (at_one a b, at_one c d)
ends_same l m n (inl a) (inr b) (inr c) (inl d) = inr (at_one a b, at_one c d)
ends_same l m n (inl a) (inr b) (inr c) (inr d) = absurd (n (at_both b d))
ends_same l m n (inr a) (inl b) (inl c) (inl d) = absurd (n (at_both b d))
ends_same l m n (inr a) (inl b) (inl c) (inr d) = inr (at_one c d, at_one a b)
ends_same l m n (inr a) (inr b) (inl c) (inl d) = inl (at_one c d, at_one a b)
ends_same l m n (inr a) (inr b) (inl c) (inr d) = absurd (n (at_both b d))

end? : (s : Spot) (l : Line) → AtEnd s l ⊎ ¬ AtEnd s l
end? s l = elim (at? s l.a) [ inl h ↦ inl (inl h) | inr h ↦ elim (at? s l.b) [ inl k ↦ inl (inr k) | inr k ↦ inr (⊎_elim h k) ] ]

two_conflict : (l m : Line) → TwoShared l m → ¬ SameEnds l m → Conflicts l m
two_conflict l m t n = go (end? t.one l) (end? t.one m) (end? t.other l) (end? t.other m)
  where
    at : {s : Spot} → Shared s l m → ¬ (AtEnd s l × AtEnd s m) → Conflicts l m
    at {s} h f = (s, h.on_first, h.on_second, f)

    go : AtEnd t.one l ⊎ ¬ AtEnd t.one l → AtEnd t.one m ⊎ ¬ AtEnd t.one m
        → AtEnd t.other l ⊎ ¬ AtEnd t.other l → AtEnd t.other m ⊎ ¬ AtEnd t.other m → Conflicts l m
    go (inr a) b c d = at t.one_shared (λ e. a e.0)
    go (inl a) (inr b) c d = at t.one_shared (λ e. b e.1)
    go (inl a) (inl b) (inr c) d = at t.other_shared (λ e. c e.0)
    go (inl a) (inl b) (inl c) (inr d) = at t.other_shared (λ e. d e.1)
    go (inl a) (inl b) (inl c) (inl d) = absurd (n (ends_same l m t.differ a b c d))

pub kind_conflicts : (l m : Line) → Proper l → (k : Kind) → KindIs l m k → Conflicts l m
kind_conflicts l m pl Crossing (s, o, f, g) = (s, o.shared.on_first, o.shared.on_second, λ b. f b.0)
kind_conflicts l m pl Touching (s, o, inl (h, f)) = (s, o.shared.on_first, o.shared.on_second, λ b. f b.1)
kind_conflicts l m pl Touching (s, o, inr (f, h)) = (s, o.shared.on_first, o.shared.on_second, λ b. f b.0)
kind_conflicts l m pl Overlap (t, n) = two_conflict l m t n
kind_conflicts l m pl Same (inl e) = ends_agree l m pl (inl (point_at e.0)) (inr (point_at e.1))
kind_conflicts l m pl Same (inr e) = ends_agree l m pl (inr (point_at e.0)) (inl (point_at e.1))
