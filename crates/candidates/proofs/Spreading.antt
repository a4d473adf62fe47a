-- The loop that spreads candidates: one value written at the ends of four lists, each of which grows if its son is met.
use mathlib.Core.Path.{◌≡◌, refl, sym, ap, ◌∙◌}
use mathlib.Core.Bool.{Bool, true, false}
use mathlib.Core.List.{List, [], ◌∷◌, ◌++◌, append-nil, Memᴰ}
use Prim.Native.Nat.{ℕ, ◌+◌, ◌-◌, ◌≤◌, ◌<◌}
use native.Mathlib.Nat.{add-zero}
use native.Mathlib.Numerals.{add-one}
use native.Mathlib.Omega.{arith}
use Rattle.std.specs.Int.{from_bool}
use lib.ListN.{length, take, get_or, set, length-set}
use lib.Seq.{slice, get_or-drop, get_or-take, take-set-le, get_or-set_same, get_or-set_other, slice_empty, length-slice}
use Rattle.algebra.specs.Lists.{those_append, one_yes, one_no, slice_same, slice_snoc, slice_high, slice_low, mem_at}
use Rattle.algebra.specs.Words.{those}
use Rattle.definitions.specs.Shape.{Block, nw_of, ne_of, sw_of, se_of, meets}
use Rattle.definitions.specs.Tables.{line_at}
use Rattle.meaning.specs.Rules.{meets_ends}
use Rattle.geometry.specs.declared.Line.{Line}
use Rattle.geometry.specs.declared.Sons.{Sons}
use Rattle.geometry.specs.Means.{line_of, SonsAsked, SonsMet}
use Rattle.tables.specs.Rows.{OnMap, IsLine, line_ends}
use Rattle.candidates.specs.declared.Span.{Span}
use Rattle.candidates.specs.Spread.{meets_at, Spreadable}

-- ---- one list: its part at .. end holds those of the first candidates that pass
pub record Fills (p : ℕ → Bool) (slots₀ slots : List ℕ) (from i at end : ℕ) : Type 0 where
  pub up : at ≤ end
  pub few : end + from ≤ at + i
  pub holds : slice at end slots ≡ those p (slice from i slots₀)

fills_none : (p : ℕ → Bool) (s₀ : List ℕ) (from at : ℕ) → Fills p s₀ s₀ from from at at
unfolding those
fills_none p s₀ from at = record { up = omega arith; few = omega arith; holds = slice_empty at s₀ ∙ sym (ap (those p) (slice_empty from s₀)) }

module _ (p : ℕ → Bool) (s₀ l l' : List ℕ) (from i at end v : ℕ) (f : Fills p s₀ l from i at end) (lo : from ≤ i) (hi : i < length s₀)
    (this : get_or s₀ i 0 ≡ v) (room : end < length l') (put : get_or l' end 0 ≡ v) (same : slice at end l' ≡ slice at end l) where
  more : those p (slice from (i + 1) s₀) ≡ those p (slice from i s₀) ++ those p (v ∷ [])
  more = rw (add-one i, slice_snoc from i s₀ lo hi, this) (those_append p (slice from i s₀) (v ∷ []))

  fills_turn : (t : Bool) → p v ≡ t → Fills p s₀ l' from (i + 1) at (end + from_bool t)
  fills_turn true e =
      let u = f.up in
      let w = f.few in
      record { up = omega arith; few = omega arith; holds = rw (add-one end, slice_snoc at end l' u room, put, same, f.holds, more, one_yes p v e) }
  fills_turn false e =
      let u = f.up in
      let w = f.few in
      record { up = omega arith; few = omega arith; holds = rw (add-zero end, same, f.holds, more, one_no p v e) (sym (append-nil (those p (slice from i s₀)))) }

-- ---- one value written at four rising places
abbrev pub put4 : List ℕ → ℕ → ℕ → ℕ → ℕ → ℕ → List ℕ
put4 l v i j k m = set (set (set (set l i v) j v) k v) m v

length4 : (l : List ℕ) (v i j k m : ℕ) → length (put4 l v i j k m) ≡ length l
length4 l v i j k m = simp length-set

module _ (l : List ℕ) (v i j k m : ℕ) (ij : i < j) (jk : j < k) (km : k < m) (ml : m < length l) where
  below4 : (f : ℕ) → f ≤ i → take f (put4 l v i j k m) ≡ take f l
  below4 f h =
      take-set-le f (set (set (set l i v) j v) k v) m v (omega arith)
      ∙ take-set-le f (set (set l i v) j v) k v (omega arith) ∙ take-set-le f (set l i v) j v (omega arith) ∙ take-set-le f l i v h

  ne : (a b : ℕ) → a < b → a ≡ b → ⊥
  ne a b h e = omega arith

  get_m : get_or (put4 l v i j k m) m 0 ≡ v
  get_m = get_or-set_same (set (set (set l i v) j v) k v) m v 0 (simp length-set ml)

  get_k : get_or (put4 l v i j k m) k 0 ≡ v
  get_k = get_or-set_other (set (set (set l i v) j v) k v) m k v 0 (ne k m km) ∙ get_or-set_same (set (set l i v) j v) k v 0 (simp length-set (omega arith))

  get_j : get_or (put4 l v i j k m) j 0 ≡ v
  get_j =
      get_or-set_other (set (set (set l i v) j v) k v) m j v 0 (ne j m (omega arith))
      ∙ get_or-set_other (set (set l i v) j v) k j v 0 (ne j k jk) ∙ get_or-set_same (set l i v) j v 0 (simp length-set (omega arith))

  get_i : get_or (put4 l v i j k m) i 0 ≡ v
  get_i =
      get_or-set_other (set (set (set l i v) j v) k v) m i v 0 (ne i m (omega arith))
      ∙ get_or-set_other (set (set l i v) j v) k i v 0 (ne i k (omega arith)) ∙ get_or-set_other (set l i v) j i v 0 (ne i j ij) ∙ get_or-set_same l i v 0 (omega arith)

  keep_i : (a : ℕ) → slice a i (put4 l v i j k m) ≡ slice a i l
  keep_i a = slice_same a i i l (put4 l v i j k m) (omega arith) (below4 i (omega arith))

  keep_j : (a : ℕ) → a ≤ j → i < a → slice a j (put4 l v i j k m) ≡ slice a j l
  keep_j a h g = slice_high a j m v _ (omega arith) ∙ slice_high a j k v _ (omega arith) ∙ slice_high a j j v _ (omega arith) ∙ slice_low a j i v l h g

  keep_k : (a : ℕ) → a ≤ k → j < a → slice a k (put4 l v i j k m) ≡ slice a k l
  keep_k a h g = slice_high a k m v _ (omega arith) ∙ slice_high a k k v _ (omega arith) ∙ slice_low a k j v _ h g ∙ slice_low a k i v l h (omega arith)

  keep_m : (a : ℕ) → a ≤ m → k < a → slice a m (put4 l v i j k m) ≡ slice a m l
  keep_m a h g = slice_high a m m v _ (omega arith) ∙ slice_low a m k v _ h g ∙ slice_low a m j v _ h (omega arith) ∙ slice_low a m i v l h (omega arith)

met_is : (k : Block) {lines : List ℕ} {s : ℕ} {r : Line} → IsLine lines s r → meets k (line_of r) ≡ meets_at lines k s
unfolding meets_at
met_is k {lines} {s} {r} e = meets_ends k (line_of r) (line_at lines s) (e.a_is, e.b_is)

-- ---- the loop's invariant: four lists, n apart
pub record Turned (lines : List ℕ) (kb : Block) (from to free n : ℕ) (s₀ slots : List ℕ) (nw ne sw se i : ℕ) : Type 0 where
  pub lo : from ≤ i
  pub hi : i ≤ to
  pub len : length slots ≡ length s₀
  pub below : take free slots ≡ take free s₀
  pub f_nw : Fills (meets_at lines (nw_of kb)) s₀ slots from i free nw
  pub f_ne : Fills (meets_at lines (ne_of kb)) s₀ slots from i (free + n) ne
  pub f_sw : Fills (meets_at lines (sw_of kb)) s₀ slots from i (free + n + n) sw
  pub f_se : Fills (meets_at lines (se_of kb)) s₀ slots from i (free + n + n + n) se

module _ {lines s₀ : List ℕ} {c : Span} {kb : Block} (asked : Spreadable lines s₀ c kb) where
  abbrev n : ℕ
  n = c.to - c.from

  pub turned_none : Turned lines kb c.from c.to c.free n s₀ s₀ c.free (c.free + n) (c.free + n + n) (c.free + n + n + n) c.from
  turned_none =
      record {
        lo = omega arith;
        hi = asked.span;
        len = refl;
        below = refl;
        f_nw = fills_none _ s₀ c.from c.free;
        f_ne = fills_none _ s₀ c.from (c.free + n);
        f_sw = fills_none _ s₀ c.from (c.free + n + n);
        f_se = fills_none _ s₀ c.from (c.free + n + n + n);
      }

  module _ {slots : List ℕ} {nw ne sw se i : ℕ} (t : Turned lines kb c.from c.to c.free n s₀ slots nw ne sw se i) (h : i < c.to) where
    abbrev v : ℕ
    v = get_or slots i 0

    this_is : get_or s₀ i 0 ≡ v
    this_is =
        let b = asked.below in
        sym (sym (get_or-take c.free slots i 0 (omega arith)) ∙ ap (λ (z : List ℕ). get_or z i 0) t.below ∙ get_or-take c.free s₀ i 0 (omega arith))

    in_table : i < length s₀
    in_table = omega arith

    among : Memᴰ v (slice c.from c.to s₀)
    among = rw (is ∙ this_is) at (mem_at (slice c.from c.to s₀) (i - c.from) (rw (length-slice c.from c.to s₀ (omega arith)) (omega arith)))
      where
        step : c.from + (i - c.from) ≡ i
        step = omega arith

        is : get_or (slice c.from c.to s₀) (i - c.from) 0 ≡ get_or s₀ i 0
        is = get_or-drop c.from (take c.to s₀) (i - c.from) 0 ∙ ap (λ (j : ℕ). get_or (take c.to s₀) j 0) step ∙ get_or-take c.to s₀ i 0 h

    pub on_map : OnMap lines v
    on_map = asked.on_map v among

    module _ {r : Line} (e : IsLine lines v r) where
      pub sons_asked : SonsAsked kb (line_of r)
      sons_asked = record { wide = asked.wide; tall = asked.tall; ends = line_ends (asked.on_map v among) e; even = asked.even; met = meets_ends kb (line_of r) (line_at lines v) (e.a_is, e.b_is) ∙ asked.met v among }

      module _ (m : Sons Bool) (q : SonsMet kb (line_of r) m.nw m.ne m.sw m.se) where
        pub turned_on : Turned lines kb c.from c.to c.free n s₀ (put4 slots v nw ne sw se) (nw + from_bool m.nw) (ne + from_bool m.ne) (sw + from_bool m.sw) (se + from_bool m.se) (i + 1)
        turned_on =
            record {
              lo = omega arith;
              hi = omega arith;
              len = len' ∙ t.len;
              below = below4 slots v nw ne sw se o1 o2 o3 o4 c.free t.f_nw.up ∙ t.below;
              f_nw = turn (nw_of kb) c.free nw t.f_nw (omega (arith, len')) (get_i slots v nw ne sw se o1 o2 o3 o4) (keep_i slots v nw ne sw se o1 o2 o3 o4 c.free) m.nw q.nw;
              f_ne =
                  turn (ne_of kb) (c.free + n) ne t.f_ne (omega (arith, len')) (get_j slots v nw ne sw se o1 o2 o3 o4)
                  (keep_j slots v nw ne sw se o1 o2 o3 o4 (c.free + n) t.f_ne.up (omega arith)) m.ne q.ne;
              f_sw =
                  turn (sw_of kb) (c.free + n + n) sw t.f_sw (omega (arith, len')) (get_k slots v nw ne sw se o1 o2 o3 o4)
                  (keep_k slots v nw ne sw se o1 o2 o3 o4 (c.free + n + n) t.f_sw.up (omega arith)) m.sw q.sw;
              f_se =
                  turn (se_of kb) (c.free + n + n + n) se t.f_se (omega (arith, len')) (get_m slots v nw ne sw se o1 o2 o3 o4)
                  (keep_m slots v nw ne sw se o1 o2 o3 o4 (c.free + n + n + n) t.f_se.up (omega arith)) m.se q.se;
            }
          where
            l' : List ℕ
            l' = put4 slots v nw ne sw se

            len' : length l' ≡ length slots
            len' = length4 slots v nw ne sw se

            o1 : nw < ne
            o1 = omega arith

            o2 : ne < sw
            o2 = omega arith

            o3 : sw < se
            o3 = omega arith

            o4 : se < length slots
            o4 = omega arith

            turn : (k : Block) (at end : ℕ) → Fills (meets_at lines k) s₀ slots c.from i at end → end < length l' → get_or l' end 0 ≡ v → slice at end l' ≡ slice at end slots
                → (b : Bool) → b ≡ meets k (line_of r) → Fills (meets_at lines k) s₀ l' c.from (i + 1) at (end + from_bool b)
            turn k at end f room put same b d = fills_turn _ s₀ slots l' c.from i at end v f t.lo in_table this_is room put same b (sym (met_is k e) ∙ sym d)
