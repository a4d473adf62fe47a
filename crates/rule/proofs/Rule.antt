-- The rule of division by the ends of the first line, of lines that all meet the block.
use mathlib.Core.Path.{◌≡◌, refl, sym, ap, ap₂, ◌∙◌, subst}
use mathlib.Core.Logic.{◌⊎◌, inl, inr}
use mathlib.Core.Bool.{Bool, true, false, not, ◌&&◌}
use mathlib.Core.List.Memᴰ
use mathlib.Core.List.{List, [], ◌∷◌, map, Memᴰ}
use Prim.Native.Nat.{ℕ}
use native.Mathlib.Omega.{arith}
use lib.ListN.{length}
use borrow.Author.Tests.{not-true}
use Rattle.algebra.specs.Lists.{every→, every←, those_yes, one_yes}
use Rattle.algebra.specs.Tests.{no_path, both→, both←, both_ways, false_by, or_l, or_r}
use Rattle.algebra.specs.Words.{those, every}
use Rattle.definitions.specs.declared.Point.{Point}
use Rattle.definitions.specs.Shape.{Line, Block, meets, inside, same_point, is_end}
use Rattle.definitions.specs.Tables.{line_at}
use Rattle.definitions.specs.Tree.{ends_of, simple, simple_with}
use Rattle.plane.specs.Ends.{same_refl, same_path, end_cases}
use Rattle.meaning.specs.Fewer.{in_ends_a, in_ends_b, Simple, simple→, simple←}
use Rattle.meaning.specs.Rules.{of_ends, in_ends}
use Rattle.geometry.specs.declared.Line as code
use Rattle.geometry.specs.Means.{line_of}
use Rattle.tables.specs.Rows.{IsLine}
use Rattle.rule.specs.Rule.{hangs, hangs_at, Candidate, Candidates}

-- ---- a line that hangs on v
module _ (k : Block) (v : Point) (l : Line) where
  pub hangs_first : same_point l.a v ≡ true → hangs k v l ≡ not (inside k l.b)
  unfolding hangs
  hangs_first e = rw (e, hangs) refl

  pub hangs_second : same_point l.a v ≡ false → hangs k v l ≡ same_point l.b v && not (inside k l.a)
  unfolding hangs
  hangs_second e = rw (e, hangs) refl

abbrev Ends : Point → Point → Line → Type 0
Ends v w l = ((v ≡ l.a) × (w ≡ l.b)) ⊎ ((v ≡ l.b) × (w ≡ l.a))

-- v is an end of the line, and the other lies outside
record Hung (k : Block) (v : Point) (l : Line) : Type 0 where
  other : Point
  ends : Ends v other l
  out : inside k other ≡ false

hung→ : (k : Block) (v : Point) (l : Line) → hangs k v l ≡ true → Hung k v l
hung→ k v l h = go (same_point l.a v) refl
  where
    go : (t : Bool) → same_point l.a v ≡ t → Hung k v l
    go true e = record { other = l.b; ends = inl (sym (same_path l.a v e), refl); out = not-true _ (sym (hangs_first k v l e) ∙ h) }
    go false e =
        let q = both→ _ _ (sym (hangs_second k v l e) ∙ h) in
        record { other = l.a; ends = inr (sym (same_path l.b v q.0), refl); out = not-true _ q.1 }

hung← : (k : Block) (v : Point) (l : Line) → same_point l.a l.b ≡ false → Hung k v l → hangs k v l ≡ true
hung← k v l p h = go h.ends
  where
    go : Ends v h.other l → hangs k v l ≡ true
    go (inl e) = hangs_first k v l (rw e.0 (same_refl l.a)) ∙ ap (λ (q : Point). not (inside k q)) (sym e.1) ∙ ap not h.out
    go (inr e) = hangs_second k v l (rw e.0 p) ∙ rw (e.0, same_refl l.b, ← e.1, h.out)

module _ (k : Block) (v : Point) (l : Line) (h : Hung k v l) where
  hung_end : is_end v l ≡ true
  unfolding is_end
  hung_end = go h.ends
    where
      go : Ends v h.other l → is_end v l ≡ true
      go (inl e) = or_l (same_point v l.a) (same_point v l.b) (rw e.0 (same_refl l.a))
      go (inr e) = or_r (same_point v l.a) (same_point v l.b) (rw e.0 (same_refl l.b))

  -- v is its only end inside
  hung_only : (q : Point) → (q ≡ l.a) ⊎ (q ≡ l.b) → inside k q ≡ true → v ≡ q
  hung_only q c i = go h.ends c
    where
      not_other : {A : Type 0} → h.other ≡ q → A
      not_other e = no_path (sym h.out ∙ ap (inside k) e ∙ i)

      go : Ends v h.other l → (q ≡ l.a) ⊎ (q ≡ l.b) → v ≡ q
      go (inl e) (inl f) = e.0 ∙ sym f
      go (inl e) (inr f) = not_other (e.1 ∙ sym f)
      go (inr e) (inl f) = not_other (e.1 ∙ sym f)
      go (inr e) (inr f) = e.0 ∙ sym f

-- ---- the first line has one end inside, and hangs on it
module _ (k : Block) (v : Point) (l : Line) (ls : List Line) (hv : inside k v ≡ true) (first : Hung k v l)
    (meet : (m : Line) → Memᴰ m ls → meets k m ≡ true) (proper : (m : Line) → Memᴰ m ls → same_point m.a m.b ≡ false) where
  v_in : Memᴰ v (ends_of (l ∷ ls))
  v_in = in_ends (Memᴰ.head refl) (end_cases v l (hung_end k v l first))

  all_hung : every (hangs k v) ls ≡ true → {m : Line} → Memᴰ m (l ∷ ls) → Hung k v m
  all_hung h (Memᴰ.head e) = subst (λ (z : Line). Hung k v z) (sym e) first
  all_hung h (Memᴰ.tail mem) = hung→ k v _ (every→ (hangs k v) ls h mem)

  back : every (hangs k v) ls ≡ true → simple (l ∷ ls) k ≡ true
  back h =
      simple← (l ∷ ls) k
      (inl (record {
        end = v;
        here = hv;
        only = λ q m i. let o = of_ends (l ∷ ls) m in rw (hung_only k v o.0 (all_hung h o.1) q o.2 i) (same_refl q);
        shared = λ m mem e. hung_end k v m (all_hung h mem);
      }))

  forth : simple (l ∷ ls) k ≡ true → every (hangs k v) ls ≡ true
  forth h = go (simple→ (l ∷ ls) k h)
    where
      go : Simple (l ∷ ls) k → every (hangs k v) ls ≡ true
      go (inr n) = absurd (n.empty v v_in hv)
      go (inl o) = every← (hangs k v) ls (λ m mem. hung← k v m (proper m mem) (this m mem (end_cases o.end m (o.shared m (Memᴰ.tail mem) (meet m mem)))))
        where
          is_v : o.end ≡ v
          is_v = same_path o.end v (o.only v v_in hv)

          out : (q : Point) → Memᴰ q (ends_of (l ∷ ls)) → (o.end ≡ q → ⊥) → inside k q ≡ false
          out q mem f = false_by (inside k q) (λ i. f (same_path o.end q (o.only q mem i)))

          this : (m : Line) → Memᴰ m ls → (o.end ≡ m.a) ⊎ (o.end ≡ m.b) → Hung k v m
          this m mem (inl e) =
              record {
                other = m.b;
                ends = inl (sym is_v ∙ e, refl);
                out = out m.b (in_ends_b (Memᴰ.tail mem)) (λ f. no_path (sym (proper m mem) ∙ ap (same_point m.a) (sym f ∙ e) ∙ same_refl m.a));
              }
          this m mem (inr e) =
              record {
                other = m.a;
                ends = inr (sym is_v ∙ e, refl);
                out = out m.a (in_ends_a (Memᴰ.tail mem)) (λ f. no_path (sym (proper m mem) ∙ ap (same_point m.a) (sym e ∙ f) ∙ same_refl m.a));
              }

  simple_hung : every (hangs k v) ls ≡ simple (l ∷ ls) k
  simple_hung = both_ways _ _ back forth

-- ---- both its ends inside
simple_both : (k : Block) (l : Line) (ls : List Line) → same_point l.a l.b ≡ false → inside k l.a ≡ true → inside k l.b ≡ true → false ≡ simple (l ∷ ls) k
simple_both k l ls p ha hb = sym (false_by _ (λ h. go (simple→ (l ∷ ls) k h)))
  where
    go : Simple (l ∷ ls) k → ⊥
    go (inr n) = n.empty l.a (in_ends_a (Memᴰ.head refl)) ha
    go (inl o) =
        no_path
        (sym p
        ∙ ap (same_point l.a)
        (sym (same_path o.end l.b (o.only l.b (in_ends_b (Memᴰ.head refl)) hb)) ∙ same_path o.end l.a (o.only l.a (in_ends_a (Memᴰ.head refl)) ha))
        ∙ same_refl l.a)

-- ---- neither inside
module _ (k : Block) (l : Line) (ha : inside k l.a ≡ false) (hb : inside k l.b ≡ false) (ml : meets k l ≡ true) where
  out : {q : Point} → (q ≡ l.a) ⊎ (q ≡ l.b) → inside k q ≡ true → ⊥
  out (inl e) i = no_path (sym ha ∙ ap (inside k) (sym e) ∙ i)
  out (inr e) i = no_path (sym hb ∙ ap (inside k) (sym e) ∙ i)

  simple_alone : true ≡ simple (l ∷ []) k
  simple_alone = sym (simple← (l ∷ []) k (inr (record { empty = λ q m i. none q (of_ends (l ∷ []) m) i; one = rw (one_yes (meets k) l ml) (omega arith) })))
    where
      none : (q : Point) → (m : Line) × Memᴰ m (l ∷ []) × ((q ≡ m.a) ⊎ (q ≡ m.b)) → inside k q ≡ true → ⊥
      none q (m, mem, c) i = out (subst (λ (z : Line). (q ≡ z.a) ⊎ (q ≡ z.b)) (Memᴰ.eq_of_singleton mem) c) i

  simple_many : (m : Line) (ls : List Line) → meets k m ≡ true → false ≡ simple (l ∷ m ∷ ls) k
  simple_many m ls mm = sym (false_by _ (λ h. go (simple→ (l ∷ m ∷ ls) k h)))
    where
      two : those (meets k) (l ∷ m ∷ ls) ≡ l ∷ m ∷ those (meets k) ls
      two = those_yes (meets k) l (m ∷ ls) ml ∙ ap (λ (z : List Line). l ∷ z) (those_yes (meets k) m ls mm)

      go : Simple (l ∷ m ∷ ls) k → ⊥
      go (inl o) = out (end_cases o.end l (o.shared l (Memᴰ.head refl) ml)) o.here
      go (inr n) = let h = n.one in let e = ap length two in omega arith

-- ---- the slots, one after another
pub hangs_is : (k : Block) (v : Point) {lines : List ℕ} {s : ℕ} {r : code.Line} → IsLine lines s r → hangs k v (line_of r) ≡ hangs_at lines k v s
unfolding hangs_at hangs
hangs_is k v {lines} {s} {r} e = λ i. hangs k v (record { slot = 0; a = e.a_is i; b = e.b_is i })

pub hangs_told : (k : Block) (v : Point) {lines : List ℕ} {s : ℕ} {r : code.Line} {b : Bool} → IsLine lines s r → b ≡ hangs k v (line_of r) → b ≡ hangs_at lines k v s
hangs_told k v e t = t ∙ hangs_is k v e

every_map : (lines : List ℕ) (k : Block) (v : Point) (xs : List ℕ) → every (hangs_at lines k v) xs ≡ every (hangs k v) (map (line_at lines) xs)
unfolding every hangs_at
every_map lines k v [] = refl
every_map lines k v (x ∷ xs) = ap (λ (z : Bool). elim (hangs k v (line_at lines x)) [ true ↦ z | false ↦ false ]) (every_map lines k v xs)

-- ---- the cases of the code
pub both_told : {p q a b t : Bool} → p ≡ a → q ≡ b → p && q ≡ t → a && b ≡ t
both_told e f h = sym (ap₂ (λ (p q : Bool). p && q) e f) ∙ h

pub first_candidate : {lines : List ℕ} {k : Block} {slots : List ℕ} {x : ℕ} {rest : List ℕ} → slots ≡ x ∷ rest → Candidates lines k slots → Candidate lines k x
first_candidate {x = x} e c = c x (rw e (Memᴰ.head refl))

pub no_candidate : (lines : List ℕ) (k : Block) (slots : List ℕ) → length slots ≡ 0 → true ≡ simple (map (line_at lines) slots) k
unfolding simple simple_with those ends_of
no_candidate lines k [] e = refl
no_candidate lines k (x ∷ xs) e = absurd (omega arith)

-- r is the line of the first slot
pub record First (lines : List ℕ) (k : Block) (slots : List ℕ) (x : ℕ) (rest : List ℕ) (r : code.Line) : Type 0 where
  pub whole : slots ≡ x ∷ rest
  pub candidates : Candidates lines k slots
  pub is : IsLine lines x r

pub first_of : {lines : List ℕ} {k : Block} {slots : List ℕ} {x : ℕ} {rest : List ℕ} {r : code.Line} → slots ≡ x ∷ rest → Candidates lines k slots → IsLine lines x r → First lines k slots x rest r
first_of e c i = record { whole = e; candidates = c; is = i }

module _ {lines : List ℕ} {k : Block} {slots : List ℕ} {x : ℕ} {rest : List ℕ} {r : code.Line} (f : First lines k slots x rest r) where
  all_is : simple (line_at lines x ∷ map (line_at lines) rest) k ≡ simple (map (line_at lines) slots) k
  all_is = ap (λ (z : List ℕ). simple (map (line_at lines) z) k) (sym f.whole)

  candidate : {s : ℕ} → Memᴰ s (x ∷ rest) → Candidate lines k s
  candidate {s} m = f.candidates s (subst (λ (z : List ℕ). Memᴰ s z) (sym f.whole) m)

  met : {s : ℕ} → Memᴰ s (x ∷ rest) → meets k (line_at lines s) ≡ true
  met m = (candidate m).met

  pub rest_candidates : Candidates lines k rest
  rest_candidates = λ s m. candidate (Memᴰ.tail m)

  -- v is the end inside, w the other
  hung_on : (v w : Point) → inside k v ≡ true → inside k w ≡ false → Ends v w (line_at lines x) → every (hangs_at lines k v) rest ≡ simple (map (line_at lines) slots) k
  hung_on v w hv hw ends =
      every_map lines k v rest
      ∙ simple_hung k v (line_at lines x) (map (line_at lines) rest) hv (record { other = w; ends = ends; out = hw })
      (λ m mem. let o = Memᴰ.of_map (line_at lines) rest mem in ap (meets k) (sym o.2) ∙ met (Memᴰ.tail o.1))
      (λ m mem. let o = Memᴰ.of_map (line_at lines) rest mem in ap (λ (z : Line). same_point z.a z.b) (sym o.2) ∙ (candidate (Memᴰ.tail o.1)).good.proper)
      ∙ all_is

  first : inside k (line_at lines x).a ≡ inside k r.a
  first = ap (inside k) (sym f.is.a_is)

  second : inside k (line_at lines x).b ≡ inside k r.b
  second = ap (inside k) (sym f.is.b_is)

  pub both_inside : inside k r.a && inside k r.b ≡ true → false ≡ simple (map (line_at lines) slots) k
  both_inside h =
      let q = both→ _ _ h in
      simple_both k (line_at lines x) (map (line_at lines) rest) (candidate (Memᴰ.head refl)).good.proper (first ∙ q.0) (second ∙ q.1) ∙ all_is

  pub first_inside : inside k r.a ≡ true → inside k r.a && inside k r.b ≡ false → every (hangs_at lines k r.a) rest ≡ simple (map (line_at lines) slots) k
  first_inside ha h = hung_on r.a r.b ha (false_by _ (λ hb. no_path (sym h ∙ both← ha hb))) (inl (f.is.a_is, f.is.b_is))

  pub second_inside : inside k r.a ≡ false → inside k r.b ≡ true → every (hangs_at lines k r.b) rest ≡ simple (map (line_at lines) slots) k
  second_inside ha hb = hung_on r.b r.a hb ha (inr (f.is.b_is, f.is.a_is))

  module _ (ha : inside k r.a ≡ false) (hb : inside k r.b ≡ false) where
    alone_inside : rest ≡ [] → true ≡ simple (map (line_at lines) slots) k
    alone_inside e =
        simple_alone k (line_at lines x) (first ∙ ha) (second ∙ hb) (met (Memᴰ.head refl))
        ∙ ap (λ (z : List ℕ). simple (line_at lines x ∷ map (line_at lines) z) k) (sym e) ∙ all_is

    pub many : (length rest ≡ 0 → ⊥) → false ≡ simple (map (line_at lines) slots) k
    many n = go rest refl
      where
        go : (l : List ℕ) → rest ≡ l → false ≡ simple (map (line_at lines) slots) k
        go [] e = absurd (n (ap length e))
        go (y ∷ ys) e =
            simple_many k (line_at lines x) (first ∙ ha) (second ∙ hb) (met (Memᴰ.head refl)) (line_at lines y) (map (line_at lines) ys) (met (Memᴰ.tail (rw e (Memᴰ.head refl))))
            ∙ ap (λ (z : List ℕ). simple (line_at lines x ∷ map (line_at lines) z) k) (sym e) ∙ all_is

  pub alone : length rest ≡ 0 → inside k r.a && inside k r.b ≡ false → true ≡ simple (map (line_at lines) slots) k
  alone n h = go (inside k r.a) refl (inside k r.b) refl
    where
      none : rest ≡ []
      none = empty rest n
        where
          empty : (l : List ℕ) → length l ≡ 0 → l ≡ []
          empty [] e = refl
          empty (y ∷ ys) e = absurd (omega arith)

      all : (v : Point) → true ≡ every (hangs_at lines k v) rest
      all v = unfold every in rw none refl

      go : (a : Bool) → inside k r.a ≡ a → (b : Bool) → inside k r.b ≡ b → true ≡ simple (map (line_at lines) slots) k
      go true ha b hb = all r.a ∙ first_inside ha h
      go false ha true hb = all r.b ∙ second_inside ha hb
      go false ha false hb = alone_inside ha hb none
