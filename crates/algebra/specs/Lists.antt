-- The laws of the words for lists: filters, numbers in a row, padding, and a list laid over another.
use Rattle.std.specs.Prelude.{◌≡◌, ◌⊎◌, ◌↔◌, Bool, ◌&&◌, ℕ, zero, suc, ◌+◌, ◌-◌, ◌≤◌, ◌<◌, eqb, take, get_or, set, replicate}
use Rattle.std.proofs.Math.Path.{refl, sym, ap, subst}
use Rattle.std.proofs.Common.{◌∙◌, inl, inr, add-zero, suc-add, add-suc, add-one, drop_of_length-le, length-append, take-suc, take-take, length-take-le, drop-set-lt, eqb-true, eq-eqb}
use Rattle.std.specs.List.{list_all}
use Rattle.std.proofs.Math.Bool.{true, false}
use mathlib.Core.List.Memᴰ
use mathlib.Core.List.{List, [], ◌∷◌, ◌++◌, append-nil, Memᴰ}
use native.Mathlib.Omega.{arith}
use Rattle.std.proofs.Math.Decide.{dec_le}
use Rattle.std.proofs.Math.ListN.{length, drop}
use Rattle.std.proofs.lemmas.Grind.{get_or_default_zero}
use Rattle.std.proofs.lemmas.List.{length-replicate, drop-append-le, take-set-le}
use Rattle.std.proofs.Math.Seq.{slice, sets-eq, take-append_seam, drop-append_seam, take-nil, length-sets, take-set-lt}
use Rattle.algebra.specs.Words.{those, every, up_from, Rising, none, one, same_list, padded, over}
use Rattle.algebra.specs.Tests.{no_path, false_by}

-- ---- filters
module _ {A : Type 0} (p : A → Bool) where
  pub those_yes : (a : A) (more : List A) → p a ≡ true → those p (a ∷ more) ≡ a ∷ those p more
  unfolding those
  those_yes a more e = rw (e, those) refl

  pub those_no : (a : A) (more : List A) → p a ≡ false → those p (a ∷ more) ≡ those p more
  unfolding those
  those_no a more e = rw (e, those) refl

  every_yes : (a : A) (more : List A) → p a ≡ true → every p (a ∷ more) ≡ every p more
  unfolding every
  every_yes a more e = rw (e, every) refl

  every_no : (a : A) (more : List A) → p a ≡ false → every p (a ∷ more) ≡ false
  unfolding every
  every_no a more e = rw (e, every) refl

  pub in_those : {x : A} (xs : List A) → Memᴰ x xs → p x ≡ true → Memᴰ x (those p xs)
  in_those [] m h = absurd (Memᴰ.not-nil m)
  in_those (a ∷ more) (Memᴰ.head e) h = rw (those_yes a more (ap p (sym e) ∙ h)) (Memᴰ.head e)
  in_those {x} (a ∷ more) (Memᴰ.tail m) h = go (p a) refl (in_those more m h)
    where
      go : (t : Bool) → p a ≡ t → Memᴰ x (those p more) → Memᴰ x (those p (a ∷ more))
      go true e k = rw (those_yes a more e) (Memᴰ.tail k)
      go false e k = rw (those_no a more e) k

  pub of_those : {x : A} (xs : List A) → Memᴰ x (those p xs) → Memᴰ x xs × (p x ≡ true)
  unfolding those
  of_those [] m = absurd (Memᴰ.not-nil m)
  of_those {x} (a ∷ more) m = go (p a) refl (λ k. of_those more k)
    where
      first : p a ≡ true → Memᴰ x (a ∷ those p more) → (Memᴰ x (those p more) → Memᴰ x more × (p x ≡ true)) → Memᴰ x (a ∷ more) × (p x ≡ true)
      first e (Memᴰ.head f) k = (Memᴰ.head f, ap p f ∙ e)
      first e (Memᴰ.tail n) k = (Memᴰ.tail (k n).0, (k n).1)

      go : (t : Bool) → p a ≡ t → (Memᴰ x (those p more) → Memᴰ x more × (p x ≡ true)) → Memᴰ x (a ∷ more) × (p x ≡ true)
      go true e k = first e (rw (those_yes a more e) at m) k
      go false e k = let n = k (rw (those_no a more e) at m) in (Memᴰ.tail n.0, n.1)

  pub every→ : {x : A} (xs : List A) → every p xs ≡ true → Memᴰ x xs → p x ≡ true
  every→ [] e m = absurd (Memᴰ.not-nil m)
  every→ {x} (a ∷ more) e (Memᴰ.head f) = go (p a) refl
    where
      go : (t : Bool) → p a ≡ t → p x ≡ true
      go true h = ap p f ∙ h
      go false h = no_path (sym (every_no a more h) ∙ e)
  every→ {x} (a ∷ more) e (Memᴰ.tail m) = go (p a) refl (λ k. every→ more k m)
    where
      go : (t : Bool) → p a ≡ t → (every p more ≡ true → p x ≡ true) → p x ≡ true
      go true h k = k (sym (every_yes a more h) ∙ e)
      go false h k = no_path (sym (every_no a more h) ∙ e)

  pub every← : (xs : List A) → ((x : A) → Memᴰ x xs → p x ≡ true) → every p xs ≡ true
  unfolding every
  every← [] f = refl
  every← (a ∷ more) f = every_yes a more (f a (Memᴰ.head refl)) ∙ every← more (λ x m. f x (Memᴰ.tail m))

  -- the library's word for it, by which the contract of `all` speaks
  pub every_all : (xs : List A) → list_all p xs ≡ every p xs
  unfolding every
  every_all [] = refl
  every_all (x ∷ xs) = go (p x) (every_all xs)
    where
      go : (t : Bool) {a b : Bool} → a ≡ b → t && a ≡ elim t [ true ↦ b | false ↦ false ]
      go true e = e
      go false e = refl

module _ {A : Type 0} (q : A → Bool) where
  pub cons_those : (x : A) (xs ys : List A) → those q xs ≡ those q ys → those q (x ∷ xs) ≡ those q (x ∷ ys)
  unfolding those
  cons_those x xs ys h = ap (λ zs. elim (q x) [ true ↦ x ∷ zs | false ↦ zs ]) h

  -- a filter after a wider one
  pub those_those : (p : A → Bool) → ((x : A) → q x ≡ true → p x ≡ true) → (xs : List A) → those q (those p xs) ≡ those q xs
  unfolding those
  those_those p f [] = refl
  those_those p f (x ∷ xs) = go (p x) refl (those_those p f xs)
    where
      go : (b : Bool) → p x ≡ b → those q (those p xs) ≡ those q xs → those q (those p (x ∷ xs)) ≡ those q (x ∷ xs)
      go true e h = rw (those_yes p x xs e) (cons_those x (those p xs) xs h)
      go false e h = rw (those_no p x xs e) (h ∙ sym (those_no q x xs (false_by (q x) (λ k. no_path (sym e ∙ f x k)))))

  pub those_append : (xs ys : List A) → those q (xs ++ ys) ≡ those q xs ++ those q ys
  unfolding those
  those_append [] ys = refl
  those_append (x ∷ xs) ys = go (q x) refl (those_append xs ys)
    where
      go : (t : Bool) → q x ≡ t → those q (xs ++ ys) ≡ those q xs ++ those q ys → those q (x ∷ (xs ++ ys)) ≡ those q (x ∷ xs) ++ those q ys
      go true e h = rw (those_yes q x (xs ++ ys) e, those_yes q x xs e, h)
      go false e h = rw (those_no q x (xs ++ ys) e, those_no q x xs e, h)

  pub one_yes : (x : A) → q x ≡ true → those q (x ∷ []) ≡ x ∷ []
  unfolding those
  one_yes x e = those_yes q x [] e

  pub one_no : (x : A) → q x ≡ false → those q (x ∷ []) ≡ []
  unfolding those
  one_no x e = those_no q x [] e

pub those_length : {A : Type 0} (p : A → Bool) (xs : List A) → length (those p xs) ≤ length xs
unfolding those
those_length {A} p [] = omega arith
those_length {A} p (x ∷ xs) = go (p x) (those_length p xs)
  where
    go : (b : Bool) → length (those p xs) ≤ length xs → length {A = A} (elim b [ true ↦ x ∷ those p xs | false ↦ those p xs ]) ≤ length (x ∷ xs)
    go true h = omega arith
    go false h = omega arith

-- ---- numbers in a row
pub in_up_from : (i n x : ℕ) → Memᴰ x (up_from i n) → (i ≤ x) × (x < i + n)
unfolding up_from
in_up_from i zero x m = absurd (Memᴰ.not-nil m)
in_up_from i (suc n) x (Memᴰ.head e) = (omega arith, omega arith)
in_up_from i (suc n) x (Memᴰ.tail m) = let h = in_up_from (suc i) n x m in (omega (arith, h.0), omega (arith, h.1))

pub to_up_from : (i n x : ℕ) → i ≤ x → x < i + n → Memᴰ x (up_from i n)
unfolding up_from
to_up_from i zero x h k = absurd (omega arith)
to_up_from i (suc n) x h k = elim (dec_le x i) [
  | yes j ↦ let e : x ≡ i = omega arith in Memᴰ.head e
  | no j ↦ Memᴰ.tail (to_up_from (suc i) n x (omega arith) (omega arith))
]

up_from_snoc : (i n : ℕ) → up_from i (suc n) ≡ up_from i n ++ ((i + n) ∷ [])
unfolding up_from
up_from_snoc i zero = ap (λ (z : ℕ). z ∷ []) (sym (add-zero i))
up_from_snoc i (suc n) = ap (λ (z : List ℕ). i ∷ z) (up_from_snoc (suc i) n ∙ ap (λ (z : ℕ). up_from (suc i) n ++ (z ∷ [])) step)
  where
    step : suc i + n ≡ i + suc n
    step = omega arith

pub up_from_next : (s : ℕ) → up_from 0 (s + 1) ≡ up_from 0 s ++ (s ∷ [])
up_from_next s = ap (up_from 0) (add-one s) ∙ up_from_snoc 0 s ∙ ap (λ (z : ℕ). up_from 0 s ++ (z ∷ [])) less
  where
    less : 0 + s ≡ s
    less = omega arith

pub up_from_length : (i n : ℕ) → length (up_from i n) ≡ n
unfolding up_from
up_from_length i zero = refl
up_from_length i (suc n) = ap suc (up_from_length (suc i) n)

-- ---- lists that rise
pub up_from_rising : (i n : ℕ) → Rising (up_from i n)
unfolding up_from
up_from_rising i zero = none
up_from_rising i (suc n) = one (λ y m. (in_up_from (suc i) n y m).0) (up_from_rising (suc i) n)

pub those_rising : (p : ℕ → Bool) {xs : List ℕ} → Rising xs → Rising (those p xs)
unfolding those
those_rising p none = none
those_rising p (one {x = x} {xs = xs} f r) = go (p x) refl (those_rising p r)
  where
    go : (b : Bool) → p x ≡ b → Rising (those p xs) → Rising (those p (x ∷ xs))
    go true e h = rw (those_yes p x xs e) (one (λ y m. f y (of_those p xs m).0) h)
    go false e h = rw (those_no p x xs e) h

-- two rising lists with the same members are equal
pub rising_same : {xs ys : List ℕ} → Rising xs → Rising ys → ((x : ℕ) → Memᴰ x xs ↔ Memᴰ x ys) → xs ≡ ys
rising_same none none f = refl
rising_same none (one {x = y} g s) f = absurd (Memᴰ.not-nil ((f y).1 (Memᴰ.head refl)))
rising_same (one {x = x} g r) none f = absurd (Memᴰ.not-nil ((f x).0 (Memᴰ.head refl)))
rising_same (one {x = x} {xs = xs} g r) (one {x = y} {xs = ys} h s) f =
    let e = heads (Memᴰ.cases_cons ((f x).0 (Memᴰ.head refl))) (Memᴰ.cases_cons ((f y).1 (Memᴰ.head refl))) in
    let q = rising_same r s (λ z. (there e z, back e z)) in
    λ i. e i ∷ q i
  where
    heads : (x ≡ y) ⊎ Memᴰ x ys → (y ≡ x) ⊎ Memᴰ y xs → x ≡ y
    heads (inl e) b = e
    heads (inr m) (inl e) = sym e
    heads (inr m) (inr n) = absurd (omega (arith, g y n, h x m))

    there : x ≡ y → (z : ℕ) → Memᴰ z xs → Memᴰ z ys
    there e z m = go (Memᴰ.cases_cons ((f z).0 (Memᴰ.tail m)))
      where
        go : (z ≡ y) ⊎ Memᴰ z ys → Memᴰ z ys
        go (inl q) = absurd (omega (arith, g z m))
        go (inr q) = q

    back : x ≡ y → (z : ℕ) → Memᴰ z ys → Memᴰ z xs
    back e z m = go (Memᴰ.cases_cons ((f z).1 (Memᴰ.tail m)))
      where
        go : (z ≡ x) ⊎ Memᴰ z xs → Memᴰ z xs
        go (inl q) = absurd (omega (arith, h z m))
        go (inr q) = q

-- ---- tables
pub same_list_lem : (xs : List ℕ) → same_list xs xs ≡ true
unfolding same_list
same_list_lem [] = refl
same_list_lem (x ∷ xs) = rw (eq-eqb x x refl, same_list) (same_list_lem xs)

pub list_same : (xs ys : List ℕ) → same_list xs ys ≡ true → xs ≡ ys
unfolding same_list
list_same [] [] e = refl
list_same [] (y ∷ ys) e = no_path e
list_same (x ∷ xs) [] e = no_path e
list_same (x ∷ xs) (y ∷ ys) e = go (eqb x y) refl (λ k. list_same xs ys k)
  where
    go : (b : Bool) → eqb x y ≡ b → (same_list xs ys ≡ true → xs ≡ ys) → x ∷ xs ≡ y ∷ ys
    go true q f = λ i. eqb-true x y q i ∷ f (rw (q, same_list) at e) i
    go false q f = no_path (rw (q, same_list) at e)

pub padded_length : (n : ℕ) (used : List ℕ) → length used ≤ n → length (padded n used) ≡ n
unfolding padded
padded_length n used h = simp (length-append, length-replicate) (omega arith)

pub padded_fits : (n : ℕ) (used : List ℕ) → length (padded n used) ≡ n → length used ≤ n
unfolding padded
padded_fits n used e = omega (arith, simp length-append at e)

-- ---- a list laid over another from a place on
pub over_append : (t u s : List ℕ) (at : ℕ) → over (at + length t) u (over at t s) ≡ over at (t ++ u) s
unfolding over
over_append [] u s at = rw add-zero
over_append (a ∷ t) u s at = rw (add-suc, ← suc-add) (over_append t u (set s at a) (suc at))

pub over_length : (at : ℕ) (t s : List ℕ) → length (over at t s) ≡ length s
unfolding over
over_length at t s = length-sets s at t

pub over_two : (t u s s₁ s₂ : List ℕ) (at b : ℕ) → b ≡ at + length t → s₁ ≡ over at t s → s₂ ≡ over b u s₁ → s₂ ≡ over at (t ++ u) s
over_two t u s s₁ s₂ at b e f g = g ∙ ap (λ (x : List ℕ). over b u x) f ∙ ap (λ (j : ℕ). over j u (over at t s)) e ∙ over_append t u s at

over_snoc : (t s : List ℕ) (at v : ℕ) → set (over at t s) (at + length t) v ≡ over at (t ++ (v ∷ [])) s
unfolding over
over_snoc t s at v = over_append t (v ∷ []) s at

pub over_turn : (f s d : List ℕ) (at i : ℕ) → i < length f → d ≡ over at (take i f) s → set d (at + i) (get_or f i 0) ≡ over at (take (i + 1) f) s
over_turn f s d at i h e = rw (add-one, take-suc f i 0, ← over_snoc, ← e, length-take-le i f (omega arith))

-- ---- laid over from the start
module _ (t s : List ℕ) (h : length t ≤ length s) where
  pub over_front : over 0 t s ≡ t ++ drop (length t) s
  unfolding over
  over_front = sets-eq t s 0 (omega arith) ∙ ap (λ (n : ℕ). t ++ drop n s) none
    where
      none : 0 + length t ≡ length t
      none = omega arith

  pub over_take : take (length t) (over 0 t s) ≡ t
  over_take = ap (take (length t)) over_front ∙ take-append_seam t (drop (length t) s)

  pub over_drop : drop (length t) (over 0 t s) ≡ drop (length t) s
  over_drop = ap (drop (length t)) over_front ∙ drop-append_seam t (drop (length t) s)

pub over_all : (t s : List ℕ) → length t ≡ length s → over 0 t s ≡ t
over_all t s e =
    over_front t s (omega arith) ∙ ap (λ (z : List ℕ). t ++ z) (drop_of_length-le s {i = length t} (omega arith)) ∙ append-nil t

-- ---- zeros
pub take_zeros : (k n : ℕ) → k ≤ n → take {A = ℕ} k (replicate n 0) ≡ replicate k 0
take_zeros zero n h = refl
take_zeros (suc k) zero h = absurd (omega arith)
take_zeros (suc k) (suc n) h = ap (λ (z : List ℕ). 0 ∷ z) (take_zeros k n (omega arith))

drop_zeros : (k n : ℕ) → drop {A = ℕ} k (replicate n 0) ≡ replicate (n - k) 0
drop_zeros zero n = ap (λ (m : ℕ). replicate m 0) all
  where
    all : n ≡ n - 0
    all = omega arith
drop_zeros (suc k) zero = ap (λ (m : ℕ). replicate m 0) none
  where
    none : 0 ≡ 0 - suc k
    none = omega arith
drop_zeros (suc k) (suc n) = drop_zeros k n ∙ ap (λ (m : ℕ). replicate m 0) less
  where
    less : n - k ≡ suc n - suc k
    less = omega arith

-- written over a cleared table, what is used is padded
pub over_zeros : (used : List ℕ) (n : ℕ) → length used ≤ n → over 0 used (replicate n 0) ≡ padded n used
unfolding padded
over_zeros used n h = over_front used (replicate n 0) (rw length-replicate h) ∙ ap (λ (z : List ℕ). used ++ z) (drop_zeros (length used) n)

-- ---- parts of a list under writes
pub slice_same : (a b f : ℕ) (l l' : List ℕ) → b ≤ f → take f l' ≡ take f l → slice a b l' ≡ slice a b l
slice_same a b f l l' h e = ap (drop a) (sym (take-take b f l' h) ∙ ap (take b) e ∙ take-take b f l h)

pub slice_snoc : (a b : ℕ) (l : List ℕ) → a ≤ b → b < length l → slice a (suc b) l ≡ slice a b l ++ (get_or l b 0 ∷ [])
slice_snoc a b l h k = ap (drop a) (take-suc l b 0 k) ∙ drop-append-le a (take b l) (get_or l b 0 ∷ []) (simp (length-take-le b l (omega arith)) h)

pub slice_high : (a b i v : ℕ) (l : List ℕ) → b ≤ i → slice a b (set l i v) ≡ slice a b l
slice_high a b i v l h = ap (drop a) (take-set-le b l i v h)

pub slice_low : (a b i v : ℕ) (l : List ℕ) → a ≤ b → i < a → slice a b (set l i v) ≡ slice a b l
slice_low a b i v l h k = ap (drop a) (take-set-lt b l i v (omega arith)) ∙ drop-set-lt a (take b l) i v k

-- the code's part of a slice is this list
pub part_is : (f t : ℕ) (l : List ℕ) → f ≤ t → take (t - f) (drop f l) ≡ slice f t l
part_is zero t l h = ap (λ (z : ℕ). take z l) zero_less
  where
    zero_less : t - 0 ≡ t
    zero_less = omega arith
part_is (suc f) zero l h = absurd (omega arith)
part_is (suc f) (suc t) [] h = take-nil (suc t - suc f)
part_is (suc f) (suc t) (x ∷ l) h = ap (λ (z : ℕ). take z (drop f l)) less ∙ part_is f t l (omega arith)
  where
    less : suc t - suc f ≡ t - f
    less = omega arith

pub mem_at : (l : List ℕ) (i : ℕ) → i < length l → Memᴰ (get_or l i 0) l
mem_at [] i h = absurd (omega arith)
mem_at (x ∷ l) zero h = Memᴰ.head refl
mem_at (x ∷ l) (suc i) h = Memᴰ.tail (mem_at l i (omega arith))

-- of an element read with itself for what lies past the end
pub mem_place : (l : List ℕ) (i : ℕ) {x : ℕ} → i < length l → x ≡ get_or l i x → Memᴰ x l
mem_place l i {x} h e = subst (λ y. Memᴰ y l) (sym (e ∙ get_or_default_zero l i x h)) (mem_at l i h)
