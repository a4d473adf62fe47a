-- A normaliser for polynomials over ℤ, and the proof that it keeps the value. A polynomial identity is then `ring ρ e f refl`.
use Rattle.std.specs.Prelude.{◌≡◌, refl, List, [], ◌∷◌, T, ℤ, pos, negsuc, neg_ℤ, ◌+ℤ◌, ◌*ℤ◌}
use Rattle.std.proofs.Common.{sym, ap, ap₂, ◌∙◌, eqb→eq}
use Prim.Native.Nat.{ℕ, zero, suc, compare, Ordering}
use Rattle.std.proofs.Math.Dec.{compare_is_eq}
use Rattle.std.proofs.Math.IntN.{+ℤ_idl, +ℤ_idr, +ℤ_assoc, zero-*ℤ, *ℤ-zero, neg_ℤ-+ℤ}
use Rattle.algebra.specs.Integers.{+ℤ_left_comm, add_*ℤ, *ℤ_add, neg_*ℤ, *ℤ_assoc, *ℤ_left_comm, *ℤ_swap4, one_*ℤ, *ℤ_one'}

-- ---- expressions
infixl 6 ◌⊕◌ ◌⊟◌
infixl 7 ◌⊗◌
infix 8 ⊝◌
pub data Ex : Type 0 where
  var : ℕ → Ex
  con : ℤ → Ex
  ◌⊕◌ : Ex → Ex → Ex
  ◌⊗◌ : Ex → Ex → Ex
  ⊝◌ : Ex → Ex

abbrev pub ◌⊟◌ : Ex → Ex → Ex
a ⊟ b = a ⊕ (⊝ b)

abbrev pub var_at : List ℤ → ℕ → ℤ
var_at [] i = pos 0
var_at (x ∷ ρ) zero = x
var_at (x ∷ ρ) (suc i) = var_at ρ i

abbrev pub value_of : Ex → List ℤ → ℤ
value_of (var i) ρ = var_at ρ i
value_of (con k) ρ = k
value_of (a ⊕ b) ρ = value_of a ρ +ℤ value_of b ρ
value_of (a ⊗ b) ρ = value_of a ρ *ℤ value_of b ρ
value_of (⊝ a) ρ = neg_ℤ (value_of a ρ)

-- ---- monomials: the places of their factors, rising
abbrev pub mono_value : List ℕ → List ℤ → ℤ
mono_value [] ρ = pos 1
mono_value (i ∷ m) ρ = var_at ρ i *ℤ mono_value m ρ

abbrev pub mono_pick : Ordering → List ℕ → List ℕ → List ℕ
mono_pick Ordering.lt x y = x
mono_pick Ordering.eq x y = x
mono_pick Ordering.gt x y = y

abbrev pub mono_insert : ℕ → List ℕ → List ℕ
mono_insert i [] = i ∷ []
mono_insert i (j ∷ m) = let r = j ∷ mono_insert i m in mono_pick (compare i j) (i ∷ j ∷ m) r

abbrev pub mono_times : List ℕ → List ℕ → List ℕ
mono_times [] n = n
mono_times (i ∷ m) n = mono_insert i (mono_times m n)

abbrev pub lex_next : Ordering → Ordering → Ordering
lex_next Ordering.lt o = Ordering.lt
lex_next Ordering.eq o = o
lex_next Ordering.gt o = Ordering.gt

abbrev pub lex_compare : List ℕ → List ℕ → Ordering
lex_compare [] [] = Ordering.eq
lex_compare [] (j ∷ n) = Ordering.lt
lex_compare (i ∷ m) [] = Ordering.gt
lex_compare (i ∷ m) (j ∷ n) = let r = lex_compare m n in lex_next (compare i j) r

-- ---- polynomials: monomials in order, none twice, none with the coefficient 0
pub data Po : Type 0 where
  none : Po
  term : ℤ → List ℕ → Po → Po

abbrev pub poly_value : Po → List ℤ → ℤ
poly_value none ρ = pos 0
poly_value (term k m p) ρ = k *ℤ mono_value m ρ +ℤ poly_value p ρ

abbrev pub poly_make : ℤ → List ℕ → Po → Po
poly_make (pos zero) m p = p
poly_make (pos (suc n)) m p = term (pos (suc n)) m p
poly_make (negsuc n) m p = term (negsuc n) m p

abbrev pub poly_put : Ordering → ℤ → List ℕ → ℤ → List ℕ → Po → Po → Po
poly_put Ordering.lt k m j n p r = term k m (term j n p)
poly_put Ordering.eq k m j n p r = poly_make (k +ℤ j) n p
poly_put Ordering.gt k m j n p r = term j n r

abbrev pub poly_insert : ℤ → List ℕ → Po → Po
poly_insert k m none = term k m none
poly_insert k m (term j n p) = let r = poly_insert k m p in poly_put (lex_compare m n) k m j n p r

abbrev pub poly_plus : Po → Po → Po
poly_plus none q = q
poly_plus (term k m p) q = poly_insert k m (poly_plus p q)

abbrev pub poly_scale : ℤ → List ℕ → Po → Po → Po
poly_scale k m none q = q
poly_scale k m (term j n p) q = poly_insert (k *ℤ j) (mono_times m n) (poly_scale k m p q)

abbrev pub poly_times : Po → Po → Po
poly_times none q = none
poly_times (term k m p) q = poly_scale k m q (poly_times p q)

abbrev pub poly_negate : Po → Po
poly_negate none = none
poly_negate (term k m p) = term (neg_ℤ k) m (poly_negate p)

abbrev pub normal : Ex → Po
normal (var i) = term (pos 1) (i ∷ []) none
normal (con k) = poly_make k [] none
normal (a ⊕ b) = poly_plus (normal a) (normal b)
normal (a ⊗ b) = poly_times (normal a) (normal b)
normal (⊝ a) = poly_negate (normal a)

-- ---- the value is kept
next_l : (o r : Ordering) → T (compare_is_eq (lex_next o r)) → T (compare_is_eq o)
next_l Ordering.lt r t = t
next_l Ordering.eq r t = tt
next_l Ordering.gt r t = t

next_r : (o r : Ordering) → T (compare_is_eq (lex_next o r)) → T (compare_is_eq r)
next_r Ordering.lt r t = absurd t
next_r Ordering.eq r t = t
next_r Ordering.gt r t = absurd t

cmp_eq : (m n : List ℕ) → T (compare_is_eq (lex_compare m n)) → m ≡ n
cmp_eq [] [] t = refl
cmp_eq [] (j ∷ n) t = absurd t
cmp_eq (i ∷ m) [] t = absurd t
cmp_eq (i ∷ m) (j ∷ n) t = ap₂ ◌∷◌ (eqb→eq i j (next_l (compare i j) (lex_compare m n) t)) (cmp_eq m n (next_r (compare i j) (lex_compare m n) t))

pick_val : (o : Ordering) (x y : List ℕ) (ρ : List ℤ) (v : ℤ) → mono_value x ρ ≡ v → mono_value y ρ ≡ v → mono_value (mono_pick o x y) ρ ≡ v
pick_val Ordering.lt x y ρ v p q = p
pick_val Ordering.eq x y ρ v p q = p
pick_val Ordering.gt x y ρ v p q = q

ins_v_val : (i : ℕ) (m : List ℕ) (ρ : List ℤ) → mono_value (mono_insert i m) ρ ≡ var_at ρ i *ℤ mono_value m ρ
ins_v_val i [] ρ = refl
ins_v_val i (j ∷ m) ρ = pick_val (compare i j) (i ∷ j ∷ m) (j ∷ mono_insert i m) ρ (var_at ρ i *ℤ (var_at ρ j *ℤ mono_value m ρ)) refl (ap (λ t. var_at ρ j *ℤ t) (ins_v_val i m ρ) ∙ *ℤ_left_comm (var_at ρ j) (var_at ρ i) (mono_value m ρ))

join_val : (m n : List ℕ) (ρ : List ℤ) → mono_value (mono_times m n) ρ ≡ mono_value m ρ *ℤ mono_value n ρ
join_val [] n ρ = sym (one_*ℤ (mono_value n ρ))
join_val (i ∷ m) n ρ = ins_v_val i (mono_times m n) ρ ∙ ap (λ t. var_at ρ i *ℤ t) (join_val m n ρ) ∙ sym (*ℤ_assoc (var_at ρ i) (mono_value m ρ) (mono_value n ρ))

mk_val : (k : ℤ) (m : List ℕ) (p : Po) (ρ : List ℤ) → poly_value (poly_make k m p) ρ ≡ k *ℤ mono_value m ρ +ℤ poly_value p ρ
mk_val (pos zero) m p ρ = sym (ap (λ t. t +ℤ poly_value p ρ) (zero-*ℤ (mono_value m ρ)) ∙ +ℤ_idl (poly_value p ρ))
mk_val (pos (suc n)) m p ρ = refl
mk_val (negsuc n) m p ρ = refl

put_val : (o : Ordering) (k : ℤ) (m : List ℕ) (j : ℤ) (n : List ℕ) (p r : Po) (ρ : List ℤ) → (T (compare_is_eq o) → m ≡ n) → poly_value r ρ ≡ k *ℤ mono_value m ρ +ℤ poly_value p ρ → poly_value (poly_put o k m j n p r) ρ ≡ k *ℤ mono_value m ρ +ℤ (j *ℤ mono_value n ρ +ℤ poly_value p ρ)
put_val Ordering.lt k m j n p r ρ e h = refl
put_val Ordering.eq k m j n p r ρ e h = mk_val (k +ℤ j) n p ρ ∙ ap (λ t. t +ℤ poly_value p ρ) (add_*ℤ k j (mono_value n ρ)) ∙ +ℤ_assoc (k *ℤ mono_value n ρ) (j *ℤ mono_value n ρ) (poly_value p ρ) ∙ ap (λ t. k *ℤ mono_value t ρ +ℤ (j *ℤ mono_value n ρ +ℤ poly_value p ρ)) (sym (e tt))
put_val Ordering.gt k m j n p r ρ e h = ap (λ t. j *ℤ mono_value n ρ +ℤ t) h ∙ +ℤ_left_comm (j *ℤ mono_value n ρ) (k *ℤ mono_value m ρ) (poly_value p ρ)

ins_val : (k : ℤ) (m : List ℕ) (p : Po) (ρ : List ℤ) → poly_value (poly_insert k m p) ρ ≡ k *ℤ mono_value m ρ +ℤ poly_value p ρ
ins_val k m none ρ = refl
ins_val k m (term j n p) ρ = put_val (lex_compare m n) k m j n p (poly_insert k m p) ρ (cmp_eq m n) (ins_val k m p ρ)

sum_val : (p q : Po) (ρ : List ℤ) → poly_value (poly_plus p q) ρ ≡ poly_value p ρ +ℤ poly_value q ρ
sum_val none q ρ = sym (+ℤ_idl (poly_value q ρ))
sum_val (term k m p) q ρ = ins_val k m (poly_plus p q) ρ ∙ ap (λ t. k *ℤ mono_value m ρ +ℤ t) (sum_val p q ρ) ∙ sym (+ℤ_assoc (k *ℤ mono_value m ρ) (poly_value p ρ) (poly_value q ρ))

scale_val : (k : ℤ) (m : List ℕ) (p q : Po) (ρ : List ℤ) → poly_value (poly_scale k m p q) ρ ≡ k *ℤ mono_value m ρ *ℤ poly_value p ρ +ℤ poly_value q ρ
scale_val k m none q ρ = sym (ap (λ t. t +ℤ poly_value q ρ) (*ℤ-zero (k *ℤ mono_value m ρ)) ∙ +ℤ_idl (poly_value q ρ))
scale_val k m (term j n p) q ρ = ins_val (k *ℤ j) (mono_times m n) (poly_scale k m p q) ρ ∙ ap₂ ◌+ℤ◌ (ap (λ t. k *ℤ j *ℤ t) (join_val m n ρ) ∙ *ℤ_swap4 k j (mono_value m ρ) (mono_value n ρ)) (scale_val k m p q ρ) ∙ sym (+ℤ_assoc (k *ℤ mono_value m ρ *ℤ (j *ℤ mono_value n ρ)) (k *ℤ mono_value m ρ *ℤ poly_value p ρ) (poly_value q ρ)) ∙ ap (λ t. t +ℤ poly_value q ρ) (sym (*ℤ_add (k *ℤ mono_value m ρ) (j *ℤ mono_value n ρ) (poly_value p ρ)))

prod_val : (p q : Po) (ρ : List ℤ) → poly_value (poly_times p q) ρ ≡ poly_value p ρ *ℤ poly_value q ρ
prod_val none q ρ = sym (zero-*ℤ (poly_value q ρ))
prod_val (term k m p) q ρ = scale_val k m q (poly_times p q) ρ ∙ ap (λ t. k *ℤ mono_value m ρ *ℤ poly_value q ρ +ℤ t) (prod_val p q ρ) ∙ sym (add_*ℤ (k *ℤ mono_value m ρ) (poly_value p ρ) (poly_value q ρ))

opp_val : (p : Po) (ρ : List ℤ) → poly_value (poly_negate p) ρ ≡ neg_ℤ (poly_value p ρ)
opp_val none ρ = refl
opp_val (term k m p) ρ = ap₂ ◌+ℤ◌ (neg_*ℤ k (mono_value m ρ)) (opp_val p ρ) ∙ sym (neg_ℤ-+ℤ (k *ℤ mono_value m ρ) (poly_value p ρ))

pub norm_val : (e : Ex) (ρ : List ℤ) → poly_value (normal e) ρ ≡ value_of e ρ
norm_val (var i) ρ = +ℤ_idr (pos 1 *ℤ (var_at ρ i *ℤ pos 1)) ∙ one_*ℤ (var_at ρ i *ℤ pos 1) ∙ *ℤ_one' (var_at ρ i)
norm_val (con k) ρ = mk_val k [] none ρ ∙ +ℤ_idr (k *ℤ pos 1) ∙ *ℤ_one' k
norm_val (a ⊕ b) ρ = sum_val (normal a) (normal b) ρ ∙ ap₂ ◌+ℤ◌ (norm_val a ρ) (norm_val b ρ)
norm_val (a ⊗ b) ρ = prod_val (normal a) (normal b) ρ ∙ ap₂ ◌*ℤ◌ (norm_val a ρ) (norm_val b ρ)
norm_val (⊝ a) ρ = opp_val (normal a) ρ ∙ ap neg_ℤ (norm_val a ρ)

-- THE THEOREM: two expressions with one normal form have one value
pub ring : (ρ : List ℤ) (e f : Ex) → normal e ≡ normal f → value_of e ρ ≡ value_of f ρ
ring ρ e f h = sym (norm_val e ρ) ∙ ap (λ p. poly_value p ρ) h ∙ norm_val f ρ
