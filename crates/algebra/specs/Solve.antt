-- A polynomial identity of ℤ or ℕ, by reflection: `search` finds the expression from its value, and the normal form decides.
use Rattle.std.specs.Prelude.{◌≡◌, refl, List, [], ◌∷◌, ℕ, suc, ◌+◌, ◌*◌, ℤ, nat_abs, pos, neg_ℤ, ◌+ℤ◌, ◌*ℤ◌}
use Rattle.std.proofs.Common.{sym, ap, ap₂, ◌∙◌, add-one}
use Rattle.algebra.specs.Ring.{Ex, var, con, ◌⊕◌, ◌⊗◌, ⊝◌, ring, normal, value_of, var_at}

-- an expression, with its value in the type: `search re` finds it from the value
pub data Re (ρ : List ℤ) : ℤ → Type 0 where
  rvar : (i : ℕ) → Re ρ (var_at ρ i)
  rzero : Re ρ (pos 0)
  rone : Re ρ (pos 1)
  rtwo : Re ρ (pos 2)
  rlit : (n : ℕ) → Re ρ (pos n)
  radd : {a b : ℤ} → Re ρ a → Re ρ b → Re ρ (a +ℤ b)
  rmul : {a b : ℤ} → Re ρ a → Re ρ b → Re ρ (a *ℤ b)
  rneg : {a : ℤ} → Re ρ a → Re ρ (neg_ℤ a)
  rnadd : {m n : ℕ} → Re ρ (pos m) → Re ρ (pos n) → Re ρ (pos (m + n))
  rnmul : {m n : ℕ} → Re ρ (pos m) → Re ρ (pos n) → Re ρ (pos (m * n))
  rnsuc : {m : ℕ} → Re ρ (pos m) → Re ρ (pos (suc m))

-- an equation between two
pub data Eqn (ρ : List ℤ) : ℤ → ℤ → Type 0 where
  eqn : {a b : ℤ} → Re ρ a → Re ρ b → Eqn ρ a b

pub ruleset re = (eqn, rzero, rone, rtwo, radd, rmul, rneg, rnadd, rnmul, rnsuc)

-- with numerals other than 0, 1, 2
pub ruleset relit = (re, rlit)

abbrev pub ex : {ρ : List ℤ} {z : ℤ} → Re ρ z → Ex
ex (rvar i) = var i
ex rzero = con (pos 0)
ex rone = con (pos 1)
ex rtwo = con (pos 2)
ex (rlit n) = con (pos n)
ex (radd a b) = ex a ⊕ ex b
ex (rmul a b) = ex a ⊗ ex b
ex (rneg a) = ⊝ ex a
ex (rnadd a b) = ex a ⊕ ex b
ex (rnmul a b) = ex a ⊗ ex b
ex (rnsuc a) = ex a ⊕ con (pos 1)

ex_val : {ρ : List ℤ} {z : ℤ} (r : Re ρ z) → value_of (ex r) ρ ≡ z
ex_val (rvar i) = refl
ex_val rzero = refl
ex_val rone = refl
ex_val rtwo = refl
ex_val (rlit n) = refl
ex_val (radd a b) = ap₂ ◌+ℤ◌ (ex_val a) (ex_val b)
ex_val (rmul a b) = ap₂ ◌*ℤ◌ (ex_val a) (ex_val b)
ex_val (rneg a) = ap neg_ℤ (ex_val a)
ex_val (rnadd a b) = ap₂ ◌+ℤ◌ (ex_val a) (ex_val b)
ex_val (rnmul a b) = ap₂ ◌*ℤ◌ (ex_val a) (ex_val b)
ex_val (rnsuc {m} a) = ap (λ x. x +ℤ pos 1) (ex_val a) ∙ ap pos (add-one m)

abbrev pub Same : {ρ : List ℤ} {z w : ℤ} → Eqn ρ z w → Type 0
Same (eqn a b) = normal (ex a) ≡ normal (ex b)

same_val : {ρ : List ℤ} {z w : ℤ} (q : Eqn ρ z w) → Same q → z ≡ w
same_val {ρ} (eqn a b) h = sym (ex_val a) ∙ ring ρ (ex a) (ex b) h ∙ ex_val b

-- the variables, as facts for the search
abbrev pub Under : List ℤ → ℕ → List ℤ → Type 0 → Type 0
Under ρ i [] X = X
Under ρ i (x ∷ σ) X = Re ρ (var_at ρ i) → Under ρ (suc i) σ X

abbrev pub app : (ρ : List ℤ) (i : ℕ) (σ : List ℤ) (X : Type 0) → Under ρ i σ X → X
app ρ i [] X q = q
app ρ i (x ∷ σ) X q = app ρ (suc i) σ X (q (rvar i))

-- THE CALL: `solve (x ∷ y ∷ []) (search re) refl`, deeper `(search re depth 12)`
pub solve : (ρ : List ℤ) {z w : ℤ} (q : Under ρ 0 ρ (Eqn ρ z w)) → Same (app ρ 0 ρ (Eqn ρ z w) q) → z ≡ w
solve ρ {z} {w} q h = same_val (app ρ 0 ρ (Eqn ρ z w) q) h

-- the same over ℕ: `solveℕ (a ∷ b ∷ []) (search re) refl`, of any degree
abbrev pub pos_all : List ℕ → List ℤ
pos_all [] = []
pos_all (x ∷ ρ) = pos x ∷ pos_all ρ

pub solveℕ : (ρ : List ℕ) {m n : ℕ} (q : Under (pos_all ρ) 0 (pos_all ρ) (Eqn (pos_all ρ) (pos m) (pos n))) → Same (app (pos_all ρ) 0 (pos_all ρ) (Eqn (pos_all ρ) (pos m) (pos n)) q) → m ≡ n
solveℕ ρ q h = ap nat_abs (solve (pos_all ρ) q h)
