-- The order on ℤ, with the sum and the product; and the bridge to the native ℕ, where `omega` proves.
use Rattle.std.specs.Prelude.{◌≡◌, refl, [], ◌∷◌, Bool, true, false, not, cond, ◌↔◌, ℕ, zero, suc, ◌+◌, ◌*◌, ◌-◌, ◌≤◌, ◌<◌, T, ltb, ℤ, pos, negsuc, neg_ℤ, nat_abs, ◌+ℤ◌, ◌*ℤ◌, ◌-ℤ◌, ◌≤ℤ◌, ◌<ℤ◌}
use Rattle.std.proofs.Common.{sym, ap, ◌∙◌, subst, arith, ltb→lt, nltb→le, le→leb, leb→le, lt→ltb}
use Rattle.std.proofs.Math.Decide.{dec_le, dec_lt}
use Rattle.std.proofs.Math.IntN.{sub_ℕ, +ℤ_idl, +ℤ_idr}
use Rattle.std.specs.Int.Signed.{le_z_yes, lt_z_yes}
use Rattle.algebra.specs.Solve.{solve, re}

ruleset tests = (ltb→lt, nltb→le, leb→le)

cond_ind : (c : Bool) (x y : ℤ) (P : ℤ → Type 0) → (T c → P x) → (T (not c) → P y) → P (cond c x y)
cond_ind true x y P f g = f tt
cond_ind false x y P f g = g tt

-- a − b is d where a = b + d, and −(d + 1) where b = a + d + 1
sub_ind : (P : ℤ → Type 0) (a b : ℕ) → ((d : ℕ) → a ≡ b + d → P (pos d)) → ((d : ℕ) → b ≡ a + suc d → P (negsuc d)) → P (sub_ℕ a b)
sub_ind P a b f g = cond_ind (ltb a b) (negsuc (b - suc a)) (pos (a - b)) P (λ t. g (b - suc a) (omega (arith, ltb→lt))) (λ t. f (a - b) (omega (arith, nltb→le)))

-- ---- the order by a difference
pub le_diff : {a b : ℤ} → a ≤ℤ b → (n : ℕ) × (a +ℤ pos n ≡ b)
le_diff {a = pos a} {b = pos b} h = let k : a ≤ b = leb→le a b h.le in (b - a, ap pos (omega arith))
le_diff {a = pos a} {b = negsuc b} h = absurd h.le
le_diff {a = negsuc a} {b = pos b} h = (b + suc a, sub_ind (λ z. z ≡ pos b) (b + suc a) (suc a) (λ d e. ap pos (omega arith)) (λ d e. absurd (omega arith)))
le_diff {a = negsuc a} {b = negsuc b} h = let k : b ≤ a = leb→le b a h.le in (a - b, sub_ind (λ z. z ≡ negsuc b) (a - b) (suc a) (λ d e. absurd (omega arith)) (λ d e. ap negsuc (omega arith)))

le_plus : (a : ℤ) (n : ℕ) → a ≤ℤ (a +ℤ pos n)
le_plus (pos a) n = le_z_yes (le→leb a (a + n) (omega arith))
le_plus (negsuc a) n = sub_ind (λ z. negsuc a ≤ℤ z) n (suc a) (λ d e. le_z_yes tt) (λ d e. le_z_yes (le→leb d a (omega arith)))

pub diff_le : {a b : ℤ} (n : ℕ) → a +ℤ pos n ≡ b → a ≤ℤ b
diff_le {a} n e = subst (λ z. a ≤ℤ z) e (le_plus a n)

pub lt_diff : {a b : ℤ} → a <ℤ b → (n : ℕ) × (a +ℤ pos (suc n) ≡ b)
lt_diff {a = pos a} {b = pos b} h = let k : a < b = ltb→lt a b h.lt in (b - suc a, ap pos (omega arith))
lt_diff {a = pos a} {b = negsuc b} h = absurd h.lt
lt_diff {a = negsuc a} {b = pos b} h = (b + a, sub_ind (λ z. z ≡ pos b) (suc (b + a)) (suc a) (λ d e. ap pos (omega arith)) (λ d e. absurd (omega arith)))
lt_diff {a = negsuc a} {b = negsuc b} h = let k : b < a = ltb→lt b a h.lt in (a - suc b, sub_ind (λ z. z ≡ negsuc b) (suc (a - suc b)) (suc a) (λ d e. absurd (omega arith)) (λ d e. ap negsuc (omega arith)))

lt_plus : (a : ℤ) (n : ℕ) → a <ℤ (a +ℤ pos (suc n))
lt_plus (pos a) n = lt_z_yes (lt→ltb a (a + suc n) (omega arith))
lt_plus (negsuc a) n = sub_ind (λ z. negsuc a <ℤ z) (suc n) (suc a) (λ d e. lt_z_yes tt) (λ d e. lt_z_yes (lt→ltb d a (omega arith)))

pub diff_lt : {a b : ℤ} (n : ℕ) → a +ℤ pos (suc n) ≡ b → a <ℤ b
diff_lt {a} n e = subst (λ z. a <ℤ z) e (lt_plus a n)

-- ---- differences of naturals. `◌⊖◌` is shut: `simp ⊖·simp` takes a polynomial in `pos` of naturals to one difference
infixl 6 ◌⊖◌
unfoldable pub ◌⊖◌ : ℕ → ℕ → ℤ
a ⊖ b = pos a -ℤ pos b

pub ⊖-pos : (a : ℕ) → pos a ≡ a ⊖ 0
unfolding ◌⊖◌
⊖-pos a = sym (+ℤ_idr (pos a))

pub ⊖-negpos : (a : ℕ) → neg_ℤ (pos a) ≡ 0 ⊖ a
unfolding ◌⊖◌
⊖-negpos a = sym (+ℤ_idl (neg_ℤ (pos a)))

pub ⊖-neg : (a b : ℕ) → neg_ℤ (a ⊖ b) ≡ b ⊖ a
unfolding ◌⊖◌
⊖-neg a b = solve (pos a ∷ pos b ∷ []) (search re) refl

pub ⊖-add : (a b c d : ℕ) → (a ⊖ b) +ℤ (c ⊖ d) ≡ (a + c) ⊖ (b + d)
unfolding ◌⊖◌
⊖-add a b c d = solve (pos a ∷ pos b ∷ pos c ∷ pos d ∷ []) (search re) refl

pub ⊖-mul : (a b c d : ℕ) → (a ⊖ b) *ℤ (c ⊖ d) ≡ (a * c + b * d) ⊖ (a * d + b * c)
unfolding ◌⊖◌
⊖-mul a b c d = solve (pos a ∷ pos b ∷ pos c ∷ pos d ∷ []) (search re depth 7) refl

pub ruleset ⊖·simp = (⊖-pos, ⊖-negpos, ⊖-neg, ⊖-add, ⊖-mul)

pub pos_inj : {a b : ℕ} → pos a ≡ pos b → a ≡ b
pos_inj e = ap nat_abs e

pub rep : (z : ℤ) → (p : ℕ) × (n : ℕ) × (z ≡ p ⊖ n)
unfolding ◌⊖◌
rep (pos n) = (n, 0, ⊖-pos n)
rep (negsuc n) = (0, suc n, sym (+ℤ_idl (negsuc n)))

-- a − b + n = c − d, moved over: a + d + n = c + b
moved : (a b c d n : ℕ) → (a ⊖ b) +ℤ pos n ≡ c ⊖ d → a + d + n ≡ c + b
unfolding ◌⊖◌
moved a b c d n e = pos_inj (solve (pos a ∷ pos b ∷ pos d ∷ pos n ∷ []) {w = ((pos a -ℤ pos b) +ℤ pos n) +ℤ (pos b +ℤ pos d)} (search re depth 7) refl ∙ ap (λ z. z +ℤ (pos b +ℤ pos d)) e ∙ solve (pos b ∷ pos c ∷ pos d ∷ []) {w = pos c +ℤ pos b} (search re depth 7) refl)

moved_back : (a b c d n : ℕ) → a + d + n ≡ c + b → (a ⊖ b) +ℤ pos n ≡ c ⊖ d
unfolding ◌⊖◌
moved_back a b c d n e = solve (pos a ∷ pos b ∷ pos d ∷ pos n ∷ []) {w = (pos a +ℤ pos d +ℤ pos n) -ℤ (pos b +ℤ pos d)} (search re depth 7) refl ∙ ap (λ z. pos z -ℤ (pos b +ℤ pos d)) e ∙ solve (pos b ∷ pos c ∷ pos d ∷ []) {z = (pos c +ℤ pos b) -ℤ (pos b +ℤ pos d)} (search re depth 7) refl

pub ⊖-eq : (a b c d : ℕ) → a + d ≡ c + b → a ⊖ b ≡ c ⊖ d
⊖-eq a b c d e = sym (+ℤ_idr (a ⊖ b)) ∙ moved_back a b c d 0 (omega arith)

pub ⊖-eq⁻¹ : (a b c d : ℕ) → a ⊖ b ≡ c ⊖ d → a + d ≡ c + b
⊖-eq⁻¹ a b c d e = let f : a + d + 0 ≡ c + b = moved a b c d 0 (+ℤ_idr (a ⊖ b) ∙ e) in omega arith

pub ⊖-le : (a b c d : ℕ) → ((a ⊖ b) ≤ℤ (c ⊖ d)) ↔ (a + d ≤ c + b)
⊖-le a b c d = (λ h. let f : a + d + (le_diff h).0 ≡ c + b = moved a b c d (le_diff h).0 (le_diff h).1 in omega arith, λ h. diff_le (c + b - (a + d)) (moved_back a b c d (c + b - (a + d)) (omega arith)))

pub ⊖-lt : (a b c d : ℕ) → ((a ⊖ b) <ℤ (c ⊖ d)) ↔ (a + d < c + b)
⊖-lt a b c d = (λ h. let f : a + d + suc (lt_diff h).0 ≡ c + b = moved a b c d (suc (lt_diff h).0) (lt_diff h).1 in omega arith, λ h. diff_lt (c + b - suc (a + d)) (moved_back a b c d (suc (c + b - suc (a + d))) (omega arith)))

pub ruleset to_ℕ = (⊖-pos, ⊖-negpos, ⊖-neg, ⊖-add, ⊖-mul, ⊖-le, ⊖-lt)

-- ---- a statement on ℤ holds if it holds of all differences
pub by1 : (P : ℤ → Type 0) → ((a b : ℕ) → P (a ⊖ b)) → (x : ℤ) → P x
by1 P f x = subst P (sym (rep x).2) (f (rep x).0 (rep x).1)

pub by2 : (P : ℤ → ℤ → Type 0) → ((a b c d : ℕ) → P (a ⊖ b) (c ⊖ d)) → (x y : ℤ) → P x y
by2 P f x y = by1 (λ z. P z y) (λ a b. by1 (P (a ⊖ b)) (f a b) y) x

pub by3 : (P : ℤ → ℤ → ℤ → Type 0) → ((a b c d e g : ℕ) → P (a ⊖ b) (c ⊖ d) (e ⊖ g)) → (x y z : ℤ) → P x y z
by3 P f x y z = by2 (λ u v. P u v z) (λ a b c d. by1 (P (a ⊖ b) (c ⊖ d)) (f a b c d) z) x y

-- ---- the laws of the order. Each ℤ is a difference, and the law is one of ℕ
pub ≤ℤ_trans : (x y z : ℤ) → x ≤ℤ y → y ≤ℤ z → x ≤ℤ z
≤ℤ_trans = by3 (λ x y z. x ≤ℤ y → y ≤ℤ z → x ≤ℤ z) (λ a b c d e f. simp to_ℕ (omega arith))

pub ≤ℤ_<ℤ_trans : (x y z : ℤ) → x ≤ℤ y → y <ℤ z → x <ℤ z
≤ℤ_<ℤ_trans = by3 (λ x y z. x ≤ℤ y → y <ℤ z → x <ℤ z) (λ a b c d e f. simp to_ℕ (omega arith))

pub +ℤ_mono : (x y z : ℤ) → x ≤ℤ y → (x +ℤ z) ≤ℤ (y +ℤ z)
+ℤ_mono = by3 (λ x y z. x ≤ℤ y → (x +ℤ z) ≤ℤ (y +ℤ z)) (λ a b c d e f. simp to_ℕ (omega arith))

-- the product of two that are not negative
pub mul_le : (a b c d : ℕ) → b ≤ a → d ≤ c → a * d + b * c ≤ a * c + b * d
mul_le a b c d h k = let e : a ≡ b + (a - b) = omega arith in let f : c ≡ d + (c - d) = omega arith in rw (e, f) (omega arith)

pub mul_lt : (a b c d : ℕ) → b < a → d < c → a * d + b * c < a * c + b * d
mul_lt a b c d h k = let e : a ≡ b + (a - suc b) + 1 = omega arith in let f : c ≡ d + (c - suc d) + 1 = omega arith in rw (e, f) (omega arith)

pub *ℤ_nonneg : (x y : ℤ) → pos 0 ≤ℤ x → pos 0 ≤ℤ y → pos 0 ≤ℤ (x *ℤ y)
*ℤ_nonneg = by2 (λ x y. pos 0 ≤ℤ x → pos 0 ≤ℤ y → pos 0 ≤ℤ (x *ℤ y)) (λ a b c d. simp to_ℕ (λ h k. let m : _ = mul_le a b c d (omega arith) (omega arith) in omega arith))

pub *ℤ_pos : (x y : ℤ) → pos 0 <ℤ x → pos 0 <ℤ y → pos 0 <ℤ (x *ℤ y)
*ℤ_pos = by2 (λ x y. pos 0 <ℤ x → pos 0 <ℤ y → pos 0 <ℤ (x *ℤ y)) (λ a b c d. simp to_ℕ (λ h k. let m : _ = mul_lt a b c d (omega arith) (omega arith) in omega arith))

-- a positive factor is taken away, in ℕ and in ℤ
pub cancel_le : (p q a b : ℕ) → q < p → p * b + q * a ≤ p * a + q * b → b ≤ a
cancel_le p q a b h k = elim (dec_le b a) [ yes l ↦ l | no f ↦ absurd (let m : _ = mul_lt p q b a h (omega arith) in omega arith) ]

pub cancel_lt : (p q a b : ℕ) → q ≤ p → p * b + q * a < p * a + q * b → b < a
cancel_lt p q a b h k = elim (dec_lt b a) [ yes l ↦ l | no f ↦ absurd (let m : _ = mul_le p q b a h (omega arith) in omega arith) ]

pub cancel_nonneg : (c x : ℤ) → pos 0 <ℤ c → pos 0 ≤ℤ (c *ℤ x) → pos 0 ≤ℤ x
cancel_nonneg = by2 (λ c x. pos 0 <ℤ c → pos 0 ≤ℤ (c *ℤ x) → pos 0 ≤ℤ x) (λ p q a b. simp to_ℕ (λ h k. let m : _ = cancel_le p q a b (omega arith) (omega arith) in omega arith))

pub cancel_pos : (c x : ℤ) → pos 0 ≤ℤ c → pos 0 <ℤ (c *ℤ x) → pos 0 <ℤ x
cancel_pos = by2 (λ c x. pos 0 ≤ℤ c → pos 0 <ℤ (c *ℤ x) → pos 0 <ℤ x) (λ p q a b. simp to_ℕ (λ h k. let m : _ = cancel_lt p q a b (omega arith) (omega arith) in omega arith))

pub data Sign (x : ℤ) : Type 0 where
  below : x <ℤ pos 0 → Sign x
  nil : x ≡ pos 0 → Sign x
  above : pos 0 <ℤ x → Sign x

pub sign : (x : ℤ) → Sign x
sign (pos zero) = nil refl
sign (pos (suc n)) = above (lt_z_yes (lt→ltb 0 (suc n) (omega arith)))
sign (negsuc n) = below (lt_z_yes tt)

pub sub_le : (x y : ℤ) → x ≤ℤ y ↔ pos 0 ≤ℤ (y -ℤ x)
sub_le = by2 (λ x y. x ≤ℤ y ↔ pos 0 ≤ℤ (y -ℤ x)) (λ a b c d. simp to_ℕ (omega arith))

pub sub_lt : (x y : ℤ) → x <ℤ y ↔ pos 0 <ℤ (y -ℤ x)
sub_lt = by2 (λ x y. x <ℤ y ↔ pos 0 <ℤ (y -ℤ x)) (λ a b c d. simp to_ℕ (omega arith))

pub add_nonneg : (x y : ℤ) → pos 0 ≤ℤ x → pos 0 ≤ℤ y → pos 0 ≤ℤ (x +ℤ y)
add_nonneg = by2 (λ x y. pos 0 ≤ℤ x → pos 0 ≤ℤ y → pos 0 ≤ℤ (x +ℤ y)) (λ a b c d. simp to_ℕ (omega arith))

pub add_pos : (x y : ℤ) → pos 0 <ℤ x → pos 0 ≤ℤ y → pos 0 <ℤ (x +ℤ y)
add_pos = by2 (λ x y. pos 0 <ℤ x → pos 0 ≤ℤ y → pos 0 <ℤ (x +ℤ y)) (λ a b c d. simp to_ℕ (omega arith))
