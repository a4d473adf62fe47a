-- The live lines are exactly those inserted and not since deleted.
use Rattle.definitions.specs.Answer.{Answer}
use Rattle.definitions.specs.declared.Given.{Given}
use Rattle.algebra.specs.Lists.{in_those, of_those}
use Rattle.algebra.specs.Tests.{no_path}
use Rattle.algebra.specs.Words.{those}
use Rattle.definitions.specs.Calls.{refusal_of, detail_of, cleared}
use Rattle.definitions.specs.History.{Call, insert, delete, locate, show, window, after_all}
use Rattle.definitions.specs.Tables.{Tables}
use Rattle.definitions.specs.Tree.{Rule}
use Rattle.history.specs.Demand.{Held, Heard, heard, live_held, Gave, Took, NeverTook, Stands, now, after}
use Rattle.history.proofs.Held.{held_after, held_by, live_exact}
use Rattle.std.proofs.Common.{subst, sym, ◌∙◌, ap, inl, inr, arith, eqb-true, eq-eqb, ne_eqb}
use Rattle.std.specs.Prelude.{◌≡◌, refl, ◌⊎◌, ◌↔◌, Bool, true, false, not, ℕ, eqb, if◌then◌else◌}
use mathlib.Core.List.Memᴰ
use mathlib.Core.List.{List, [], ◌∷◌, Memᴰ}
use Rattle.std.proofs.lemmas.Bool.{eqb-false, not-true}

-- which calls insert, and which delete; the others only read
abbrev inserts : Call → Bool
inserts (insert g) = true
inserts (delete h) = false
inserts (locate ps as') = false
inserts (show x y) = false
inserts (window w slots) = false

abbrev deletes : Call → Bool
deletes (insert g) = false
deletes (delete h) = true
deletes (locate ps as') = false
deletes (show x y) = false
deletes (window w slots) = false

no_insert : {c : Call} {g : Given} → inserts c ≡ false → c ≡ insert g → ⊥
no_insert f e = no_path (sym f ∙ ap inserts e)

no_delete : {c : Call} {h : ℕ} → deletes c ≡ false → c ≡ delete h → ⊥
no_delete f e = no_path (sym f ∙ ap deletes e)

same_given : (g k : Given) → insert g ≡ insert k → g ≡ k
same_given g k e = cc

same_handle : (g k : ℕ) → delete g ≡ delete k → g ≡ k
same_handle g k e = cc

-- one call
one→ : (held : List Held) (c : Call) (r : Answer) (i : Held) → Memᴰ i (held_after held c r)
    → (Memᴰ i held × (Took (record { call = c; answer = r }) i.handle → ⊥)) ⊎ Gave (record { call = c; answer = r }) i
unfolding held_after
one→ held (insert g) r i m = go (eqb (refusal_of r) 0) refl m
  where
    go : (b : Bool) → eqb (refusal_of r) 0 ≡ b → Memᴰ i (if b then (record { handle = detail_of r; line = g } ∷ held) else held)
        → (Memᴰ i held × (Took (record { call = insert g; answer = r }) i.handle → ⊥)) ⊎ Gave (record { call = insert g; answer = r }) i
    go true e m = first (Memᴰ.cases_cons m)
      where
        first : (i ≡ record { handle = detail_of r; line = g }) ⊎ Memᴰ i held
            → (Memᴰ i held × (Took (record { call = insert g; answer = r }) i.handle → ⊥)) ⊎ Gave (record { call = insert g; answer = r }) i
        first (inl q) = inr (ap (λ (j : Held). insert j.line) (sym q), eqb-true _ _ e, ap (λ (j : Held). j.handle) (sym q))
        first (inr n) = inl (n, λ t. no_delete refl t.0)
    go false e m = inl (m, λ t. no_delete refl t.0)
one→ held (delete h) r i m = go (eqb (refusal_of r) 0) refl m
  where
    go : (b : Bool) → eqb (refusal_of r) 0 ≡ b → Memᴰ i (if b then those (λ i. not (eqb i.handle h)) held else held)
        → (Memᴰ i held × (Took (record { call = delete h; answer = r }) i.handle → ⊥)) ⊎ Gave (record { call = delete h; answer = r }) i
    go true e m =
        let n = of_those (λ i. not (eqb i.handle h)) held m in
        inl (n.0, λ t. eqb-false i.handle h (not-true _ n.1) (sym (same_handle h i.handle t.0)))
    go false e m = inl (m, λ t. eqb-false (refusal_of r) 0 e (omega (arith, t.1)))
one→ held (locate ps as') r i m = inl (m, λ t. no_delete refl t.0)
one→ held (show x y) r i m = inl (m, λ t. no_delete refl t.0)
one→ held (window w slots) r i m = inl (m, λ t. no_delete refl t.0)

one← : (held : List Held) (c : Call) (r : Answer) (i : Held)
    → (Memᴰ i held × (Took (record { call = c; answer = r }) i.handle → ⊥)) ⊎ Gave (record { call = c; answer = r }) i
    → Memᴰ i (held_after held c r)
unfolding held_after
one← held (insert g) r i (inl (m, f)) = go (eqb (refusal_of r) 0)
  where
    go : (b : Bool) → Memᴰ i (if b then (record { handle = detail_of r; line = g } ∷ held) else held)
    go true = Memᴰ.tail m
    go false = m
one← held (insert g) r i (inr (e, f, d)) =
    rw (eq-eqb (refusal_of r) 0 f) (Memᴰ.head (λ k. record { handle = sym d k; line = sym (same_given g i.line e) k }))
one← held (delete h) r i (inl (m, f)) = go (eqb (refusal_of r) 0) refl
  where
    go : (b : Bool) → eqb (refusal_of r) 0 ≡ b → Memᴰ i (if b then those (λ i. not (eqb i.handle h)) held else held)
    go true e = in_those (λ i. not (eqb i.handle h)) held m (ap not (ne_eqb i.handle h (λ q. f (ap delete (sym q), omega (arith, eqb-true (refusal_of r) 0 e)))))
    go false e = m
one← held (delete h) r i (inr (e, f, d)) = absurd (no_insert refl e)
one← held (locate ps as') r i (inl (m, f)) = m
one← held (locate ps as') r i (inr (e, f, d)) = absurd (no_insert refl e)
one← held (show x y) r i (inl (m, f)) = m
one← held (show x y) r i (inr (e, f, d)) = absurd (no_insert refl e)
one← held (window w slots) r i (inl (m, f)) = m
one← held (window w slots) r i (inr (e, f, d)) = absurd (no_insert refl e)

held→ : (log : List Heard) (held : List Held) (i : Held) → Memᴰ i (held_by held log) → (Memᴰ i held × NeverTook log i.handle) ⊎ Stands i log
unfolding held_by
held→ [] held i m = inl (m, λ d n t. Memᴰ.not-nil n)
held→ (c ∷ log) held i m = go (held→ log (held_after held c.call c.answer) i m)
  where
    go : (Memᴰ i (held_after held c.call c.answer) × NeverTook log i.handle) ⊎ Stands i log → (Memᴰ i held × NeverTook (c ∷ log) i.handle) ⊎ Stands i (c ∷ log)
    go (inr s) = inr (after s)
    go (inl (n, f)) = step (one→ held c.call c.answer i n)
      where
        step : (Memᴰ i held × (Took c i.handle → ⊥)) ⊎ Gave c i → (Memᴰ i held × NeverTook (c ∷ log) i.handle) ⊎ Stands i (c ∷ log)
        step (inr g) = inr (now g f)
        step (inl (p, q)) = inl (p, λ d k t. each d (Memᴰ.cases_cons k) t)
          where
            each : (d : Heard) → (d ≡ c) ⊎ Memᴰ d log → Took d i.handle → ⊥
            each d (inl e) t = q (subst (λ (x : Heard). Took x i.handle) e t)
            each d (inr k) t = f d k t

held← : (log : List Heard) (held : List Held) (i : Held) → (Memᴰ i held × NeverTook log i.handle) ⊎ Stands i log → Memᴰ i (held_by held log)
unfolding held_by
held← [] held i h = go h
  where
    go : (Memᴰ i held × NeverTook [] i.handle) ⊎ Stands i [] → Memᴰ i held
    go (inl (m, f)) = m
    go (inr s) = elim s [ ]
held← (c ∷ log) held i (inl (m, f)) =
    held← log (held_after held c.call c.answer) i (inl (one← held c.call c.answer i (inl (m, λ t. f c (Memᴰ.head refl) t)), λ d n t. f d (Memᴰ.tail n) t))
held← (c ∷ log) held i (inr (now g f)) = held← log (held_after held c.call c.answer) i (inl (one← held c.call c.answer i (inr g), f))
held← (c ∷ log) held i (inr (after s)) = held← log (held_after held c.call c.answer) i (inr s)

pub held_iff : (log : List Heard) (i : Held) → Memᴰ i (held_by [] log) ↔ Stands i log
held_iff log i = (λ m. go (held→ log [] i m), λ s. held← log [] i (inr s))
  where
    go : (Memᴰ i [] × NeverTook log i.handle) ⊎ Stands i log → Stands i log
    go (inl (m, f)) = absurd (Memᴰ.not-nil m)
    go (inr s) = s

module _ (rule : Rule) where
  -- Any calls after a start: a line lives under a handle exactly if it was inserted under it and the handle not since deleted
  pub live_stands : (t : Tables) (cs : List Call) (i : Held) → Memᴰ i (live_held (after_all rule (cleared t) cs).lines) ↔ Stands i (heard rule (cleared t) cs)
  live_stands t cs i =
      let a = live_exact rule t cs i in
      let b = held_iff (heard rule (cleared t) cs) i in
      (λ m. b.0 (a.0 m), λ s. a.1 (b.1 s))
