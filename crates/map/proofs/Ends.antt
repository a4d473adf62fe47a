-- What a call's last step leaves, over plain lists.
use Rattle.std.specs.Prelude.{Ok}
use mathlib.Core.Path.{◌≡◌, sym, ap, ◌∙◌}
use mathlib.Core.Bool.{true}
use mathlib.Core.List.{List}
use Prim.Native.Nat.{ℕ, ◌/◌}
use lib.ListN.{length, replicate}
use Rattle.definitions.specs.Answer.{Answer}
use Rattle.definitions.specs.Tree.{base_rule}
use Rattle.definitions.specs.Tables.{lengths_fit}
use Rattle.definitions.specs.Calls.{cleared, start_of, reply, known, freed, rebuilt, delete_of}
use Rattle.tables.specs.Lent.{tables, Replies, Passed}
use Rattle.map.specs.Steps.{start_0, delete_0}

-- three tables, each by itself
pub three : (r : Answer) {l n s l' n' s' : List ℕ} → l ≡ l' → n ≡ n' → s ≡ s' → reply r (tables l n s) ≡ reply r (tables l' n' s')
three r p q u = λ i. reply r (tables (p i) (q i) (u i))

pub started : (l n s : List ℕ) {l' n' s' : List ℕ} → lengths_fit (tables l n s) ≡ true → l' ≡ replicate (length l) 0 → n' ≡ replicate (length n) 0 → s' ≡ replicate (length s) 0
    → Replies (Ok 0) l' n' s' (start_of (tables l n s))
unfolding cleared
started l n s fit p q u = three (Ok 0) p q u ∙ sym (start_0 (tables l n s) fit)

pub deleted : {lines nodes listings l n s : List ℕ} (h : ℕ) {slot : ℕ} → Passed base_rule lines nodes listings → known lines h ≡ true → slot ≡ h / 65536
    → tables l n s ≡ rebuilt base_rule (tables lines nodes listings) (freed lines slot) → Replies (Ok 0) l n s (delete_of base_rule (tables lines nodes listings) h)
deleted {lines} {nodes} {listings} h w k e q =
    (λ i. record { answer = Ok 0; after = (q ∙ ap (λ (x : ℕ). rebuilt base_rule (tables lines nodes listings) (freed lines x)) e) i })
    ∙ sym (delete_0 base_rule (tables lines nodes listings) h w.fit w.ok k)
