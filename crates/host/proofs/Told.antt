-- A reply told as one number, with the tables or the list.
use mathlib.Core.Path.{◌≡◌, sym, ap, ◌∙◌}
use mathlib.Core.List.{List}
use Prim.Native.Nat.{ℕ, ◌+◌, ◌*◌}
use native.Mathlib.Omega.{arith}
use Rattle.std.specs.Prelude.{Ok}
use Rattle.definitions.specs.Answer.{Answer}
use Rattle.definitions.specs.Calls.{Reply, number_of}
use Rattle.definitions.specs.Lookup.{Located}
use Rattle.definitions.specs.Window.{Windowed}
use Rattle.tables.specs.Lent.{tables, Replies, Locates, Windows}
use Rattle.host.specs.Numbers.{Tells, Answers, Lists, numbered, counted, listed}

pub tells : {a : Answer} {n : ℕ} {l m s : List ℕ} {y : Reply} → n ≡ number_of a → Replies a l m s y → Tells n l m s y
tells {l = l} {m = m} {s = s} e q = (λ i. record { number = e i; after = tables l m s }) ∙ ap numbered q

pub answers : {a : Answer} {n : ℕ} {l : List ℕ} {y : Located} → n ≡ number_of a → Locates a l y → Answers n l y
answers {l = l} e q = (λ i. record { number = e i; answers = l }) ∙ ap counted q

pub lists : {a : Answer} {n : ℕ} {l : List ℕ} {y : Windowed} → n ≡ number_of a → Windows a l y → Lists n l y
lists {l = l} e q = (λ i. record { number = e i; slots = l }) ∙ ap listed q

pub done : {a : Answer} {d : ℕ} → a ≡ Ok d → d ≡ number_of a
done {d = d} e = plain d ∙ sym (ap number_of e)
  where
    plain : (d : ℕ) → d ≡ 0 * 4294967296 + d
    plain d = omega arith
