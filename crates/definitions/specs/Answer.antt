-- What a call answers: the detail of a call that is done, or the refusal.
use Rattle.std.specs.Prelude.{ℕ, Result}
use Rattle.definitions.specs.declared.Refusal.{Refusal}

abbrev pub Answer : Type 0
Answer = Result ℕ Refusal
