-- What a search has found so far: nothing yet, or the line of a slot.
use Rattle.std.specs.Prelude.{ℕ, Option}

abbrev pub Found : Type 0
Found = Option ℕ
