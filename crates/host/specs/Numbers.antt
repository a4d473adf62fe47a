-- What the C host gets: one 64-bit number, and every entry of the lent tables and lists afterwards.
use Rattle.std.specs.Prelude.{◌≡◌, List, ℕ, ◌+◌, ◌*◌}
use Rattle.definitions.specs.Calls.{Reply, number_of}
use Rattle.definitions.specs.Lookup.{Located}
use Rattle.definitions.specs.Tables.{Tables}
use Rattle.definitions.specs.Window.{Windowed}
use Rattle.tables.specs.Lent.{tables}

-- the number, and the three tables
pub record Numbered : Type 0 where
  pub number : ℕ
  pub after : Tables

abbrev pub numbered : Reply → Numbered
numbered y = record { number = number_of y.answer; after = y.after }

-- the number, and the answer list
pub record Counted : Type 0 where
  pub number : ℕ
  pub answers : List ℕ

abbrev pub counted : Located → Counted
counted y = record { number = number_of y.answer; answers = y.answers }

-- the number, and the list of slots
pub record Listed : Type 0 where
  pub number : ℕ
  pub slots : List ℕ

abbrev pub listed : Windowed → Listed
listed y = record { number = number_of y.answer; slots = y.slots }

abbrev pub Tells : ℕ → List ℕ → List ℕ → List ℕ → Reply → Type 0
Tells r lines nodes listings y = (record { number = r; after = tables lines nodes listings }) ≡ numbered y

abbrev pub Answers : ℕ → List ℕ → Located → Type 0
Answers r answers y = (record { number = r; answers = answers }) ≡ counted y

abbrev pub Lists : ℕ → List ℕ → Windowed → Type 0
Lists r slots y = (record { number = r; slots = slots }) ≡ listed y

-- version 0.5.0, as major, minor and patch
abbrev pub version : ℕ
version = 0 * 1000000 + 5 * 1000 + 0
