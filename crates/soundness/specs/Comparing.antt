-- What the steps of the test may count on.
use Rattle.std.specs.Prelude.{◌≡◌, true, List, ℕ}
use Rattle.algebra.specs.Words.{every}
use Rattle.definitions.specs.Tables.{lengths_fit, slot_sound, slots_of}
use Rattle.tables.specs.Lent.{tables, Scratch}

-- lengths that fit, and slots that are sound
pub record Slotted (lines nodes listings : List ℕ) : Type 0 where
  pub fit : lengths_fit (tables lines nodes listings) ≡ true
  pub slots : every (slot_sound lines) (slots_of lines) ≡ true

-- and scratch to build in
pub record Comparing (lines nodes listings built named : List ℕ) : Type 0 where
  pub slotted : Slotted lines nodes listings
  pub scratch : Scratch nodes listings built named
