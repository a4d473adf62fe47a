-- The point that a fan is parted by.
use Rattle.std.specs.Prelude.{List, [], ◌∷◌, ℕ, ◌+◌, ◌/◌, ◌%◌, eqb, length, get_or, if◌then◌else◌}
use Rattle.definitions.specs.declared.Point.{Point}
use Rattle.definitions.specs.Shape.{Line, same_point}
use Rattle.definitions.specs.Tables.{line_at}

-- the end of a line at v that is not v
unfoldable pub far_end : Point → Line → Point
far_end v l = if same_point l.a v then l.b else l.a

abbrev pub far_at : List ℕ → Point → ℕ → Point
far_at lines v s = far_end v (line_at lines s)

unfoldable pub sum_of : (ℕ → ℕ) → List ℕ → ℕ
sum_of f [] = 0
sum_of f (s ∷ more) = f s + sum_of f more

-- the mean of the far ends, rounded down
unfoldable pub mean_end : List ℕ → Point → List ℕ → Point
mean_end lines v slots = record {
  x = record { 0 = sum_of (λ s. (far_at lines v s).x.0) slots / length slots };
  y = record { 0 = sum_of (λ s. (far_at lines v s).y.0) slots / length slots };
}

-- by turns the far end of the middle slot's line and the mean
unfoldable pub pivot_of : List ℕ → Point → List ℕ → ℕ → Point
pivot_of lines v slots depth = if eqb (depth % 2) 0 then far_at lines v (get_or slots (length slots / 2) 0) else mean_end lines v slots
