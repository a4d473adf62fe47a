-- `path::turn_off` meets its contract. The invariant: no level passed so far has its other son on the way.
use mathlib.Core.Path.{◌≡◌}
use mathlib.Core.Bool.{not}
use Prim.Native.Nat.{ℕ, ◌≤◌, ◌<◌}
use Rattle.path.specs.Asked.{went_up}
use Rattle.path.proofs.turn_off.Given as goal

abbrev pub invariant-loop-level : goal.invariant-loop-level
invariant-loop-level l = (i : ℕ) → l.level ≤ i → i < l.from → went_up l.path l.p i ≡ not l.south
