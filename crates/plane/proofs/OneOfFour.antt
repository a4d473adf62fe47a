-- Lines conflict exactly if one of the four kinds holds.
use Rattle.std.specs.Prelude.{◌↔◌}
use Rattle.definitions.specs.declared.Kind.{Kind}
use Rattle.definitions.specs.Shape.{Line, kind_of}
use Rattle.definitions.specs.Meaning.{Conflicts, KindIs}
use Rattle.plane.specs.Segments.{Proper}
use Rattle.plane.specs.Crossing.{conflict_iff}
use Rattle.plane.specs.Kinds.{kind_told, kind_conflicts}

pub conflict_kinds : (l m : Line) → Proper l → Proper m → Conflicts l m ↔ ((k : Kind) × KindIs l m k)
conflict_kinds l m pl pm = (
  λ c. (kind_of l m, kind_told l m pl pm ((conflict_iff l m pl pm).1 c)),
  λ h. kind_conflicts l m pl h.0 h.1,
)
