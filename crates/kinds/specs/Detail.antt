-- The detail that insert tells is that of the slot's line and the given one.
use Rattle.std.specs.Prelude.{◌≡◌, refl, List, ℕ, ◌+◌, ◌*◌}
use Rattle.std.proofs.Common.{ap, ap₂, ◌∙◌}
use Rattle.definitions.specs.declared.Given.{Given}
use Rattle.definitions.specs.declared.Kind.{Kind}
use Rattle.definitions.specs.Shape.{Line, grid_point, is_end, parts, left_of, right_of, in_line_of, kind_of}
use Rattle.definitions.specs.Tables.{line_at}
use Rattle.definitions.specs.Calls.{given_line, kind_number, conflict_detail}
use Rattle.geometry.specs.declared.Line as code
use Rattle.geometry.specs.Means.{line_of, line_from}
use Rattle.tables.specs.Rows.{IsLine, line_is}

-- the slot number plays no part
kind_slot : (l m : Line) → kind_of (line_from l.a l.b) (line_from m.a m.b) ≡ kind_of l m
unfolding kind_of in_line_of parts is_end left_of right_of
kind_slot l m = refl

pub detail_is : (lines : List ℕ) (s : ℕ) (g : Given) {l m : code.Line} {k : Kind} {n : ℕ} → IsLine lines s l
    → (m.a ≡ grid_point g.x1 g.y1) × (m.b ≡ grid_point g.x2 g.y2) → k ≡ kind_of (line_of l) (line_of m) → n ≡ kind_number k → n * 65536 + s ≡ conflict_detail lines s g
unfolding conflict_detail given_line
detail_is lines s g e h ek en =
    ap (λ (z : ℕ). z * 65536 + s) (en ∙ ap kind_number (ek ∙ ap₂ kind_of (line_is e) (ap₂ line_from h.0 h.1) ∙ kind_slot (line_at lines s) (given_line g)))
