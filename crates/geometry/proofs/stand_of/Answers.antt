use Rattle.definitions.specs.declared.Point.{Point}
use Rattle.geometry.specs.declared.Line as code
use Rattle.algebra.specs.Words.{is_zero}
use Rattle.meaning.specs.Ahead.{beyond}
use Rattle.definitions.specs.Lookup.{west_end, east_end}
use Rattle.definitions.specs.Shape.{Line, turn, between}
use Rattle.geometry.specs.Bits.{told}
use Rattle.geometry.specs.Range.{eastward_ends}
use Rattle.geometry.specs.Look.{stand_1, stand_2, stand_3, stand_4, stand_5}
use Rattle.geometry.specs.Means.{line_of}
use lib.Dec.{ltb}
use Prim.Native.Nat.{min, max}
use mathlib.Core.Bool.{Bool, ◌&&◌}
use mathlib.Core.Path.{◌≡◌, ◌∙◌, sym, ap, ap₂}
use Rattle.geometry.proofs.stand_of.Goals as goal

-- what is told of the ends of the line turned eastward is so of the west end and the east end
of_ends : (l : Line) {e : code.Line} (f : Point → Point → Bool) → (e.a ≡ west_end l) × (e.b ≡ east_end l) → {b : Bool} → f e.a e.b ≡ b → f (west_end l) (east_end l) ≡ b
of_ends l f is h = sym (ap₂ f is.0 is.1) ∙ h

pub returns-then-not-between : goal.returns-then-not-between
returns-then-not-between c =
    stand_1 c.args.south (line_of c.args.l) c.args.p (sym c.between.ensures ∙ c.if-not-between.true)

pub turn-t-requires : goal.turn-t-requires
turn-t-requires c = let s = c.requires in let e = eastward_ends (line_of c.eastward-e.result) c.eastward-e.ensures s.0 in (e.first, e.second, s.1)

pub returns-then-between : goal.returns-then-between
returns-then-between c = let g = c.args in
    stand_2 g.south (line_of g.l) g.p (sym c.between.ensures ∙ c.if-not-between.false)
    (of_ends (line_of g.l) (λ a e. is_zero (turn a e g.p)) c.eastward-e.ensures (told is_zero c.turn-t.type_inv c.turn-t.ensures c.straight.ensures ∙ c.if-straight.true))
    (of_ends (line_of g.l) (λ a e. between (min a.y.0 e.y.0) g.p.y.0 (max a.y.0 e.y.0)) c.eastward-e.ensures (sym c.between-then-straight.ensures ∙ c.if-between.true))

pub returns-then-straight : goal.returns-then-straight
returns-then-straight c = let g = c.args in
    stand_3 g.south (line_of g.l) g.p (sym c.between.ensures ∙ c.if-not-between.false)
    (of_ends (line_of g.l) (λ a e. is_zero (turn a e g.p)) c.eastward-e.ensures (told is_zero c.turn-t.type_inv c.turn-t.ensures c.straight.ensures ∙ c.if-straight.true))
    (of_ends (line_of g.l) (λ a e. between (min a.y.0 e.y.0) g.p.y.0 (max a.y.0 e.y.0)) c.eastward-e.ensures (sym c.between-then-straight.ensures ∙ c.if-between.false))

pub passes-requires : goal.passes-requires
passes-requires c = sym c.straight.ensures ∙ c.if-straight.false

pub returns-then-passes-p : goal.returns-then-passes-p
returns-then-passes-p c = let g = c.args in
    stand_4 g.south (line_of g.l) g.p (sym c.between.ensures ∙ c.if-not-between.false)
    (of_ends (line_of g.l) (λ a e. is_zero (turn a e g.p)) c.eastward-e.ensures (told is_zero c.turn-t.type_inv c.turn-t.ensures c.straight.ensures ∙ c.if-straight.false))
    (of_ends (line_of g.l) (λ a e. beyond g.south (turn a e g.p) && ltb g.p.x.0 e.x.0) c.eastward-e.ensures (ap (λ t. t && ltb g.p.x.0 c.eastward-e.result.b.x.0) (told (beyond g.south) c.turn-t.type_inv c.turn-t.ensures c.passes.ensures) ∙ c.if-passes-p.true))

pub returns : goal.returns
returns c = let g = c.args in
    stand_5 g.south (line_of g.l) g.p (sym c.between.ensures ∙ c.if-not-between.false)
    (of_ends (line_of g.l) (λ a e. is_zero (turn a e g.p)) c.eastward-e.ensures (told is_zero c.turn-t.type_inv c.turn-t.ensures c.straight.ensures ∙ c.if-straight.false))
    (of_ends (line_of g.l) (λ a e. beyond g.south (turn a e g.p) && ltb g.p.x.0 e.x.0) c.eastward-e.ensures (ap (λ t. t && ltb g.p.x.0 c.eastward-e.result.b.x.0) (told (beyond g.south) c.turn-t.type_inv c.turn-t.ensures c.passes.ensures) ∙ c.if-passes-p.false))
