use Rattle.std.proofs.Common.{sym, ◌∙◌}
use borrow.Author.Tests.{eqb-true, eqb-false}
use Rattle.geometry.specs.Means.{block_of}
use Rattle.rule.proofs.Rule.{no_candidate, both_told, first_of, first_candidate, rest_candidates, both_inside, alone, first_inside, second_inside, many}
use Rattle.rule.proofs.simple.Goals as goal

pub returns-in_default : goal.returns-in_default
returns-in_default c =
    no_candidate c.args.lines.now (block_of c.args.k) c.args.slots.now c.in_default.ensures.cases

pub line_at-l-requires : goal.line_at-l-requires
line_at-l-requires c = (first_candidate c.in-Some.ensures.cases.0 c.requires).good.on_map

pub returns-then-first-second : goal.returns-then-first-second
returns-then-first-second c =
    both_inside (first_of c.in-Some.ensures.cases.0 c.requires c.line_at-l.ensures)
    (both_told c.inside-first.ensures c.inside-second.ensures c.if-first-second.true)

pub returns-then-is_empty : goal.returns-then-is_empty
returns-then-is_empty c =
    alone (first_of c.in-Some.ensures.cases.0 c.requires c.line_at-l.ensures)
    (eqb-true _ _ (sym c.if-is_empty.ensures)) (both_told c.inside-first.ensures c.inside-second.ensures c.if-first-second.false)

pub all_hang_on-requires : goal.all_hang_on-requires
all_hang_on-requires c = rest_candidates (first_of c.in-Some.ensures.cases.0 c.requires c.line_at-l.ensures)

pub returns-then-first : goal.returns-then-first
returns-then-first c =
    c.all_hang_on.ensures
    ∙ first_inside (first_of c.in-Some.ensures.cases.0 c.requires c.line_at-l.ensures)
    (sym c.if-first.ensures) (both_told c.inside-first.ensures c.inside-second.ensures c.if-first-second.false)

pub all_hang_on-requires-then-second : goal.all_hang_on-requires-then-second
all_hang_on-requires-then-second c = rest_candidates (first_of c.in-Some.ensures.cases.0 c.requires c.line_at-l.ensures)

pub returns-then-second : goal.returns-then-second
returns-then-second c =
    c.all_hang_on-then-second.ensures
    ∙ second_inside (first_of c.in-Some.ensures.cases.0 c.requires c.line_at-l.ensures)
    (sym c.if-first.ensures) (sym c.if-second.ensures)

pub returns : goal.returns
returns c =
    many (first_of c.in-Some.ensures.cases.0 c.requires c.line_at-l.ensures)
    (sym c.if-first.ensures) (sym c.if-second.ensures) (eqb-false _ _ (sym c.if-is_empty.ensures))
