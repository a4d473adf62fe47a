use Rattle.geometry.specs.Join.{fork_ac, fork_ad, fork_bc, fork_bd, touch_is}
use Rattle.geometry.specs.Means.{line_of}
use mathlib.Core.Path.{◌∙◌, sym}
use Rattle.geometry.proofs.conflict.Goals as goal

pub fork-requires : goal.fork-requires
fork-requires c = let s = c.requires in (s.2.first, s.2.second, s.3.second)

pub returns-then-same_point : goal.returns-then-same_point
returns-then-same_point c = let l = c.args.l in let m = c.args.m in
    c.fork.ensures ∙ fork_ac l.a l.b m.a m.b c.requires.0 c.requires.1 (sym c.same_point.ensures ∙ c.if-same_point.true)

pub fork-requires-then-same_point-2 : goal.fork-requires-then-same_point-2
fork-requires-then-same_point-2 c = let s = c.requires in (s.2.first, s.2.second, s.3.first)

pub returns-then-same_point-2 : goal.returns-then-same_point-2
returns-then-same_point-2 c = let l = c.args.l in let m = c.args.m in
    c.fork-then-same_point-2.ensures ∙ fork_ad l.a l.b m.a m.b c.requires.0 c.requires.1 (sym c.same_point-2.ensures ∙ c.if-same_point-2.true)

pub fork-requires-then-same_point-3 : goal.fork-requires-then-same_point-3
fork-requires-then-same_point-3 c = let s = c.requires in (s.2.second, s.2.first, s.3.second)

pub returns-then-same_point-3 : goal.returns-then-same_point-3
returns-then-same_point-3 c = let l = c.args.l in let m = c.args.m in
    c.fork-then-same_point-3.ensures ∙ fork_bc l.a l.b m.a m.b c.requires.0 c.requires.1 (sym c.same_point-3.ensures ∙ c.if-same_point-3.true)

pub fork-requires-then-same_point-4 : goal.fork-requires-then-same_point-4
fork-requires-then-same_point-4 c = let s = c.requires in (s.2.second, s.2.first, s.3.first)

pub returns-then-same_point-4 : goal.returns-then-same_point-4
returns-then-same_point-4 c = let l = c.args.l in let m = c.args.m in
    c.fork-then-same_point-4.ensures ∙ fork_bd l.a l.b m.a m.b c.requires.0 c.requires.1 (sym c.same_point-4.ensures ∙ c.if-same_point-4.true)

pub touch-requires : goal.touch-requires
touch-requires c = let s = c.requires in (s.2, s.3)

pub returns : goal.returns
returns c =
    c.touch.ensures ∙ touch_is (line_of c.args.l) (line_of c.args.m) c.requires.0 c.requires.1
    (sym c.same_point.ensures ∙ c.if-same_point.false) (sym c.same_point-2.ensures ∙ c.if-same_point-2.false)
    (sym c.same_point-3.ensures ∙ c.if-same_point-3.false) (sym c.same_point-4.ensures ∙ c.if-same_point-4.false)
