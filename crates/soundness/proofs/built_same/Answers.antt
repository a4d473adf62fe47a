-- `soundness::built_same` meets its contract: the tables built into scratch are those of the live lines, and the leaves' test is that of all pairs.
use mathlib.Core.Path.{sym, ◌∙◌}
use native.Mathlib.Omega.{arith}
use Rattle.tables.specs.Lent.{as_many, as_listed}
use Rattle.soundness.proofs.Compared.{good, none_fits, nodes_differ, listings_differ, to_try, tried}
use Rattle.soundness.proofs.built_same.Goals as goal

pub build-requires : goal.build-requires
build-requires c = good c.requires

pub returns-in_default : goal.returns-in_default
returns-in_default c = none_fits c.requires c.build.ensures c.in_default.is

pub same-requires : goal.same-requires
same-requires c = let w = c.requires in omega (arith, as_many w.scratch)

pub returns-then-not-same : goal.returns-then-not-same
returns-then-not-same c = let w = c.requires in nodes_differ w c.build.ensures c.in-Some.is (sym c.same.ensures ∙ c.if-not-same.true)

pub same-requires-2 : goal.same-requires-2
same-requires-2 c = let w = c.requires in omega (arith, as_listed w.scratch)

pub returns-then-not-same-2 : goal.returns-then-not-same-2
returns-then-not-same-2 c = let w = c.requires in listings_differ w c.build.ensures c.in-Some.is (sym c.same-2.ensures ∙ c.if-not-same-2.true)

pub conflicts_in_leaves-requires : goal.conflicts_in_leaves-requires
conflicts_in_leaves-requires c = let w = c.requires in to_try w c.build.ensures c.in-Some.is (sym c.same.ensures ∙ c.if-not-same.false) (sym c.same-2.ensures ∙ c.if-not-same-2.false)

pub returns : goal.returns
returns c = let w = c.requires in tried w c.build.ensures c.in-Some.is (sym c.same.ensures ∙ c.if-not-same.false) (sym c.same-2.ensures ∙ c.if-not-same-2.false) c.conflicts_in_leaves.ensures
