use Rattle.std.proofs.Common.{rules, ◌∙◌}
use borrow.Author.Tests.{tests}
use Rattle.std.proofs.lemmas.Iterator.{YieldsList-from_slice}
use Rattle.std.proofs.lemmas.Iterator.Adapters.{serves_from_places}
use Rattle.std.proofs.lemmas.Iterator.Search.{all_from_yields_List}
use Rattle.geometry.specs.Means.{block_of}
use Rattle.rule.specs.Rule.{hangs_at}
use Rattle.algebra.specs.Lists.{every_all, mem_place}
use Rattle.rule.proofs.Rule.{hangs_told}
use Rattle.rule.proofs.all_hang_on.Goals as goal

pub all-requires-clause-callable : goal.all-requires-clause-callable
all-requires-clause-callable c =
    serves_from_places (YieldsList-from_slice c.args.slots.now cc) (λ x q k. search (rules, tests))
    (λ x k a b. let m = (c.requires x.now (mem_place c.args.slots.now k a b)).good.on_map in search rules)

pub returns : goal.returns
returns c =
    all_from_yields_List (hangs_at c.args.lines.now (block_of c.args.k) c.args.v) _ _ _ c.all.ensures.ran (YieldsList-from_slice c.args.slots.now cc)
    (λ x b q k. (search (rules, tests), search (rules, hangs_told)))
    ∙ every_all _ c.args.slots.now
