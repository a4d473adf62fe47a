use Rattle.std.proofs.Common.{rules}
use native.Mathlib.Omega.{arith}
use lib.Seq.{take_all}
use borrow.Author.Tests.{tests}
use Rattle.std.proofs.lemmas.Iterator.{YieldsList-from_slice}
use Rattle.std.proofs.lemmas.Iterator.Adapters.{serves_from_places}
use Rattle.std.proofs.lemmas.Iterator.Search.{all_from_yields_List}
use Rattle.leaves.specs.Sides.{ends_at}
use Rattle.leaves.proofs.Turns.{good_in, parts, all_of_all}
use Rattle.leaves.proofs.Fan.{ends_told}
use Rattle.leaves.proofs.all_end_at.Goals as goal

pub all-requires-clause-callable : goal.all-requires-clause-callable
all-requires-clause-callable c =
    serves_from_places (YieldsList-from_slice _ c.iter.ensures.rest) (λ x q k. search (rules, tests))
    (λ x k a b. let m = (good_in c.requires (search parts) a b).on_map in search rules)

pub returns : goal.returns
returns c =
    all_of_all _
    (all_from_yields_List (ends_at c.args.lines.now c.args.v) _ _ _ c.all.ensures.ran (YieldsList-from_slice _ c.iter.ensures.rest)
    (λ x b q k. (search (rules, tests), search (rules, ends_told))))
    (search (take_all, arith))
