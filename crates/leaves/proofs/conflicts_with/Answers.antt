use Rattle.std.proofs.Common.{rules}
use native.Mathlib.Omega.{arith}
use lib.Seq.{take_all}
use borrow.Author.Tests.{tests}
use Rattle.std.proofs.lemmas.Iterator.{YieldsList-from_slice}
use Rattle.std.proofs.lemmas.Iterator.Adapters.{serves_from_places}
use Rattle.std.proofs.lemmas.Iterator.Search.{any_from_yields_List}
use Rattle.definitions.specs.Shape.{conflict}
use Rattle.definitions.specs.Tables.{line_at}
use Rattle.geometry.specs.Means.{line_of}
use Rattle.leaves.specs.Pass.{clear_of}
use Rattle.leaves.proofs.Turns.{good_in, conflict_asked, parts, any_of_all, conflict_told}
use Rattle.leaves.proofs.conflicts_with.Goals as goal

pub any-requires-clause-callable : goal.any-requires-clause-callable
any-requires-clause-callable c =
    serves_from_places (YieldsList-from_slice _ c.iter.ensures.rest) (λ x q k. search (rules, tests))
    (λ x k a b.
    let g = good_in c.requires.0 (search parts) a b in
    let asked = conflict_asked g c.requires.1 c.requires.2 in
    let m = g.on_map in (search rules, search rules))

pub returns : goal.returns
unfolding clear_of
returns c =
    any_of_all _
    (any_from_yields_List (λ s. conflict (line_of c.args.l) (line_at c.args.lines.now s)) _ _ _ c.any.ensures.ran (YieldsList-from_slice _ c.iter.ensures.rest)
    (λ x b q k. (search (rules, tests), search (rules, conflict_told))))
    (search (take_all, arith))
