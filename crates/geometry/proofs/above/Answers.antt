use Rattle.std.proofs.Common.{ap, ◌∙◌, w32}
use borrow.Author.Rules.{sfits_of}
use Rattle.std.specs.Int.{int_max}
use Rattle.std.specs.Prelude.{pos}
use Rattle.std.proofs.lemmas.Int.{to_z-of_z}
use Rattle.geometry.specs.Parts.{max_over}
use Rattle.geometry.proofs.above.Goals as goal

pub returns : goal.returns
returns c =
    let t = c.args.t in
    to_z-of_z w32 c.max.result (sfits_of c.max.type_inv) ∙ c.max.ensures.value ∙ ap (λ z. int_max z (pos 0)) (to_z-of_z w32 t c.ranges.t) ∙ max_over t
