use mathlib.Core.Path.{subst}
use native.Mathlib.Omega.{arith}
use Rattle.definitions.specs.declared.Point.{Point}
use Rattle.walk.specs.Index.{LeafOver}
use Rattle.showing.proofs.Finds.{searchable}
use Rattle.showing.proofs.leaf_of.Goals as goal

pub leaf_over-requires : goal.leaf_over-requires
leaf_over-requires c = searchable c.requires.0 c.index_nodes.ensures (omega arith)

pub returns : goal.returns
returns c = λ t s. subst (λ (p : Point). LeafOver p t c.leaf_over.result) c.point_of.ensures (c.leaf_over.ensures t s (c.index_nodes.ensures t s))
