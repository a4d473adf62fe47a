use Rattle.tree.proofs.Sequence.{put_over}
use mathlib.Core.Path.{refl}
use mathlib.Core.Logic.{inr}
use native.Mathlib.Omega.{arith}
use Rattle.algebra.specs.Words.{over}
use Rattle.tree.proofs.put_leaf.Goals as goal

pub returns-then-listings-listing : goal.returns-then-listings-listing
returns-then-listings-listing c = inr (omega arith)

pub returns : goal.returns
unfolding over
returns c =
    record {
      next_node = omega arith;
      next_listing = omega arith;
      nodes_fit = omega (arith, c.requires);
      listings_fit = omega (arith, c.requires);
      nodes_are = refl;
      listings_are = put_over c.args.at.listing c.args.listings.now c.args.slots.now (omega (arith, c.requires)) _ c.copy.ensures;
    }
