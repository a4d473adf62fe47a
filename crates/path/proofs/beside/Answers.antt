-- `path::beside` meets its contract, by the two ways.
use mathlib.Core.Path.{refl, subst}
use mathlib.Core.Bool.{not}
use Prim.Native.Nat.{ℕ}
use Rattle.path.specs.Asked.{SonEntry, lower_one, upper_one}
use Rattle.path.proofs.beside.Goals as goal
use Rattle.path.proofs.beside.Goals.{then-south, else-south}

pub returns : goal.returns
returns c = record {
  son = c.entry_of-son.result;
  entry = subst (λ (n : ℕ). SonEntry n (not c.args.south) c.entry_of-son.result) c.from.ensures c.entry_of-son.ensures;
  node_is = c.from-2.ensures;
  block_is = elim c.if-south.branch [
    | then-south w ↦ rw (w.foot-is, w.if-south.true) (lower_one refl)
    | else-south w ↦ rw (w.foot-is, w.if-south.false) (upper_one refl)
  ];
  by_is = refl;
}
