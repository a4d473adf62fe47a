use Rattle.map.proofs.Shows.{refused_told, shows_told}
use Rattle.map.proofs.show_leaf.Goals as goal

pub returns-in-Err : goal.returns-in-Err
returns-in-Err c = refused_told _ _ _ _ c.leaf_asked.ensures c.in-Err.is

pub returns-in-Ok : goal.returns-in-Ok
returns-in-Ok c = shows_told _ _ _ _ c.leaf_asked.ensures c.in-Ok.is
