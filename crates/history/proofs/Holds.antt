-- Demand 3 holds, over any fair rule, and so of the base rule.
use Rattle.definitions.specs.Calls.{cleared}
use Rattle.definitions.specs.History.{Call, after_all}
use Rattle.definitions.specs.Tables.{Tables, lengths_fit}
use Rattle.definitions.specs.Tree.{Rule, base_rule}
use Rattle.meaning.specs.Fair.{Fair}
use Rattle.meaning.specs.Rules.{base_fair}
use Rattle.meaning.specs.Sound.{sound←}
use Rattle.history.proofs.Answers.{history_ready, deleted_8}
use Rattle.history.specs.Demand.{Demand3}
use Rattle.history.proofs.Equal.{equal_trees}
use Rattle.history.proofs.Ledger.{all_distinct}
use Rattle.history.proofs.Restores.{restores}
use Rattle.history.proofs.Stands.{live_stands}
use Rattle.std.specs.Prelude.{◌≡◌, true, List}

pub demand_3 : (rule : Rule) (fair : Fair rule) (t : Tables) → lengths_fit t ≡ true → (cs : List Call) → Demand3 rule t cs
demand_3 rule fair t e cs =
    let r = history_ready rule fair t e cs in
    record {
      distinct = all_distinct rule cs (cleared t);
      refused = deleted_8 rule fair t e cs;
      live = live_stands rule t cs;
      shown = sound← rule _ r.ok;
      fixed = λ u f ds s. equal_trees rule fair _ _ r.ok (history_ready rule fair u f ds).ok s;
      restored = restores rule fair (after_all rule (cleared t) cs);
    }

pub base_demand_3 : (t : Tables) → lengths_fit t ≡ true → (cs : List Call) → Demand3 base_rule t cs
base_demand_3 = demand_3 base_rule base_fair
