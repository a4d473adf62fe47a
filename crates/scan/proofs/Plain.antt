-- The laws of a plain search: what it finds is what is asked for.
use mathlib.Core.Path.{◌≡◌, sym, ap, ◌∙◌, subst}
use mathlib.Core.Bool.{Bool}
use mathlib.Core.List.{List}
use Prim.Native.Nat.{ℕ}
use Rattle.algebra.specs.Words.{those}
use Rattle.definitions.specs.declared.Point.{Point}
use Rattle.definitions.specs.Shape.{on}
use Rattle.definitions.specs.Tables.{live_lines}
use Rattle.geometry.specs.Range.{End}
use Rattle.meaning.specs.Found.{Found}
use Rattle.std.specs.Prelude.{None}
use Rattle.meaning.specs.Ahead.{counts, ahead_by_turns}
use Rattle.meaning.specs.Answering.{live→}
use Rattle.meaning.specs.Best.{scan}
use Rattle.meaning.specs.Column.{BestOf}
use Rattle.meaning.specs.Locate.{first_on, first_slot, answer_first, none_first}
use Rattle.meaning.specs.Plain.{all_through, plain_best}
use Rattle.scan.specs.declared.Scan.{Scan}
use Rattle.scan.specs.declared.Scan.TheVariants as Scanned
use Rattle.scan.specs.Asked.{none, Scannable, ScanIs, Plain, SearchIs}
use Rattle.scan.specs.Told.{live_on_map}

module _ {lines live : List ℕ} (d : Bool) (p : Point) (h : Plain lines live) where
  pub all_scannable : End p → Scannable lines live d p None
  all_scannable e = record { point = e; on_map = λ s m. live_on_map lines s h.slots (live→ lines s (rw h.all at m)); on_way = none }

  through : first_on lines p live ≡ first_slot (those (on p) (live_lines lines))
  through = ap (first_on lines p) h.all ∙ all_through lines p

  pub plain_found : (r : Scan) → ScanIs lines d p None live r → SearchIs lines d p r
  plain_found (Scanned.On s) e = answer_first lines p (sym through ∙ e)
  plain_found (Scanned.Best c) n = record {
    none_on = none_first lines p (sym through ∙ n.none_on);
    best = subst (λ (x : Found). BestOf lines d p x) (ap (scan lines (counts d p) (ahead_by_turns d) None) (sym h.all) ∙ sym n.best) (plain_best lines p h.apart d);
    on_way = n.on_way;
  }
