use Rattle.std.specs.Prelude.{Err}
use mathlib.Core.Path.{sym, ap, ◌∙◌}
use Prim.Native.Nat.{ℕ}
use Rattle.definitions.specs.declared.Refusal.TheVariants.{Conflict}
use Rattle.definitions.specs.Calls.{reply}
use Rattle.definitions.specs.Tree.{base_rule}
use Rattle.tables.specs.Lent.{tables}
use Rattle.tables.specs.Slots.{first_at, first_none}
use Rattle.changes.specs.Steps.{insert_3, insert_4, insert_5, insert_6}
use Rattle.changes.proofs.Inserts.{conflict_there, tested}
use Rattle.changes.proofs.insert_sound.Goals as goal

pub returns-then-not-all_on_grid : goal.returns-then-not-all_on_grid
returns-then-not-all_on_grid c = sym (insert_3 base_rule _ _ c.requires.fit c.requires.ok (sym c.all_on_grid.ensures ∙ c.if-not-all_on_grid.true))

pub returns-then-no_length : goal.returns-then-no_length
returns-then-no_length c = sym (insert_4 base_rule _ _ c.requires.fit c.requires.ok (sym c.all_on_grid.ensures ∙ c.if-not-all_on_grid.false) (sym c.no_length.ensures ∙ c.if-no_length.true))

pub first_conflict-requires : goal.first_conflict-requires
first_conflict-requires c = tested c.requires (sym c.all_on_grid.ensures ∙ c.if-not-all_on_grid.false) (sym c.no_length.ensures ∙ c.if-no_length.false)

pub conflict_detail-requires : goal.conflict_detail-requires
conflict_detail-requires c =
    let h = conflict_there c.requires c.args.g (sym c.first_conflict.ensures ∙ c.in-Some.is) in
    (h.0, h.1, sym c.all_on_grid.ensures ∙ c.if-not-all_on_grid.false)

pub returns-in-Some : goal.returns-in-Some
returns-in-Some c =
    let f = first_at _ (sym c.first_conflict.ensures ∙ c.in-Some.is) in
    ap (λ (d : ℕ). reply (Err (Conflict d)) (tables c.args.lines.now c.args.nodes.now c.args.listings.now)) c.conflict_detail.ensures
    ∙ sym (insert_5 base_rule _ _ c.requires.fit c.requires.ok (sym c.all_on_grid.ensures ∙ c.if-not-all_on_grid.false) (sym c.no_length.ensures ∙ c.if-no_length.false) _ f.0 f.1)

pub returns-in_default-free_slot : goal.returns-in_default-free_slot
returns-in_default-free_slot c = sym (insert_6 base_rule _ _ c.requires.fit c.requires.ok (sym c.all_on_grid.ensures ∙ c.if-not-all_on_grid.false) (sym c.no_length.ensures ∙ c.if-no_length.false) (first_none _ (sym c.first_conflict.ensures ∙ c.in_default.is)) (first_none _ (sym c.free_slot.ensures ∙ c.in_default-free_slot.is)))

pub place-requires : goal.place-requires
place-requires c = record { passed = c.requires; grid = sym c.all_on_grid.ensures ∙ c.if-not-all_on_grid.false; long = sym c.no_length.ensures ∙ c.if-no_length.false; clear = first_none _ (sym c.first_conflict.ensures ∙ c.in_default.is); free = sym c.free_slot.ensures ∙ c.in-Some-free_slot.is }
