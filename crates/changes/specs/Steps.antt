-- Insert as a walk through its refusals: what it replies where the tests so far came out so.
use Rattle.std.specs.Prelude.{◌≡◌, true, false, List, [], ◌∷◌, ℕ, ◌+◌, ◌*◌, Ok, Err}
use Rattle.std.proofs.Math.Path.{refl}
use Rattle.definitions.specs.declared.Refusal.TheVariants.{Lengths, Damaged, OffGrid, NoLength, Conflict, NoSlot, NoRoom}
use Rattle.definitions.specs.declared.Given.{Given}
use Rattle.definitions.specs.Tree.{Rule}
use Rattle.definitions.specs.Tables.{Tables, lengths_fit, sound, generation}
use Rattle.definitions.specs.Calls.{reply, all_on_grid, no_length, conflicting, conflict_detail, free_slots, placed, rebuilt, room_for, insert_of}

module _ (rule : Rule) (t : Tables) (g : Given) where
  pub insert_1 : lengths_fit t ≡ false → insert_of rule t g ≡ reply (Err Lengths) t
  unfolding insert_of
  insert_1 e = rw e refl

  module _ (fit : lengths_fit t ≡ true) where
    pub insert_2 : sound rule t ≡ false → insert_of rule t g ≡ reply (Err Damaged) t
    unfolding insert_of
    insert_2 e = rw (fit, e) refl

    module _ (ok : sound rule t ≡ true) where
      pub insert_3 : all_on_grid g ≡ false → insert_of rule t g ≡ reply (Err OffGrid) t
      unfolding insert_of
      insert_3 e = rw (fit, ok, e) refl

      module _ (grid : all_on_grid g ≡ true) where
        pub insert_4 : no_length g ≡ true → insert_of rule t g ≡ reply (Err NoLength) t
        unfolding insert_of
        insert_4 e = rw (fit, ok, grid, e) refl

        module _ (long : no_length g ≡ false) where
          pub insert_5 : (s : ℕ) (more : List ℕ) → conflicting t.lines g ≡ s ∷ more → insert_of rule t g ≡ reply (Err (Conflict (conflict_detail t.lines s g))) t
          unfolding insert_of
          insert_5 s more e = rw (fit, ok, grid, long, e) refl

          module _ (clear : conflicting t.lines g ≡ []) where
            pub insert_6 : free_slots t.lines ≡ [] → insert_of rule t g ≡ reply (Err NoSlot) t
            unfolding insert_of
            insert_6 e = rw (fit, ok, grid, long, clear, e) refl

            module _ (s : ℕ) (more : List ℕ) (free : free_slots t.lines ≡ s ∷ more) where
              pub insert_7 : room_for rule t (placed t.lines s g) ≡ false → insert_of rule t g ≡ reply (Err NoRoom) t
              unfolding insert_of
              insert_7 e = rw (fit, ok, grid, long, clear, free, e) refl

              pub insert_0 : room_for rule t (placed t.lines s g) ≡ true
                  → insert_of rule t g ≡ reply (Ok (s * 65536 + (generation t.lines s + 1))) (rebuilt rule t (placed t.lines s g))
              unfolding insert_of
              insert_0 e = rw (fit, ok, grid, long, clear, free, e) refl
