-- What show leaf promises of the part that it hands back.
use Rattle.std.specs.Prelude.{◌≡◌, List, ℕ, ◌+◌, ◌*◌}
use Rattle.std.specs.Borrow.{Bor}
use Rattle.definitions.specs.Lookup.{Showing}

-- the part is the caller's own: it starts so many entries of 2 bytes after the caller's listing table, and has these entries
abbrev pub HandsBack : Bor (List ℕ) → Bor (List ℕ) → Showing → Type 0
HandsBack part listings y = (part.now ≡ y.part) × (part.ref_ptr ≡ (listings.ref_ptr.0, y.first * 2 + listings.ref_ptr.1))
