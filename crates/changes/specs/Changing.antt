-- What the steps of insert and delete may count on, and what they leave.
use Rattle.std.specs.Prelude.{◌≡◌, Bool, true, false, List, [], ℕ, ◌+◌, ◌*◌, ◌/◌, ◌≤◌, length, Some}
use Rattle.std.proofs.Common.{sym, subst}
use Rattle.algebra.specs.Words.{every}
use Rattle.definitions.specs.declared.Given.{Given}
use Rattle.definitions.specs.Tree.{Rule}
use Rattle.definitions.specs.Tables.{Tables, lengths_fit, slot_sound, slots_of, is_live}
use Rattle.definitions.specs.Calls.{rebuilt, room_for, all_on_grid, no_length, conflicting, free_slots, known, with_slot}
use Rattle.tables.specs.declared.Row.{Row}
use Rattle.tables.specs.Rows.{entries_of}
use Rattle.tables.specs.Slots.{first_slot_of}
use Rattle.tables.specs.Sound.{known_slot}
use Rattle.tables.specs.Lent.{tables, Passed, Scratch}

-- ---- insert

-- a row to be put in place leaves all slots sound
pub record Room (lines nodes listings : List ℕ) (slot : ℕ) (row : Row) : Type 0 where
  pub fit : lengths_fit (tables lines nodes listings) ≡ true
  pub there : 8 * slot + 8 ≤ length lines
  pub slots : every (slot_sound (with_slot lines slot (entries_of row))) (slots_of (with_slot lines slot (entries_of row))) ≡ true

-- and there is scratch
pub record Putting (lines nodes listings : List ℕ) (slot : ℕ) (row : Row) (built named : List ℕ) : Type 0 where
  pub room : Room lines nodes listings slot row
  pub scratch : Scratch nodes listings built named

-- put: the tables of the new lines, where there is room for their tree; else nothing is changed
abbrev pub Put : Rule → Tables → List ℕ → Tables → Bool → Type 0
Put rule t new after true = (room_for rule t new ≡ true) × (after ≡ rebuilt rule t new)
Put rule t new after false = (room_for rule t new ≡ false) × (after ≡ t)

-- a line that has passed refusals 3, 4 and 5, and the lowest free slot
pub record Placing (rule : Rule) (lines nodes listings : List ℕ) (slot : ℕ) (g : Given) : Type 0 where
  pub passed : Passed rule lines nodes listings
  pub grid : all_on_grid g ≡ true
  pub long : no_length g ≡ false
  pub clear : conflicting lines g ≡ []
  pub free : first_slot_of (free_slots lines) ≡ Some slot

-- ---- delete

pub record Taking (rule : Rule) (lines nodes listings : List ℕ) (slot : ℕ) : Type 0 where
  pub passed : Passed rule lines nodes listings
  pub there : 8 * slot + 8 ≤ length lines
  pub lives : is_live lines slot ≡ true

-- the slot of a known handle may be taken
pub to_take : {rule : Rule} {lines nodes listings : List ℕ} (h : ℕ) {slot : ℕ} → Passed rule lines nodes listings → known lines h ≡ true → slot ≡ h / 65536 → Taking rule lines nodes listings slot
to_take {rule} {lines} {nodes} {listings} h w k e =
    let u = known_slot lines h k in
    subst (λ (s : ℕ). Taking rule lines nodes listings s) (sym e) (record { passed = w; there = u.there; lives = u.lives })
