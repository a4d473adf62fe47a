-- A map whose slots are sound: what building the tree anew, comparing and trying the lines says of the whole.
use Rattle.std.specs.Prelude.{◌≡◌, Bool, ◌&&◌, length}
use Rattle.std.proofs.Math.Path.{refl, sym}
use Rattle.std.proofs.Common.{◌∙◌, le-leb}
use Rattle.std.proofs.Math.Bool.{true, false}
use Rattle.algebra.specs.Words.{every, same_list}
use Rattle.algebra.specs.Tests.{no_path, and_l, and_r, and_b, false_by}
use Rattle.definitions.specs.Tree.{Rule}
use Rattle.definitions.specs.Tables.{Tables, slot_sound, slots_of, none_conflict, node_table, listing_table, sound}
use Rattle.definitions.specs.Calls.{room_for}
use Rattle.meaning.specs.Sound.{sound→, fits_nodes, fits_listings}

module _ (rule : Rule) (t : Tables) where
  abbrev slotted : Type 0
  slotted = every (slot_sound t.lines) (slots_of t.lines) ≡ true

  abbrev same_nodes : Bool
  same_nodes = same_list t.nodes (node_table rule (length t.nodes) t.lines)

  abbrev same_listings : Bool
  same_listings = same_list t.listings (listing_table rule (length t.listings) t.lines)

  pub bad_slots : every (slot_sound t.lines) (slots_of t.lines) ≡ false → sound rule t ≡ false
  bad_slots e = false_by _ (λ k. no_path (sym e ∙ (sound→ rule t k).slots))

  pub no_room : room_for rule t t.lines ≡ false → sound rule t ≡ false
  unfolding room_for
  no_room e = false_by _ (λ k. no_path (sym e ∙ and_b _ _ (le-leb _ _ (fits_nodes rule t (sound→ rule t k))) (le-leb _ _ (fits_listings rule t (sound→ rule t k)))))

  pub other_nodes : same_nodes ≡ false → sound rule t ≡ false
  unfolding sound
  other_nodes e = false_by _ (λ k. no_path (sym e ∙ and_r (every (slot_sound t.lines) (slots_of t.lines) && none_conflict t.lines) same_nodes (and_l _ same_listings k)))

  pub other_listings : same_listings ≡ false → sound rule t ≡ false
  unfolding sound
  other_listings e = false_by _ (λ k. no_path (sym e ∙ and_r (every (slot_sound t.lines) (slots_of t.lines) && none_conflict t.lines && same_nodes) same_listings k))

  pub all_same : slotted → same_nodes ≡ true → same_listings ≡ true → none_conflict t.lines ≡ sound rule t
  unfolding sound
  all_same a c d = sym (rw (a, c, d) (last (none_conflict t.lines)))
    where
      last : (b : Bool) → (true && b && true && true) ≡ b
      last true = refl
      last false = refl
