-- The slots found, and the list that they go into: what is answered where it is too short, and where it has room.
use Rattle.std.specs.Prelude.{◌≡◌, refl, ℕ, ◌≤◌, ◌<◌, take, Ok, Err}
use Rattle.std.proofs.Math.Path.{sym, ap}
use Rattle.std.proofs.Common.{◌∙◌, lt-ltb, le-ltb}
use mathlib.Core.List.{List}
use Rattle.std.proofs.Math.ListN.{length}
use Rattle.algebra.specs.Lists.{over_front}
use Rattle.algebra.specs.Words.{over}
use Rattle.definitions.specs.declared.Refusal.TheVariants.{ListShort}
use Rattle.definitions.specs.Window.{windowed, listed_in}
use Rattle.tables.specs.Gathered.{Front}
use Rattle.tables.specs.Lent.{Windows}

module _ {slots before found : List ℕ} {n : ℕ} (front : Front slots before found n) (list : List ℕ) where
  pub list_short : length list < n → Windows (Err ListShort) list (listed_in slots list)
  unfolding listed_in
  list_short h = sym (rw (lt-ltb (length list) (length slots) (rw front.count at h)) refl)

  pub list_filled : {after : List ℕ} → n ≤ length list → after ≡ over 0 (take n found) list → Windows (Ok n) after (listed_in slots list)
  unfolding listed_in
  list_filled {after} h e =
      let room : length slots ≤ length list = rw front.count at h in
      let laid : after ≡ _ = e ∙ ap (λ (z : List ℕ). over 0 z list) front.front ∙ over_front slots list room in
      (λ i. windowed (Ok (front.count i)) (laid i)) ∙ sym (rw (le-ltb (length list) (length slots) room) refl)
