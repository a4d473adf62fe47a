-- Two results that a contract of map allows are equal, said of the contracts' own words.
use Rattle.std.specs.Prelude.{◌≡◌, List, ℕ}
use Rattle.std.proofs.Common.{sym, ◌∙◌, ap}
use Rattle.std.specs.Borrow.{Bor}
use Rattle.definitions.specs.Answer.{Answer}
use Rattle.definitions.specs.declared.Shown.{Shown}
use Rattle.definitions.specs.Calls.{Reply}
use Rattle.definitions.specs.Lookup.{Located, Showing}
use Rattle.definitions.specs.Window.{Windowed}
use Rattle.tables.specs.Lent.{Replies, Locates, Windows}
use Rattle.map.specs.Promise.{HandsBack}

pub replies_unique : {a b c a' b' c' : List ℕ} (y : Reply) {r r' : Answer} → Replies r a b c y → Replies r' a' b' c' y → (r ≡ r') × (a ≡ a') × (b ≡ b') × (c ≡ c')
replies_unique y p q =
    let e = p ∙ sym q in
    (ap (λ (x : Reply). x.answer) e, ap (λ (x : Reply). x.after.lines) e, ap (λ (x : Reply). x.after.nodes) e, ap (λ (x : Reply). x.after.listings) e)

pub locates_unique : {us vs : List ℕ} (y : Located) {r r' : Answer} → Locates r us y → Locates r' vs y → (r ≡ r') × (us ≡ vs)
locates_unique y p q = let e = p ∙ sym q in (ap (λ (x : Located). x.answer) e, ap (λ (x : Located). x.answers) e)

pub windows_unique : {us vs : List ℕ} (y : Windowed) {r r' : Answer} → Windows r us y → Windows r' vs y → (r ≡ r') × (us ≡ vs)
windows_unique y p q = let e = p ∙ sym q in (ap (λ (x : Windowed). x.answer) e, ap (λ (x : Windowed). x.slots) e)

module _ (y : Showing) where
  pub shown_unique : {r r' : Shown} → r ≡ y.told → r' ≡ y.told → r ≡ r'
  shown_unique p q = p ∙ sym q

  -- the same entries, at the same place of the caller's listing table
  pub parts_unique : (listings part part' : Bor (List ℕ)) → HandsBack part listings y → HandsBack part' listings y → (part.now ≡ part'.now) × (part.ref_ptr ≡ part'.ref_ptr)
  parts_unique listings part part' p q = (p.0 ∙ sym q.0, p.1 ∙ sym q.1)
