-- The two lists of a tree, and its tables, are those that the paper reads: in preorder, then 0.
use Rattle.std.specs.Prelude.{◌≡◌, refl, ◌↔◌, List, [], ◌∷◌, ◌++◌, ℕ, suc, ◌+◌, ◌-◌, length, replicate}
use Rattle.std.proofs.Common.{sym, ◌∙◌, ap, append_assoc, arith, length-append}
use Rattle.algebra.specs.Words.{padded}
use Rattle.definitions.specs.Meaning.{Stored, at_leaf, at_four, Zeros, Tabled}
use Rattle.definitions.specs.Tree.{Tree, leaf, divided, nodes_of, listings_of}
use Rattle.meaning.specs.Slots.{zero_at}

-- four lists and a rest, from either end
four_and : (a b c d z : List ℕ) → a ++ b ++ c ++ d ++ z ≡ a ++ (b ++ (c ++ (d ++ z)))
four_and a b c d z = simp append_assoc

in_turn : (a b c d z : List ℕ) {l l1 l2 l3 : List ℕ} → l ≡ a ++ l1 → l1 ≡ b ++ l2 → l2 ≡ c ++ l3 → l3 ≡ d ++ z → l ≡ a ++ b ++ c ++ d ++ z
in_turn a b c d z p q r s =
    p ∙ ap (λ (y : List ℕ). a ++ y) (q ∙ ap (λ (y : List ℕ). b ++ y) (r ∙ ap (λ (y : List ℕ). c ++ y) s)) ∙ sym (four_and a b c d z)

-- what is stored starts with the two lists
pub stored_lists : {t : Tree} {nodes listings n l : List ℕ} → Stored t nodes listings n l → (nodes ≡ nodes_of t ++ n) × (listings ≡ listings_of t ++ l)
unfolding nodes_of listings_of
stored_lists (at_leaf e f) = (e, f)
stored_lists {t = divided nw ne sw se} {n = n} {l = l} (at_four e a b c d) =
    let p = stored_lists a in
    let q = stored_lists b in
    let r = stored_lists c in
    let s = stored_lists d in (
      e ∙ ap (λ (z : List ℕ). 65535 ∷ z) (in_turn (nodes_of nw) (nodes_of ne) (nodes_of sw) (nodes_of se) n p.0 q.0 r.0 s.0),
      in_turn (listings_of nw) (listings_of ne) (listings_of sw) (listings_of se) l p.1 q.1 r.1 s.1,
    )

-- and the two lists are stored, whatever comes after
pub lists_stored : (t : Tree) {nodes listings : List ℕ} (n l : List ℕ) → nodes ≡ nodes_of t ++ n → listings ≡ listings_of t ++ l → Stored t nodes listings n l
unfolding nodes_of listings_of
lists_stored (leaf slots) n l e f = at_leaf e f
lists_stored (divided nw ne sw se) n l e f =
    at_four (e ∙ ap (λ (z : List ℕ). 65535 ∷ z) (four_and (nodes_of nw) (nodes_of ne) (nodes_of sw) (nodes_of se) n))
    (lists_stored nw _ _ refl (f ∙ four_and (listings_of nw) (listings_of ne) (listings_of sw) (listings_of se) l))
    (lists_stored ne _ _ refl refl)
    (lists_stored sw _ _ refl refl)
    (lists_stored se n l refl refl)

zeros_are : (z : List ℕ) → Zeros z → z ≡ replicate (length z) 0
zeros_are [] f = refl
zeros_are (x ∷ more) f = let e = zeros_are more (λ i. f (suc i)) in let h : x ≡ 0 = f 0 in λ i. h i ∷ e i

padded_zeros : (table used z : List ℕ) → table ≡ used ++ z → Zeros z → table ≡ padded (length table) used
unfolding padded
padded_zeros table used z e f =
    let h : length table ≡ length used + length z = ap length e ∙ simp length-append refl in
    let k : length z ≡ length table - length used = omega arith in
    e ∙ ap (λ (y : List ℕ). used ++ y) (zeros_are z f ∙ ap (λ (n : ℕ). replicate n 0) k)

-- the tables of a tree are its two lists and then 0, and no others
pub tabled_iff : (t : Tree) (nodes listings : List ℕ)
    → ((nodes ≡ padded (length nodes) (nodes_of t)) × (listings ≡ padded (length listings) (listings_of t))) ↔ Tabled t nodes listings
unfolding padded
tabled_iff t nodes listings = (
  λ e. record {
    nodes_after = replicate (length nodes - length (nodes_of t)) 0;
    listings_after = replicate (length listings - length (listings_of t)) 0;
    stored = lists_stored t _ _ e.0 e.1;
    nodes0 = zero_at (length nodes - length (nodes_of t));
    listings0 = zero_at (length listings - length (listings_of t));
  },
  λ a. let s = stored_lists a.stored in (padded_zeros nodes (nodes_of t) a.nodes_after s.0 a.nodes0, padded_zeros listings (listings_of t) a.listings_after s.1 a.listings0),
)
