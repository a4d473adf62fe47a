-- Soundness taken apart: the slots, the lines apart, the two tree tables.
use Rattle.algebra.specs.Lists.{same_list_lem, list_same, padded_fits}
use Rattle.algebra.specs.Tests.{false_by, no_path, and_l, and_r, and_b}
use Rattle.algebra.specs.Words.{every, same_list}
use Rattle.definitions.specs.Shape.{Line, grid_point, same_point, conflict}
use Rattle.definitions.specs.Tables.{Tables, live, generation, x1, y1, x2, y2, left_label, right_label, is_live, slots_of, line_at, live_lines, on_grid, live_sound, empty_sound, slot_sound, none_conflict, node_table, listing_table, sound}
use Rattle.definitions.specs.Tree.{tree, nodes_of, listings_of, Rule}
use Rattle.plane.specs.Crossing.{Proper, conflict_iff}
use Rattle.std.specs.Prelude.{◌≡◌, refl, not, ◌&&◌, ◌||◌, ℕ, ◌+◌, ◌*◌, ◌≤◌, leb}
use Rattle.std.proofs.Common.{sym, ◌∙◌, ap, eqb-true, eq-eqb}
use Rattle.std.proofs.Math.Path.{subst}
use Rattle.std.proofs.Math.Bool.{Bool, true, false}
use mathlib.Core.List.{List}
use native.Mathlib.Omega.{arith}
use Rattle.std.proofs.Math.Dec.{eqb}
use Rattle.std.proofs.Math.ListN.{length}

-- conflict goes both ways
pub conflict_back : (l m : Line) → Proper l → Proper m → conflict l m ≡ true → conflict m l ≡ true
conflict_back l m pl pm e =
    let c = (conflict_iff l m pl pm).0 e in
    (conflict_iff m l pm pl).1 (c.0, c.2, c.1, λ b. c.3 (b.1, b.0))

-- distinct ends on the grid are distinct in half-steps
pub grid_proper : (s x y x' y' : ℕ) → eqb x x' && eqb y y' ≡ false → Proper (record { slot = s; a = grid_point x y; b = grid_point x' y' })
unfolding Proper same_point
grid_proper s x y x' y' e =
    false_by _ (λ k. no_path (sym e ∙ and_b _ _
    (eq-eqb x x' (halves x x' (eqb-true _ _ (and_l (eqb (2 * x + 1) (2 * x' + 1)) (eqb (2 * y + 1) (2 * y' + 1)) k))))
    (eq-eqb y y' (halves y y' (eqb-true _ _ (and_r (eqb (2 * x + 1) (2 * x' + 1)) (eqb (2 * y + 1) (2 * y' + 1)) k))))))
  where
    halves : (a b : ℕ) → 2 * a + 1 ≡ 2 * b + 1 → a ≡ b
    halves a b e = omega arith

not_flip : (b : Bool) → not b ≡ true → b ≡ false
not_flip true e = sym e
not_flip false e = refl

pub live_proper : (lines : List ℕ) (y : ℕ) → slot_sound lines y ≡ true → is_live lines y ≡ true → Proper (line_at lines y)
unfolding line_at slot_sound
live_proper lines y e v =
    grid_proper y (x1 lines y) (y1 lines y) (x2 lines y) (y2 lines y) (not_flip _ (last (rw v at e)))
  where
    empty : empty_sound lines y ≡ true → ⊥
    empty k = unfold empty_sound is_live in (clash (eqb-true (live lines y) 1 v) (eqb-true (live lines y) 0 (first k)))
      where
        clash : {a : ℕ} → a ≡ 1 → a ≡ 0 → ⊥
        clash p q = omega arith

        first : empty_sound lines y ≡ true → eqb (live lines y) 0 ≡ true
        first k = unfold empty_sound in
            (and_l (eqb (live lines y) 0) (eqb (x1 lines y) 0) (and_l (eqb (live lines y) 0 && eqb (x1 lines y) 0) (eqb (y1 lines y) 0)
            (and_l (eqb (live lines y) 0 && eqb (x1 lines y) 0 && eqb (y1 lines y) 0) (eqb (x2 lines y) 0)
            (and_l (eqb (live lines y) 0 && eqb (x1 lines y) 0 && eqb (y1 lines y) 0 && eqb (x2 lines y) 0) (eqb (y2 lines y) 0)
            (and_l (eqb (live lines y) 0 && eqb (x1 lines y) 0 && eqb (y1 lines y) 0 && eqb (x2 lines y) 0 && eqb (y2 lines y) 0) (eqb (left_label lines y) 0)
            (and_l (eqb (live lines y) 0 && eqb (x1 lines y) 0 && eqb (y1 lines y) 0 && eqb (x2 lines y) 0 && eqb (y2 lines y) 0 && eqb (left_label lines y) 0) (eqb (right_label lines y) 0) k))))))

    last : live_sound lines y || empty_sound lines y ≡ true → not (eqb (x1 lines y) (x2 lines y) && eqb (y1 lines y) (y2 lines y)) ≡ true
    last k = go (live_sound lines y) refl k
      where
        go : (b : Bool) → live_sound lines y ≡ b → b || empty_sound lines y ≡ true → not (eqb (x1 lines y) (x2 lines y) && eqb (y1 lines y) (y2 lines y)) ≡ true
        go true q k = unfold live_sound in
            (and_r (leb 1 (generation lines y) && on_grid (x1 lines y) && on_grid (y1 lines y) && on_grid (x2 lines y) && on_grid (y2 lines y)) (not (eqb (x1 lines y) (x2 lines y) && eqb (y1 lines y) (y2 lines y))) q)
        go false q k = absurd (empty k)

module _ (rule : Rule) where
  pub record Sound (t : Tables) : Type 0 where
    pub slots : every (slot_sound t.lines) (slots_of t.lines) ≡ true
    pub apart : none_conflict t.lines ≡ true
    pub nodes : t.nodes ≡ node_table rule (length t.nodes) t.lines
    pub listings : t.listings ≡ listing_table rule (length t.listings) t.lines

  pub sound→ : (t : Tables) → sound rule t ≡ true → Sound t
  unfolding sound
  sound→ t e =
      record {
        slots = and_l a b ab;
        apart = and_r a b ab;
        nodes = list_same _ _ (and_r (a && b) c abc);
        listings = list_same _ _ (and_r (a && b && c) d e);
      }
    where
      a : Bool
      a = every (slot_sound t.lines) (slots_of t.lines)

      b : Bool
      b = none_conflict t.lines

      c : Bool
      c = same_list t.nodes (node_table rule (length t.nodes) t.lines)

      d : Bool
      d = same_list t.listings (listing_table rule (length t.listings) t.lines)

      abc : a && b && c ≡ true
      abc = and_l (a && b && c) d e

      ab : a && b ≡ true
      ab = and_l (a && b) c abc

  pub sound← : (t : Tables) → Sound t → sound rule t ≡ true
  unfolding sound
  sound← t s =
      and_b _ _ (and_b _ _ (and_b _ _ s.slots s.apart) (same _ _ s.nodes)) (same _ _ s.listings)
    where
      same : (xs ys : List ℕ) → xs ≡ ys → same_list xs ys ≡ true
      same xs ys e = subst (λ (zs : List ℕ). same_list xs zs ≡ true) e (same_list_lem xs)

  -- rebuilt tables are sound where the slots are, and the tree fits

  pub fits_nodes : (t : Tables) → Sound t → length (nodes_of (tree rule (live_lines t.lines))) ≤ length t.nodes
  unfolding node_table
  fits_nodes t s = padded_fits _ _ (sym (ap length s.nodes))

  pub fits_listings : (t : Tables) → Sound t → length (listings_of (tree rule (live_lines t.lines))) ≤ length t.listings
  unfolding listing_table
  fits_listings t s = padded_fits _ _ (sym (ap length s.listings))
  -- Delete keeps a map sound, and always has room
