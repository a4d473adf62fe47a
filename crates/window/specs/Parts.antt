-- How the code asks whether a line meets a rectangle: each way by the line's ends, then by four turns.
use Rattle.std.specs.Prelude.{◌≡◌, refl, Bool, true, false, not, ◌&&◌, ◌||◌, ℕ, zero, suc, leb, ℤ, pos, negsuc}
use Rattle.std.proofs.Common.{sym, ◌∙◌, ap₂}
use Rattle.definitions.specs.Shape.{Line, Area, half_point, turn, left_of, right_of, min_x, max_x, min_y, max_y, corners, meets_area}
use Rattle.geometry.specs.Boxes.{low_is, high_is, grouped}
use Rattle.geometry.specs.Means.{both_same}
use Rattle.window.specs.Means.{overlap_of, one_side_of}

pub overlap_is : (low high a b : ℕ) → (leb a high || leb b high) && (leb low a || leb low b) ≡ overlap_of low high a b
unfolding overlap_of
overlap_is low high a b = ap₂ ◌&&◌ (low_is a b high) (high_is a b low)

-- four turns lie on one side if each and the next do
pub by_pairs : (a b c d : ℤ) → both_same a b && both_same b c && both_same c d ≡ one_side_of a b c d
unfolding both_same one_side_of
by_pairs (pos zero) b c d = refl
by_pairs (pos (suc m)) (pos zero) c d = refl
by_pairs (pos (suc m)) (pos (suc n)) (pos zero) d = refl
by_pairs (pos (suc m)) (pos (suc n)) (pos (suc i)) (pos zero) = refl
by_pairs (pos (suc m)) (pos (suc n)) (pos (suc i)) (pos (suc j)) = refl
by_pairs (pos (suc m)) (pos (suc n)) (pos (suc i)) (negsuc j) = refl
by_pairs (pos (suc m)) (pos (suc n)) (negsuc i) d = refl
by_pairs (pos (suc m)) (negsuc n) c d = refl
by_pairs (negsuc m) (pos n) c d = refl
by_pairs (negsuc m) (negsuc n) (pos i) d = refl
by_pairs (negsuc m) (negsuc n) (negsuc i) (pos j) = refl
by_pairs (negsuc m) (negsuc n) (negsuc i) (negsuc j) = refl

module _ (k : Area) (l : Line) where
  abbrev at : ℕ → ℕ → ℤ
  at x y = turn l.a l.b (half_point x y)

  abbrev by_x : Bool
  by_x = overlap_of k.west k.east l.a.x.0 l.b.x.0

  abbrev by_y : Bool
  by_y = overlap_of k.south k.north l.a.y.0 l.b.y.0

  abbrev by_turns : Bool
  by_turns = one_side_of (at k.west k.south) (at k.east k.south) (at k.west k.north) (at k.east k.north)

  by_parts : by_x && by_y && not by_turns ≡ meets_area k l
  unfolding meets_area corners left_of right_of overlap_of one_side_of
  by_parts = grouped (leb (min_x l) k.east) (leb k.west (max_x l)) (leb (min_y l) k.north) (leb k.south (max_y l)) (corners (left_of l) k) (corners (right_of l) k)

  pub apart_x : by_x ≡ false → false ≡ meets_area k l
  apart_x e = sym (rw e refl) ∙ by_parts

  pub apart_y : by_x ≡ true → by_y ≡ false → false ≡ meets_area k l
  apart_y e f = sym (rw (e, f) refl) ∙ by_parts

  pub by_side : {r : Bool} → by_x ≡ true → by_y ≡ true → by_turns ≡ r → not r ≡ meets_area k l
  by_side e f g = sym (rw (e, f, g) refl) ∙ by_parts

-- four turns, each as it was told
pub told : {a b c d a' b' c' d' : ℤ} {s : Bool} → a ≡ a' → b ≡ b' → c ≡ c' → d ≡ d' → s ≡ one_side_of a b c d → one_side_of a' b' c' d' ≡ s
told e f g h i = sym (i ∙ (λ t. one_side_of (e t) (f t) (g t) (h t)))
