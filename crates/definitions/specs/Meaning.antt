-- What the tests mean, in the paper's words. Nothing here computes; `meaning` proves that each test says just this.
use Rattle.std.specs.Prelude.{◌≡◌, ◌⊎◌, ◌↔◌, ℕ, ◌+◌, ◌*◌, ◌/◌, ◌≤◌, ◌<◌, ℤ, pos, ◌*ℤ◌, ◌-ℤ◌, length, get_or}
use mathlib.Core.List.{List, ◌∷◌, ◌++◌, Memᴰ}
use Rattle.std.proofs.Math.IntN.{sub_ℕ}
use Rattle.std.proofs.Common.{arith}
use Rattle.algebra.specs.Words.{Rising}
use Rattle.definitions.specs.declared.Point.{Point}
use Rattle.definitions.specs.declared.Kind.{Kind}
use Rattle.definitions.specs.declared.Kind.TheVariants.{Crossing, Touching, Overlap, Same}
use Rattle.definitions.specs.declared.Window.{Window}
use Rattle.definitions.specs.Shape.{Line, Area, Block, east, north, nw_of, ne_of, sw_of, se_of, grid_point, min_x, max_x, min_y, max_y}
use Rattle.definitions.specs.Tree.{Rule, Tree, leaf, divided, tree, listings_of}
use Rattle.definitions.specs.Tables.{Tables, entry, live, generation, x1, y1, x2, y2, left_label, right_label, line_at, live_lines}
use Rattle.definitions.specs.Lookup.{west_end, east_end, run, Answering, on_line, from_below, from_above, no_line}

-- ---- A common point

-- three whole numbers with Z above 0, standing for (X/Z, Y/Z)
pub record Spot : Type 0 where
  pub X : ℕ
  pub Y : ℕ
  pub Z : ℕ
  pub some : 0 < Z

-- the turn of a, b and the spot, times Z
unfoldable pub turn_at : Point → Point → Spot → ℤ
turn_at a b s =
    sub_ℕ b.x.0 a.x.0 *ℤ sub_ℕ s.Y (a.y.0 * s.Z) -ℤ sub_ℕ b.y.0 a.y.0 *ℤ sub_ℕ s.X (a.x.0 * s.Z)

-- the spot is a point of the line, ends included
pub record OnLine (s : Spot) (l : Line) : Type 0 where
  pub straight : turn_at l.a l.b s ≡ pos 0
  pub from_west : min_x l * s.Z ≤ s.X
  pub to_east : s.X ≤ max_x l * s.Z
  pub from_south : min_y l * s.Z ≤ s.Y
  pub to_north : s.Y ≤ max_y l * s.Z

-- the spot lies in the closed rectangle
pub record InArea (s : Spot) (k : Area) : Type 0 where
  pub from_west : k.west * s.Z ≤ s.X
  pub to_east : s.X ≤ k.east * s.Z
  pub from_south : k.south * s.Z ≤ s.Y
  pub to_north : s.Y ≤ k.north * s.Z

-- the spot lies in the closed block
abbrev pub InBlock : Spot → Block → Type 0
InBlock s k = InArea s (record { west = k.west; south = k.south; east = east k; north = north k })

-- the spot is the point
pub record AtPoint (s : Spot) (p : Point) : Type 0 where
  pub same_x : s.X ≡ p.x.0 * s.Z
  pub same_y : s.Y ≡ p.y.0 * s.Z

abbrev pub AtEnd : Spot → Line → Type 0
AtEnd s l = AtPoint s l.a ⊎ AtPoint s l.b

-- some point of the line, ends included, lies in the closed rectangle
abbrev pub MeetsArea : Area → Line → Type 0
MeetsArea k l = (s : Spot) × OnLine s l × InArea s k

-- some point of the line, ends included, lies in the closed block
abbrev pub Meets : Block → Line → Type 0
Meets k l = (s : Spot) × OnLine s l × InBlock s k

-- the lines share a point that isn't an end of both
abbrev pub Conflicts : Line → Line → Type 0
Conflicts l m = (s : Spot) × OnLine s l × OnLine s m × ¬ (AtEnd s l × AtEnd s m)

-- ---- How lines conflict

-- the two spots are one point
pub record SameSpot (s t : Spot) : Type 0 where
  pub same_x : s.X * t.Z ≡ t.X * s.Z
  pub same_y : s.Y * t.Z ≡ t.Y * s.Z

pub record Shared (s : Spot) (l m : Line) : Type 0 where
  pub on_first : OnLine s l
  pub on_second : OnLine s m

-- one shared point, s
pub record OnlyShared (s : Spot) (l m : Line) : Type 0 where
  pub shared : Shared s l m
  pub only : (t : Spot) → Shared t l m → SameSpot t s

-- more than one shared point
pub record TwoShared (l m : Line) : Type 0 where
  pub one : Spot
  pub other : Spot
  pub one_shared : Shared one l m
  pub other_shared : Shared other l m
  pub differ : ¬ SameSpot one other

-- equal ends in either order
abbrev pub SameEnds : Line → Line → Type 0
SameEnds l m = ((l.a ≡ m.a) × (l.b ≡ m.b)) ⊎ ((l.a ≡ m.b) × (l.b ≡ m.a))

abbrev pub KindIs : Line → Line → Kind → Type 0
-- one shared point, inside both
KindIs l m Crossing = (s : Spot) × OnlyShared s l m × ¬ AtEnd s l × ¬ AtEnd s m
-- one shared point, an end of exactly one
KindIs l m Touching = (s : Spot) × OnlyShared s l m × ((AtEnd s l × ¬ AtEnd s m) ⊎ (¬ AtEnd s l × AtEnd s m))
-- more than one shared point, and not the same
KindIs l m Overlap = TwoShared l m × ¬ SameEnds l m
KindIs l m Same = SameEnds l m

-- ---- The rule of division, and the tree that it leaves

abbrev pub EndOf : Point → Line → Type 0
EndOf p l = (p ≡ l.a) ⊎ (p ≡ l.b)

-- p is an end of one of the lines
abbrev pub AnEnd : List Line → Point → Type 0
AnEnd lines p = (l : Line) × Memᴰ l lines × EndOf p l

-- p lies in the closed block
pub record In (k : Block) (p : Point) : Type 0 where
  pub from_west : k.west ≤ p.x.0
  pub to_east : p.x.0 ≤ east k
  pub from_south : k.south ≤ p.y.0
  pub to_north : p.y.0 ≤ north k

pub record Criteria (lines : List Line) (k : Block) : Type 0 where
  -- C1: the lines have at most one distinct end in the block
  pub c1 : (p q : Point) → AnEnd lines p → AnEnd lines q → In k p → In k q → p ≡ q
  -- C2': if it has such an end, every line meeting the block has it as one of its ends
  pub c2 : (p : Point) → AnEnd lines p → In k p → (l : Line) → Memᴰ l lines → Meets k l → EndOf p l
  -- C3: if it has none, at most one line meets it
  pub c3 : ((p : Point) → AnEnd lines p → In k p → ⊥) → (l m : Line) → Memᴰ l lines → Memᴰ m lines → Meets k l → Meets k m → l ≡ m

-- the slots of the lines that meet the block, each once, by rising slot
pub record Lists (lines : List Line) (k : Block) (slots : List ℕ) : Type 0 where
  pub rising : Rising slots
  pub exactly : (x : ℕ) → Memᴰ x slots ↔ ((l : Line) × Memᴰ l lines × Meets k l × (x ≡ l.slot))

-- a tree of these lines over the block: divided exactly if the block is not simple and its side exceeds 2
pub data IsTree (Simple : Block → Type 0) (lines : List Line) : Block → Tree → Type 0 where
  whole : {k : Block} {slots : List ℕ} → ((Simple k → ⊥) × (2 < k.side) → ⊥) → Lists lines k slots → IsTree Simple lines k (leaf slots)
  parted : {k : Block} {nw ne sw se : Tree} → (Simple k → ⊥) × (2 < k.side)
      → IsTree Simple lines (nw_of k) nw → IsTree Simple lines (ne_of k) ne → IsTree Simple lines (sw_of k) sw → IsTree Simple lines (se_of k) se
      → IsTree Simple lines k (divided nw ne sw se)

-- a leaf of the tree over a block: its own block, and its list
pub data LeafAt : Block → Tree → Block → List ℕ → Type 0 where
  here : {k j : Block} {slots list : List ℕ} → j ≡ k → list ≡ slots → LeafAt k (leaf slots) j list
  in_nw : {k j : Block} {a b c d : Tree} {list : List ℕ} → LeafAt (nw_of k) a j list → LeafAt k (divided a b c d) j list
  in_ne : {k j : Block} {a b c d : Tree} {list : List ℕ} → LeafAt (ne_of k) b j list → LeafAt k (divided a b c d) j list
  in_sw : {k j : Block} {a b c d : Tree} {list : List ℕ} → LeafAt (sw_of k) c j list → LeafAt k (divided a b c d) j list
  in_se : {k j : Block} {a b c d : Tree} {list : List ℕ} → LeafAt (se_of k) d j list → LeafAt k (divided a b c d) j list

-- the same leaf, and how many listing entries come before its own: those of the sons before it
pub data ListedFrom : Block → Tree → Block → ℕ → Type 0 where
  at_once : {k j : Block} {slots : List ℕ} {n : ℕ} → j ≡ k → n ≡ 0 → ListedFrom k (leaf slots) j n
  from_nw : {k j : Block} {a b c d : Tree} {n : ℕ} → ListedFrom (nw_of k) a j n → ListedFrom k (divided a b c d) j n
  from_ne : {k j : Block} {a b c d : Tree} {m n : ℕ} → ListedFrom (ne_of k) b j m → n ≡ length (listings_of a) + m → ListedFrom k (divided a b c d) j n
  from_sw : {k j : Block} {a b c d : Tree} {m n : ℕ} → ListedFrom (sw_of k) c j m → n ≡ length (listings_of a) + length (listings_of b) + m → ListedFrom k (divided a b c d) j n
  from_se : {k j : Block} {a b c d : Tree} {m n : ℕ} → ListedFrom (se_of k) d j m → n ≡ length (listings_of a) + length (listings_of b) + length (listings_of c) + m → ListedFrom k (divided a b c d) j n

-- ---- The tree in the two tables

-- the tables start with the tree, in preorder, and go on with a rest: a divided block has 65,535 and then its sons NW, NE, SW, SE;
-- a leaf has how many it lists, and its slots come next in the listing table
pub data Stored : Tree → List ℕ → List ℕ → List ℕ → List ℕ → Type 0 where
  at_leaf : {slots nodes listings n l : List ℕ} → nodes ≡ length slots ∷ n → listings ≡ slots ++ l → Stored (leaf slots) nodes listings n l
  at_four : {nw ne sw se : Tree} {nodes listings n0 n1 n2 n3 n4 l1 l2 l3 l4 : List ℕ} → nodes ≡ 65535 ∷ n0
      → Stored nw n0 listings n1 l1 → Stored ne n1 l1 n2 l2 → Stored sw n2 l2 n3 l3 → Stored se n3 l3 n4 l4
      → Stored (divided nw ne sw se) nodes listings n4 l4

-- every entry is 0
abbrev pub Zeros : List ℕ → Type 0
Zeros table = (i : ℕ) → get_or table i 0 ≡ 0

-- the two tables of a tree: entries after the last used are 0
pub record Tabled (t : Tree) (nodes listings : List ℕ) : Type 0 where
  pub nodes_after : List ℕ
  pub listings_after : List ℕ
  pub stored : Stored t nodes listings nodes_after listings_after
  pub nodes0 : Zeros nodes_after
  pub listings0 : Zeros listings_after

-- ---- A sound map

-- the slot's line lives
pub record Live (lines : List ℕ) (s : ℕ) : Type 0 where
  pub there : s < length lines / 8
  pub lives : live lines s ≡ 1

-- a live slot has generation at least 1, ends on the grid and distinct
pub record LiveSlot (lines : List ℕ) (s : ℕ) : Type 0 where
  pub lives : live lines s ≡ 1
  pub given : 1 ≤ generation lines s
  pub on_grid : (x1 lines s ≤ 16383) × (y1 lines s ≤ 16383) × (x2 lines s ≤ 16383) × (y2 lines s ≤ 16383)
  pub distinct : (x1 lines s ≡ x2 lines s) × (y1 lines s ≡ y2 lines s) → ⊥

-- a slot that isn't live keeps its generation and has 0 in the other seven
abbrev pub EmptySlot : List ℕ → ℕ → Type 0
EmptySlot lines s = (k : ℕ) → k < 8 → (k ≡ 1 → ⊥) → entry lines s k ≡ 0

pub record SoundMap (rule : Rule) (t : Tables) : Type 0 where
  pub slots : (s : ℕ) → s < length t.lines / 8 → LiveSlot t.lines s ⊎ EmptySlot t.lines s
  pub apart : (s u : ℕ) → Live t.lines s → Live t.lines u → (s ≡ u → ⊥) → ¬ Conflicts (line_at t.lines s) (line_at t.lines u)
  pub tables : Tabled (tree rule (live_lines t.lines)) t.nodes t.listings

-- ---- The window

-- some point of the line, ends included, lies in the closed rectangle; a grid number g stands at half-step 2g + 1
abbrev pub MeetsWindow : Window → Line → Type 0
MeetsWindow w l = MeetsArea (record { west = 2 * w.west + 1; south = 2 * w.south + 1; east = 2 * w.east + 1; north = 2 * w.north + 1 }) l

-- the slots of the live lines that meet the window, each once, by rising slot
pub record InWindow (lines : List ℕ) (w : Window) (slots : List ℕ) : Type 0 where
  pub rising : Rising slots
  pub exactly : (s : ℕ) → Memᴰ s slots ↔ (Live lines s × MeetsWindow w (line_at lines s))

-- ---- The lookup, over heights as fractions

-- a point is the spot with Z = 1
unfoldable pub spot_of : Point → Spot
spot_of p = record { X = p.x.0; Y = p.y.0; Z = 1; some = omega arith }

-- p is a point of the line
unfoldable pub Through : Point → Line → Type 0
Through p l = OnLine (spot_of p) l

-- s is the line's point over x
pub record PointOver (x : ℕ) (l : Line) (s : Spot) : Type 0 where
  pub online : OnLine s l
  pub over : s.X ≡ x * s.Z

-- the line's x range, west end included and east end left off, holds p's x, and there the line passes below p
pub record CountsBelow (p : Point) (l : Line) : Type 0 where
  pub from_west : min_x l ≤ p.x.0
  pub before_east : p.x.0 < max_x l
  pub spot : Spot
  pub there : PointOver p.x.0 l spot
  pub under : spot.Y < p.y.0 * spot.Z

-- the x range holds p's x by the same rule, and there the line passes above p
pub record CountsAbove (p : Point) (l : Line) : Type 0 where
  pub from_west : min_x l ≤ p.x.0
  pub before_east : p.x.0 < max_x l
  pub spot : Spot
  pub there : PointOver p.x.0 l spot
  pub over : p.y.0 * spot.Z < spot.Y

-- l rises more steeply, rise over run, than m: (ey - wy) / run l above (ey' - wy') / run m
unfoldable pub Steeper : Line → Line → Type 0
Steeper l m = (west_end l).y.0 * run m + (east_end m).y.0 * run l < (east_end l).y.0 * run m + (west_end m).y.0 * run l

-- l, at s, is higher than m, at t; or as high, and m does not rise more steeply
unfoldable pub NoneHigher : Line → Spot → Line → Spot → Type 0
NoneHigher l s m t = (t.Y * s.Z < s.Y * t.Z) ⊎ ((t.Y * s.Z ≡ s.Y * t.Z) × (Steeper m l → ⊥))

-- l, at s, is lower than m, at t; or as low, and m does not rise less steeply
unfoldable pub NoneLower : Line → Spot → Line → Spot → Type 0
NoneLower l s m t = (s.Y * t.Z < t.Y * s.Z) ⊎ ((s.Y * t.Z ≡ t.Y * s.Z) × (Steeper l m → ⊥))

-- n is the label of the line's upper side: left if x1 < x2, else right
pub record UpperLabel (lines : List ℕ) (s n : ℕ) : Type 0 where
  pub left : x1 lines s < x2 lines s → n ≡ left_label lines s
  pub right : x2 lines s ≤ x1 lines s → n ≡ right_label lines s

-- and of its lower side: right if x1 < x2, else left
pub record LowerLabel (lines : List ℕ) (s n : ℕ) : Type 0 where
  pub right : x1 lines s < x2 lines s → n ≡ right_label lines s
  pub left : x2 lines s ≤ x1 lines s → n ≡ left_label lines s

-- this answers to p
pub data Answers (lines : List ℕ) (p : Point) : Answering → Type 0 where
  -- on a live line: the lowest such slot
  upon : (s : ℕ) → Live lines s → Through p (line_at lines s)
      → ((u : ℕ) → Live lines u → Through p (line_at lines u) → s ≤ u)
      → Answers lines p (on_line s)
  -- else the highest line below, at equal height the steeper rising one
  under : ((u : ℕ) → Live lines u → Through p (line_at lines u) → ⊥)
      → (s : ℕ) → Live lines s → (b : CountsBelow p (line_at lines s))
      → ((u : ℕ) → Live lines u → (c : CountsBelow p (line_at lines u)) → NoneHigher (line_at lines s) b.spot (line_at lines u) c.spot)
      → Answers lines p (from_below s)
  -- if no line counts below: the lowest line above, at equal height the less steeply rising one
  over : ((u : ℕ) → Live lines u → Through p (line_at lines u) → ⊥)
      → ((u : ℕ) → Live lines u → CountsBelow p (line_at lines u) → ⊥)
      → (s : ℕ) → Live lines s → (b : CountsAbove p (line_at lines s))
      → ((u : ℕ) → Live lines u → (c : CountsAbove p (line_at lines u)) → NoneLower (line_at lines s) b.spot (line_at lines u) c.spot)
      → Answers lines p (from_above s)
  -- with neither
  outside : ((u : ℕ) → Live lines u → Through p (line_at lines u) → ⊥)
      → ((u : ℕ) → Live lines u → CountsBelow p (line_at lines u) → ⊥)
      → ((u : ℕ) → Live lines u → CountsAbove p (line_at lines u) → ⊥)
      → Answers lines p no_line

-- and this is its number
pub data Tells (lines : List ℕ) : Answering → ℕ → Type 0 where
  slot_of : {s n : ℕ} → n ≡ 65536 + s → Tells lines (on_line s) n
  upper_of : {s n : ℕ} → UpperLabel lines s n → Tells lines (from_below s) n
  lower_of : {s n : ℕ} → LowerLabel lines s n → Tells lines (from_above s) n
  none_of : {n : ℕ} → n ≡ 0 → Tells lines no_line n

-- n answers to the grid pair x, y
pub data AnswersTo (lines : List ℕ) (x y n : ℕ) : Type 0 where
  off_grid : (16383 < x) ⊎ (16383 < y) → n ≡ 4294967295 → AnswersTo lines x y n
  within : x ≤ 16383 → y ≤ 16383 → (a : Answering) → Answers lines (grid_point x y) a → Tells lines a n → AnswersTo lines x y n
