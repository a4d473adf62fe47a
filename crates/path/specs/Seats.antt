-- The laws of the tables under a block over a point: a tree's seat is that of its sons, and a leaf's part of the listings is its list.
use Rattle.std.specs.Prelude.{◌≡◌, Bool, true, false, List, ◌++◌, ℕ, zero, suc, ◌+◌, ◌-◌, ◌*◌, ◌/◌, ◌^◌, ◌≤◌, ◌<◌, get_or, take, drop}
use Rattle.std.proofs.Math.Path.{refl}
use Rattle.std.proofs.Common.{sym, ap, ◌∙◌, subst, append_assoc, add-one, arith, length-take, length-drop, take_at, drop_at}
use Rattle.std.proofs.Math.ListN.{length, length-append}
use Rattle.definitions.specs.declared.Point.{Point}
use Rattle.definitions.specs.Shape.{Line, Block}
use Rattle.definitions.specs.Tree.{Rule, Tree, leaf, divided, block, listed, tree_by, nodes_of, listings_of}
use Rattle.definitions.specs.Tables.{live_lines}
use Rattle.plane.specs.Blocks.{double, half_power, some_power}
use Rattle.meaning.specs.Rules.{by_leaf, by_divided, sons_by}
use Rattle.walk.specs.Index.{after_nodes, after_listings, ne_first, sw_first, se_first, Entries, Stands, leaf_stands, sons_stand, Indexed, leaf_indexed, sons_indexed}
use Rattle.walk.specs.Placing.{divided_nodes, divided_listings}
use Rattle.geometry.specs.Means.{block_of}
use Rattle.path.specs.declared.Spot.{Spot}
use Rattle.path.specs.Placed.{Part, Seat, Placed, placed_there}
use Rattle.path.specs.Asked.{StripOver, in_west, in_east, SonEntry, of_upper, of_lower, SonIs, is_upper, is_lower, Entered, Stacked}

-- ---- A part of a table

module _ {table : List ℕ} {f : ℕ} (a b : List ℕ) (h : Part table f (a ++ b)) where
  part_left : Part table f a
  part_left = record { before = h.before; after = b ++ h.after; whole = h.whole ∙ simp append_assoc; first = h.first }

  part_right : (g : ℕ) → g ≡ f + length a → Part table g b
  part_right g e = record { before = h.before ++ a; after = h.after; whole = h.whole ∙ simp append_assoc; first = simp length-append (omega (arith, h.first)) }

-- ---- The sons of a divided block

-- each at its entry of the index
record Seats (nodes listings index : List ℕ) (nw ne sw se : Tree) (n f : ℕ) : Type 0 where
  nw_seat : (j : ℕ) → j ≡ 4 * n → Seat nodes listings index nw (get_or index j 0) f
  ne_seat : (j : ℕ) → j ≡ 4 * n + 1 → Seat nodes listings index ne (get_or index j 0) (ne_first f nw)
  sw_seat : (j : ℕ) → j ≡ 4 * n + 2 → Seat nodes listings index sw (get_or index j 0) (sw_first f nw ne)
  se_seat : (j : ℕ) → j ≡ 4 * n + 3 → Seat nodes listings index se (get_or index j 0) (se_first f nw ne sw)

module _ {nodes listings index : List ℕ} where
  seat : {t : Tree} (i j : ℕ) {m g : ℕ} → j ≡ i → get_or index i 0 ≡ m → Stands nodes t m → after_nodes t m ≤ length nodes → after_listings t g ≤ 16384 → Indexed index t m g → Part listings g (listings_of t) →
      Seat nodes listings index t (get_or index j 0) g
  seat i j d e s h k x p = rw (d, e) (record { standing = record { stands = s; nodes_fit = h; listings_fit = k }; indexed = x; listed_at = p })

  seats : {nw ne sw se : Tree} {n f : ℕ} → Seat nodes listings index (divided nw ne sw se) n f → Seats nodes listings index nw ne sw se n f
  unfolding listings_of
  seats {nw} {ne} {sw} {se} {n} {f} h = go h.standing.stands h.standing.nodes_fit h.standing.listings_fit h.indexed h.listed_at
    where
      go : Stands nodes (divided nw ne sw se) n → after_nodes (divided nw ne sw se) n ≤ length nodes → after_listings (divided nw ne sw se) f ≤ 16384 → Indexed index (divided nw ne sw se) n f →
          Part listings f (listings_of nw ++ listings_of ne ++ listings_of sw ++ listings_of se) → Seats nodes listings index nw ne sw se n f
      go (sons_stand x a b c d) i k (sons_indexed o p q r s) l =
          let z : length (nodes_of (divided nw ne sw se)) ≡ 1 + length (nodes_of nw) + length (nodes_of ne) + length (nodes_of sw) + length (nodes_of se) = divided_nodes nw ne sw se in
          let y : length (listings_of (divided nw ne sw se)) ≡ length (listings_of nw) + length (listings_of ne) + length (listings_of sw) + length (listings_of se) = divided_listings nw ne sw se in
          let l₃ = part_left _ (listings_of se) l in
          let l₂ = part_left _ (listings_of sw) l₃ in
          record {
            nw_seat = λ j e. seat _ j e o.first a (omega arith) (omega arith) p (part_left _ (listings_of ne) l₂);
            ne_seat = λ j e. seat _ j e o.second b (omega arith) (omega arith) q (part_right (listings_of nw) _ l₂ _ refl);
            sw_seat = λ j e. seat _ j e o.third c (omega arith) (omega arith) r (part_right (listings_of nw ++ listings_of ne) _ l₃ _ (simp length-append (omega arith)));
            se_seat = λ j e. seat _ j e o.fourth d (omega arith) (omega arith) s (part_right (listings_of nw ++ listings_of ne ++ listings_of sw) _ l _ (simp length-append (omega arith)));
          }

-- ---- The tree over a block

-- it is one leaf, or four sons
data Shape (rule : Rule) (ls : List Line) : ℕ → ℕ → ℕ → Type 0 where
  whole : {n w s : ℕ} → tree_by rule ls n w s ≡ leaf (listed ls (block n w s)) → Shape rule ls n w s
  parted : {m w s : ℕ} → tree_by rule ls (suc m) w s ≡ sons_by rule ls m w s → Shape rule ls (suc m) w s

shape : (rule : Rule) (ls : List Line) (n w s : ℕ) → Shape rule ls n w s
unfolding tree_by
shape rule ls zero w s = whole refl
shape rule ls (suc m) w s = go (rule (block (suc m) w s) ls) refl
  where
    go : (b : Bool) → rule (block (suc m) w s) ls ≡ b → Shape rule ls (suc m) w s
    go true e = whole (by_leaf rule ls m w s e)
    go false e = parted (by_divided rule ls m w s e)

-- ---- A leaf

-- a list as the code cuts it out of a table
pub record Cut (table list : List ℕ) (from count : ℕ) : Type 0 where
  pub list_is : take (from + count - from) (drop from table) ≡ list
  pub within : from + count ≤ length table

cut : {table list : List ℕ} {f : ℕ} → Part table f list → Cut table list f (length list)
cut {table} {list} {f} l = record {
  list_is = ap (λ (m : ℕ). take m (drop f table)) less ∙ ap (λ (t : List ℕ). take (length list) (drop f t)) l.whole ∙ ap (take (length list)) (drop_at l.before _ f l.first) ∙ take_at list l.after (length list) refl;
  within = omega (arith, simp length-append at (ap length l.whole), l.first);
}
  where
    less : f + length list - f ≡ length list
    less = omega arith

pub cut_length : {table list : List ℕ} {from count : ℕ} → Cut table list from count → length list ≡ count
cut_length c = sym (ap length c.list_is) ∙ simp (length-take, length-drop) (omega (arith, c.within))

module _ {nodes listings index : List ℕ} {n f : ℕ} where
  leaf_at : {slots : List ℕ} → Seat nodes listings index (leaf slots) n f → Cut listings slots (get_or index (4 * n) 0) (get_or nodes n 0)
  unfolding listings_of
  leaf_at {slots} h = go h.standing.stands h.indexed h.listed_at
    where
      go : Stands nodes (leaf slots) n → Indexed index (leaf slots) n f → Part listings f slots → Cut listings slots (get_or index (4 * n) 0) (get_or nodes n 0)
      go (leaf_stands x y) (leaf_indexed z) l = rw (x, z) (cut l)

  divided_at : {nw ne sw se : Tree} → Seat nodes listings index (divided nw ne sw se) n f → get_or nodes n 0 ≡ 65535
  divided_at {nw} {ne} {sw} {se} h = go h.standing.stands
    where
      go : Stands nodes (divided nw ne sw se) n → get_or nodes n 0 ≡ 65535
      go (sons_stand x a b c d) = x

  leaf_short : {slots : List ℕ} → Seat nodes listings index (leaf slots) n f → get_or nodes n 0 < 65535
  leaf_short {slots} h = go h.standing.stands
    where
      go : Stands nodes (leaf slots) n → get_or nodes n 0 < 65535
      go (leaf_stands x y) = omega arith

-- ---- A block over p

abbrev square : ℕ → ℕ → ℕ → Block
square west south side = record { west = west; south = south; side = side }

module _ {lines nodes listings index : List ℕ} {p : Point} {node : ℕ} {k : Block} (h : Placed lines nodes listings index p node k) where
  abbrev rule : Rule
  rule = h.chart.map.rule

  pub leaf_cut : (get_or nodes node 0 ≡ 65535 → ⊥) → Cut listings (listed (live_lines lines) k) (get_or index (4 * node) 0) (get_or nodes node 0)
  leaf_cut e = go (shape rule (live_lines lines) h.level k.west k.south) h.side_is h.seat
    where
      go : {n : ℕ} → Shape rule (live_lines lines) n k.west k.south → k.side ≡ 2 ^ suc n → Seat nodes listings index (tree_by rule (live_lines lines) n k.west k.south) node h.first →
          Cut listings (listed (live_lines lines) k) (get_or index (4 * node) 0) (get_or nodes node 0)
      go (whole q) s t = subst (λ (b : Block). Cut listings (listed (live_lines lines) b) (get_or index (4 * node) 0) (get_or nodes node 0)) (λ i. square k.west k.south (sym s i)) (leaf_at (rw q at t))
      go (parted q) s t = absurd (e (divided_at (rw q at t)))

  -- the two sons over p, one south of the other
  pub record Halves (q : ℕ) (a b : Block) : Type 0 where
    pub upper : Placed lines nodes listings index p (get_or index (4 * node + q) 0) a
    pub lower : Placed lines nodes listings index p (get_or index (4 * node + q + 2) 0) b
    pub level : (upper.level + 1 ≡ h.level) × (lower.level + 1 ≡ h.level)
    pub less : (a.side < k.side) × (b.side < k.side)
    pub stacked : Stacked k a b

  module _ (m : ℕ) (v : m + 1 ≡ h.level) (s : k.side ≡ 2 ^ suc (suc m)) (t : Seat nodes listings index (sons_by rule (live_lines lines) m k.west k.south) node h.first) where
    half : k.side / 2 ≡ 2 ^ suc m
    half = ap (λ (x : ℕ). x / 2) s ∙ half_power m

    twice : k.side ≡ k.side / 2 + k.side / 2
    twice = omega (arith, half, s, double (suc m))

    some : 1 ≤ k.side / 2
    some = omega (arith, half, some_power (suc m))

    son : (w s j f : ℕ) → Seat nodes listings index (tree_by rule (live_lines lines) m w s) (get_or index j 0) f → w ≤ p.x.0 → p.x.0 ≤ w + k.side / 2 → w + k.side / 2 ≤ 32768 → s + k.side / 2 ≤ 32768 →
        Placed lines nodes listings index p (get_or index j 0) (square w s (k.side / 2))
    son w s j f t a b c d = record { chart = h.chart; level = m; first = f; side_is = half; seat = t; from_west = a; to_east = b; east_in = c; north_in = d }

    sons : (q w : ℕ) (a : Placed lines nodes listings index p (get_or index (4 * node + q) 0) (square w (k.south + k.side / 2) (k.side / 2)))
        (b : Placed lines nodes listings index p (get_or index (4 * node + q + 2) 0) (square w k.south (k.side / 2))) → a.level ≡ m → b.level ≡ m →
        Halves q (square w (k.south + k.side / 2) (k.side / 2)) (square w k.south (k.side / 2))
    sons q w a b x y = record { upper = a; lower = b; level = (ap (λ (n : ℕ). n + 1) x ∙ v, ap (λ (n : ℕ). n + 1) y ∙ v); less = (omega (arith, twice, some), omega (arith, twice, some)); stacked = record { same_west = refl; same_side = refl; top = omega (arith, twice); seam = refl; bottom = refl } }

    pick : {q : ℕ} {a b : Block} → StripOver p k q a b → Halves q a b
    unfolding son
    pick (in_west x e f) = rw (e, f) (sons _ _
        (son _ _ _ _ (rw (← half) at ((seats t).nw_seat (4 * node + 0) (omega arith))) h.from_west (omega arith) (omega (arith, twice, h.east_in)) (omega (arith, twice, h.north_in)))
        (son _ _ _ _ ((seats t).sw_seat (4 * node + 0 + 2) (omega arith)) h.from_west (omega arith) (omega (arith, twice, h.east_in)) (omega (arith, twice, h.north_in))) refl refl)
    pick (in_east x e f) = rw (e, f) (sons _ _
        (son _ _ _ _ (rw (← half) at ((seats t).ne_seat (4 * node + 1) (omega arith))) x (omega (arith, twice, h.to_east)) (omega (arith, twice, h.east_in)) (omega (arith, twice, h.north_in)))
        (son _ _ _ _ (rw (← half) at ((seats t).se_seat (4 * node + 1 + 2) (omega arith))) x (omega (arith, twice, h.to_east)) (omega (arith, twice, h.east_in)) (omega (arith, twice, h.north_in))) refl refl)

  pub halves : {q : ℕ} {a b : Block} → get_or nodes node 0 ≡ 65535 → StripOver p k q a b → Halves q a b
  halves e o = go (shape rule (live_lines lines) h.level k.west k.south) refl h.side_is h.seat o
    where
      go : {n q : ℕ} {a b : Block} → Shape rule (live_lines lines) n k.west k.south → n ≡ h.level → k.side ≡ 2 ^ suc n → Seat nodes listings index (tree_by rule (live_lines lines) n k.west k.south) node h.first →
          StripOver p k q a b → Halves q a b
      go (whole q) v s t o = absurd (omega (arith, leaf_short (rw q at t)))
      go (parted {m = m} q) v s t o = pick m (add-one m ∙ v) s (rw q at t) o

  pub above_ground : get_or nodes node 0 ≡ 65535 → 1 ≤ h.level
  above_ground e = go (shape rule (live_lines lines) h.level k.west k.south) h.seat
    where
      go : {n : ℕ} → Shape rule (live_lines lines) n k.west k.south → Seat nodes listings index (tree_by rule (live_lines lines) n k.west k.south) node h.first → 1 ≤ n
      go (whole q) t = absurd (omega (arith, leaf_short (rw q at t)))
      go (parted q) t = omega arith

pub strip_few : {p : Point} {k a b : Block} {q : ℕ} → StripOver p k q a b → q < 2
strip_few (in_west x e f) = omega arith
strip_few (in_east x e f) = omega arith

-- ---- The entry of a son

pub entry_most : {entry son : ℕ} {upper : Bool} → SonEntry entry upper son → son ≤ entry + 2
entry_most (of_upper e) = omega arith
entry_most (of_lower e) = omega arith

-- ---- A son gone to

-- with its node, one level below a block of this level and side
pub record Son (lines nodes listings index : List ℕ) (p : Point) (level side n : ℕ) (k : Block) : Type 0 where
  pub placed : Placed lines nodes listings index p n k
  pub level_is : placed.level + 1 ≡ level
  pub less : k.side < side

pub son_at : {lines nodes listings index : List ℕ} {p : Point} {node q : ℕ} {k a b : Block} {h : Placed lines nodes listings index p node k} → Halves h q a b →
    {up : Bool} {n m : ℕ} {j : Block} → SonEntry (4 * node + q) up n → m ≡ get_or index n 0 → SonIs a b up j → Son lines nodes listings index p h.level k.side m j
son_at two (of_upper x) y (is_upper z) = rw (y, x, z) (record { placed = two.upper; level_is = two.level.0; less = two.less.0 })
son_at two (of_lower x) y (is_lower z) = rw (y, x, z) (record { placed = two.lower; level_is = two.level.1; less = two.less.1 })

-- a divided block can be gone into where few places of the table are taken
pub entered : {lines nodes listings index : List ℕ} {places : ℕ} {p : Point} {at : Spot} → Placed lines nodes listings index p at.node (block_of at.block) → at.by ≤ 13 → places ≡ 16 → Entered index places at
entered q f l =
    record {
      entries = omega (arith, placed_there q, q.chart.room);
      room = omega arith;
      few_nodes = omega (arith, placed_there q, q.chart.map.few_nodes);
      east_in = omega (arith, q.east_in);
      north_in = omega (arith, q.north_in);
    }

-- the entries of a place are kept by writes after it
pub entries_kept : {s s' : List ℕ} {i a b c d : ℕ} → Entries s i a b c d → ((k : ℕ) → k < 4 * suc i → get_or s' k 0 ≡ get_or s k 0) → Entries s' i a b c d
entries_kept {i = i} e same =
    record {
      first = same (4 * i) (omega arith) ∙ e.first;
      second = same (4 * i + 1) (omega arith) ∙ e.second;
      third = same (4 * i + 2) (omega arith) ∙ e.third;
      fourth = same (4 * i + 3) (omega arith) ∙ e.fourth;
    }

-- and are those of one block
module _ {later : List ℕ} {i n a b c m x y z : ℕ} (e : Entries later i n a b c) (f : Entries later i m x y z) where
  pub one_node : n ≡ m
  one_node = sym e.first ∙ f.first

  pub one_block : ◌≡◌ {A = Block} (record { west = a; south = b; side = c }) (record { west = x; south = y; side = z })
  one_block = λ t. record { west = (sym e.second ∙ f.second) t; south = (sym e.third ∙ f.third) t; side = (sym e.fourth ∙ f.fourth) t }
