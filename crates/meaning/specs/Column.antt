-- The column of leaves over a point: what was seen on the way south or north as far as a side, and when it is enough.
use Rattle.std.specs.Prelude.{◌≡◌, refl, ◌↔◌, ◌⊎◌, Bool, ℕ, ◌+◌, ◌*◌, ◌-◌, ◌≤◌, ◌<◌, leb}
use Rattle.std.proofs.Common.{sym, ◌∙◌, ap, subst, inl, inr, mul-le-mul_right, mul-lt-mul_of_pos_right, leb-true, le-ltb, ltb-false}
use Rattle.std.proofs.Math.Bool.{true, false}
use mathlib.Core.List.Memᴰ
use mathlib.Core.List.{List, [], ◌∷◌, map, Memᴰ}
use native.Mathlib.Omega.{arith}
use Rattle.meaning.specs.Found.{Found}
use Rattle.std.specs.Prelude.{None, Some}
use Rattle.definitions.specs.declared.Point.{Point}
use Rattle.algebra.specs.Lists.{those_yes, those_no, in_those, of_those}
use Rattle.algebra.specs.Signs.{positive_is, negative_is}
use Rattle.algebra.specs.Tests.{no_path, and_l, and_r}
use Rattle.algebra.specs.Words.{those}
use Rattle.definitions.specs.Lookup.{west_end, east_end, run, height_over, from_below, from_above, no_line, answering}
use Rattle.definitions.specs.Meaning.{spot_of, Live, Through, CountsBelow, outside}
use Rattle.definitions.specs.Shape.{Line, half_point, Block, east, north, turn, between, meets, inside, on}
use Rattle.definitions.specs.Tables.{line_at, live_lines, none_conflict}
use Rattle.definitions.specs.Tree.{listed}
use Rattle.meaning.specs.Ahead.{counts, counts_over, beyond, Ahead, ahead}
use Rattle.meaning.specs.Answering.{through_is, live_mem, mem_live, Foremost, foremost_below, foremost_above, answering_iff, none_through}
use Rattle.meaning.specs.Best.{scan, CountsAt, no_top, top, tops_less, tops_scan, Tops, Best}
use Rattle.plane.specs.Compare.{order}
use Rattle.meaning.specs.Height.{point_over, point_over_is, counts_below, counts_above, below→, above→}
use Rattle.plane.proofs.Meeting.{meets_iff}
use Rattle.meaning.specs.Rank.{Over, Higher, run_some, turn_height, taller, Taller, asym}
use Rattle.plane.specs.Turns.{lefts, rights, turn_is}

-- over x the line's height is from S to T
pub record Between (x S T : ℕ) (l : Line) : Type 0 where
  pub from_south : S * run l ≤ height_over x l
  pub to_north : height_over x l ≤ T * run l

-- a line whose point over x lies in a block over x meets that block
pub column_meets : (x : ℕ) (k : Block) (l : Line) → Over x l → k.west ≤ x → x ≤ east k → Between x k.south (north k) l → meets k l ≡ true
unfolding point_over
column_meets x k l o w e b =
    (meets_iff k l).1 (
      point_over x l o,
      (point_over_is x l o).online,
      record { from_west = mul-le-mul_right (run l) w; to_east = mul-le-mul_right (run l) e; from_south = b.from_south; to_north = b.to_north },
    )

-- what a leaf lists
pub listed→ : (lines : List ℕ) (k : Block) (u : ℕ) → Memᴰ u (listed (live_lines lines) k) → Live lines u × (meets k (line_at lines u) ≡ true)
unfolding listed line_at
listed→ lines k u m = slots (those (meets k) (live_lines lines)) (λ l i. of_those (meets k) (live_lines lines) i) m
  where
    one : (l : Line) → Memᴰ l (live_lines lines) → meets k l ≡ true → u ≡ l.slot → Live lines u × (meets k (line_at lines u) ≡ true)
    one l i j e =
        let h = live_mem lines (half_point 0 0) l i in
        let f = e ∙ ap (λ (n : Line). n.slot) h.2 in
        (subst (Live lines) (sym f) h.1, subst (λ (n : Line). meets k n ≡ true) (h.2 ∙ ap (line_at lines) (sym f)) j)

    slots : (ls : List Line) → ((l : Line) → Memᴰ l ls → Memᴰ l (live_lines lines) × (meets k l ≡ true)) → Memᴰ u (map (λ (l : Line). l.slot) ls) → Live lines u × (meets k (line_at lines u) ≡ true)
    slots [] f m = absurd (Memᴰ.not-nil m)
    slots (l ∷ ls) f (Memᴰ.head e) = let h = f l (Memᴰ.head refl) in one l h.0 h.1 e
    slots (l ∷ ls) f (Memᴰ.tail i) = slots ls (λ n j. f n (Memᴰ.tail j)) i

pub listed← : (lines : List ℕ) (k : Block) (u : ℕ) → Live lines u → meets k (line_at lines u) ≡ true → Memᴰ u (listed (live_lines lines) k)
unfolding listed line_at
listed← lines k u v e = slots (those (meets k) (live_lines lines)) (in_those (meets k) (live_lines lines) (mem_live lines (half_point 0 0) u v) e)
  where
    slots : (ls : List Line) → Memᴰ (line_at lines u) ls → Memᴰ u (map (λ (l : Line). l.slot) ls)
    slots [] m = absurd (Memᴰ.not-nil m)
    slots (l ∷ ls) (Memᴰ.head e) = Memᴰ.head (ap (λ (n : Line). n.slot) e)
    slots (l ∷ ls) (Memᴰ.tail i) = Memᴰ.tail (slots ls i)

-- ---- Two ways from a point: true is south, false is north

-- the side at which the way comes into a block, and that at which it leaves it
abbrev pub near : Bool → Block → ℕ
near true k = north k
near false k = k.south

abbrev pub far : Bool → Block → ℕ
far true k = k.south
far false k = north k

-- the way comes to S no later than to T
abbrev pub Before : Bool → ℕ → ℕ → Type 0
Before true S T = T ≤ S
Before false S T = S ≤ T

-- over x the line's height is from y to S
abbrev pub Way : Bool → ℕ → ℕ → ℕ → Line → Type 0
Way true x y S l = Between x S y l
Way false x y S l = Between x y S l

-- c is the best of the lines that count and whose height over p's x is from p to S
unfoldable pub Seen : (lines : List ℕ) (d : Bool) (p : Point) (S : ℕ) → Found → Type 0
Seen lines d p S c = Tops lines d p.x.0 (counts d p) (λ (u : ℕ). Way d p.x.0 p.y.0 S (line_at lines u)) c

-- c is the best of all lines that count
abbrev pub BestOf : (lines : List ℕ) (d : Bool) (p : Point) → Found → Type 0
BestOf lines d p c = Best lines d p.x.0 (counts d p) c

-- every live line's ends lie south of T
abbrev pub SouthOf : List ℕ → ℕ → Type 0
SouthOf lines T = (u : ℕ) → Live lines u → ((west_end (line_at lines u)).y.0 ≤ T) × ((east_end (line_at lines u)).y.0 ≤ T)

of_lt : {a b : ℕ} → a < b → a ≤ b
of_lt h = omega arith

up : (a b c : ℕ) → a < b → b ≤ c → a ≤ c
up a b c h i = omega arith

upon : (a b c : ℕ) → a ≤ b → b < c → a ≤ c
upon a b c h i = omega arith

no : (a b c : ℕ) → a ≤ b → b < c → c ≤ a → ⊥
no a b c h i j = omega arith

height_south : (T x : ℕ) (l : Line) → ((west_end l).y.0 ≤ T) × ((east_end l).y.0 ≤ T) → Over x l → height_over x l ≤ T * run l
unfolding height_over run
height_south T x l f o = go (west_end l).x.0 (west_end l).y.0 (east_end l).x.0 (east_end l).y.0 f.0 f.1 o.from_west o.before_east
  where
    sum : (a b v u : ℕ) → a * v ≤ T * v → b * u ≤ T * u → a * v + b * u ≤ T * (v + u)
    sum a b v u h k = omega arith

    go : (a ay b by : ℕ) → ay ≤ T → by ≤ T → a ≤ x → x < b → ay * (b - x) + by * (x - a) ≤ T * (b - a)
    go a ay b by h k i j = subst (λ (r : ℕ). ay * (b - x) + by * (x - a) ≤ T * r) {x = b - x + (x - a)} (omega arith) (sum ay by (b - x) (x - a) (mul-le-mul_right (b - x) h) (mul-le-mul_right (x - a) k))

module _ (lines : List ℕ) (p : Point) where
  abbrev the : ℕ → Line
  the u = line_at lines u

  over_at : (d : Bool) (s : ℕ) → counts d p (the s) ≡ true → Over p.x.0 (the s)
  over_at d s = counts_over d p (the s)

  -- a leaf of the column looked at: next to what was seen
  pub seen_next : (d : Bool) (k : Block) (S : ℕ) (c : Found) → k.west ≤ p.x.0 → p.x.0 ≤ east k → Before d (near d k) S → Seen lines d p S c
      → Seen lines d p (far d k) (scan lines (counts d p) (ahead d p.x.0) c (listed (live_lines lines) k))
  unfolding Seen
  seen_next d k S c w e h t =
      tops_less lines d p.x.0 (counts d p) (λ (u : ℕ). Way d p.x.0 p.y.0 S (the u) ⊎ Memᴰ u (listed (live_lines lines) k)) (λ (u : ℕ). Way d p.x.0 p.y.0 (far d k) (the u)) _ (either d h)
      (tops_scan lines d p.x.0 (counts d p) (λ (u : ℕ). Way d p.x.0 p.y.0 S (the u)) c (listed (live_lines lines) k) (λ s m. (listed→ lines k s m).0) (over_at d) t)
    where
      met : (u : ℕ) → Live lines u → Over p.x.0 (the u) → k.south * run (the u) ≤ height_over p.x.0 (the u) → height_over p.x.0 (the u) ≤ north k * run (the u) → Memᴰ u (listed (live_lines lines) k)
      met u v o i j = listed← lines k u v (column_meets p.x.0 k (the u) o w e (record { from_south = i; to_north = j }))

      either : (d : Bool) → Before d (near d k) S → (u : ℕ) → CountsAt lines p.x.0 (counts d p) u → Way d p.x.0 p.y.0 (far d k) (the u) → Way d p.x.0 p.y.0 S (the u) ⊎ Memᴰ u (listed (live_lines lines) k)
      either true h u j b = go (order (S * run (the u)) (height_over p.x.0 (the u)))
        where
          go : (S * run (the u) ≤ height_over p.x.0 (the u)) ⊎ (height_over p.x.0 (the u) < S * run (the u)) → Way true p.x.0 p.y.0 S (the u) ⊎ Memᴰ u (listed (live_lines lines) k)
          go (inl i) = inl (record { from_south = i; to_north = b.to_north })
          go (inr i) = inr (met u j.lives j.over b.from_south (up _ _ _ i (mul-le-mul_right (run (the u)) h)))
      either false h u j b = go (order (height_over p.x.0 (the u)) (S * run (the u)))
        where
          go : (height_over p.x.0 (the u) ≤ S * run (the u)) ⊎ (S * run (the u) < height_over p.x.0 (the u)) → Way false p.x.0 p.y.0 S (the u) ⊎ Memᴰ u (listed (live_lines lines) k)
          go (inl i) = inl (record { from_south = b.from_south; to_north = i })
          go (inr i) = inr (met u j.lives j.over (upon _ _ _ (mul-le-mul_right (run (the u)) h) i) b.to_north)

  -- up to p nothing counts
  pub seen_start : (d : Bool) (S : ℕ) → Before d S p.y.0 → Seen lines d p S None
  unfolding Seen counts
  seen_start true S h = no_top (λ u b j. no _ _ _ b.from_south (below→ p (the u) j.passes).1 (mul-le-mul_right (run (the u)) h))
  seen_start false S h = no_top (λ u b j. no _ _ _ (mul-le-mul_right (run (the u)) h) (above→ p (the u) j.passes).1 b.to_north)

  -- seen to the map's foot, or to its head: the best
  pub seen_foot : (c : Found) → Seen lines true p 0 c → BestOf lines true p c
  unfolding Seen Best counts
  seen_foot c t = tops_less lines true p.x.0 (counts true p) (λ (u : ℕ). Between p.x.0 0 p.y.0 (the u)) (λ (u : ℕ). ℕ) c
      (λ u j _. record { from_south = omega arith; to_north = of_lt (below→ p (the u) j.passes).1 }) t

  pub seen_head : (T : ℕ) (c : Found) → SouthOf lines T → Seen lines false p T c → BestOf lines false p c
  unfolding Seen Best counts
  seen_head T c f t = tops_less lines false p.x.0 (counts false p) (λ (u : ℕ). Between p.x.0 p.y.0 T (the u)) (λ (u : ℕ). ℕ) c
      (λ u j _. record { from_south = of_lt (above→ p (the u) j.passes).1; to_north = height_south T p.x.0 (the u) (f u j.lives) j.over }) t

  -- the line found lies within what was seen: the best
  pub seen_stop : (d : Bool) (S s : ℕ) → Seen lines d p S (Some s) → Before d (height_over p.x.0 (the s)) (S * run (the s)) → BestOf lines d p (Some s)
  unfolding Seen Best Ahead Taller counts
  seen_stop true S s (top _ k f) r = top s k (λ u _ j a. go u j a (order (S * run (the u)) (height_over p.x.0 (the u))))
    where
      past : (h r g n : ℕ) → h < S * r → S * n ≤ g → 0 < n → h * n < g * r
      past h r g n i j k = last h r g n (mul-lt-mul_of_pos_right i k) (mul-le-mul_right r j)
        where
          last : (h r g n : ℕ) → h * n < S * r * n → S * n * r ≤ g * r → h * n < g * r
          last h r g n a b = omega arith

      go : (u : ℕ) → CountsAt lines p.x.0 (counts true p) u → Higher p.x.0 (the u) (the s) → (S * run (the u) ≤ height_over p.x.0 (the u)) ⊎ (height_over p.x.0 (the u) < S * run (the u)) → ⊥
      go u j a (inl i) = f u (record { from_south = i; to_north = of_lt (below→ p (the u) j.passes).1 }) j a
      go u j a (inr i) = asym p.x.0 (the u) (the s) a (taller (past (height_over p.x.0 (the u)) (run (the u)) (height_over p.x.0 (the s)) (run (the s)) i r (run_some p.x.0 (the s) k.over)))
  seen_stop false S s (top _ k f) r = top s k (λ u _ j a. go u j a (order (height_over p.x.0 (the u)) (S * run (the u))))
    where
      past : (h r g n : ℕ) → S * r < h → g ≤ S * n → 0 < n → g * r < h * n
      past h r g n i j k = last h r g n (mul-lt-mul_of_pos_right i k) (mul-le-mul_right r j)
        where
          last : (h r g n : ℕ) → S * r * n < h * n → g * r ≤ S * n * r → g * r < h * n
          last h r g n a b = omega arith

      go : (u : ℕ) → CountsAt lines p.x.0 (counts false p) u → Higher p.x.0 (the s) (the u) → (height_over p.x.0 (the u) ≤ S * run (the u)) ⊎ (S * run (the u) < height_over p.x.0 (the u)) → ⊥
      go u j a (inl i) = f u (record { from_south = of_lt (above→ p (the u) j.passes).1; to_north = i }) j a
      go u j a (inr i) = asym p.x.0 (the s) (the u) a (taller (past (height_over p.x.0 (the u)) (run (the u)) (height_over p.x.0 (the s)) (run (the s)) i r (run_some p.x.0 (the s) k.over)))

-- by a turn: the line's point over x lies no further than S
pub stop_by_turn : (d : Bool) (x S : ℕ) (l : Line) → Over x l → (beyond d (turn (west_end l) (east_end l) (half_point x S)) ≡ false) ↔ Before d (height_over x l) (S * run l)
unfolding beyond
stop_by_turn d x S l o = go d
  where
    even : lefts (west_end l) (east_end l) (half_point x S) + height_over x l ≡ rights (west_end l) (east_end l) (half_point x S) + S * run l
    even = turn_height l (half_point x S) o.from_west (of_lt o.before_east)

    one : (a b c d : ℕ) → a + b ≡ c + d → a ≤ c → d ≤ b
    one a b c d e k = omega arith

    two : (a b c d : ℕ) → a + b ≡ c + d → d ≤ b → a ≤ c
    two a b c d e k = omega arith

    three : (a b c d : ℕ) → a + b ≡ c + d → c ≤ a → b ≤ d
    three a b c d e k = omega arith

    four : (a b c d : ℕ) → a + b ≡ c + d → b ≤ d → c ≤ a
    four a b c d e k = omega arith

    go : (d : Bool) → (beyond d (turn (west_end l) (east_end l) (half_point x S)) ≡ false) ↔ Before d (height_over x l) (S * run l)
    go true = (
      λ e. one _ _ _ _ even (ltb-false _ _ (sym (positive_is (turn_is (west_end l) (east_end l) (half_point x S))) ∙ e)),
      λ h. positive_is (turn_is (west_end l) (east_end l) (half_point x S)) ∙ le-ltb _ _ (two _ _ _ _ even h),
    )
    go false = (
      λ e. three _ _ _ _ even (ltb-false _ _ (sym (negative_is (turn_is (west_end l) (east_end l) (half_point x S))) ∙ e)),
      λ h. negative_is (turn_is (west_end l) (east_end l) (half_point x S)) ∙ le-ltb _ _ (four _ _ _ _ even h),
    )

-- a line through p is listed by every block that holds p
pub own_meets : (p : Point) (k : Block) (l : Line) → inside k p ≡ true → on p l ≡ true → meets k l ≡ true
unfolding Through spot_of inside
own_meets p k l i e =
    (meets_iff k l).1 (
      spot_of p,
      (through_is p l).0 e,
      record { from_west = one (leb-true _ _ (and_l (leb k.west p.x.0) (leb p.x.0 (east k)) h)); to_east = eno (leb-true _ _ (and_r (leb k.west p.x.0) (leb p.x.0 (east k)) h)); from_south = one (leb-true _ _ (and_l (leb k.south p.y.0) (leb p.y.0 (north k)) v)); to_north = eno (leb-true _ _ (and_r (leb k.south p.y.0) (leb p.y.0 (north k)) v)) },
    )
  where
    h : between k.west p.x.0 (east k) ≡ true
    h = and_l (between k.west p.x.0 (east k)) (between k.south p.y.0 (north k)) i

    v : between k.south p.y.0 (north k) ≡ true
    v = and_r (between k.west p.x.0 (east k)) (between k.south p.y.0 (north k)) i

    one : {a b : ℕ} → a ≤ b → a * 1 ≤ b
    one h = omega arith

    eno : {a b : ℕ} → a ≤ b → a ≤ b * 1
    eno h = omega arith

-- so the own leaf's list has them all, in their order
pub own_leaf : (p : Point) (k : Block) (ls : List Line) → inside k p ≡ true → those (on p) ls ≡ those (on p) (those (meets k) ls)
unfolding those
own_leaf p k [] i = refl
own_leaf p k (l ∷ ls) i = go (on p l) refl (meets k l) refl (own_leaf p k ls i)
  where
    go : (b : Bool) → on p l ≡ b → (c : Bool) → meets k l ≡ c → those (on p) ls ≡ those (on p) (those (meets k) ls) → those (on p) (l ∷ ls) ≡ those (on p) (those (meets k) (l ∷ ls))
    go true e true f r = those_yes (on p) l ls e ∙ ap (λ (ms : List Line). l ∷ ms) r ∙ sym (those_yes (on p) l (those (meets k) ls) e) ∙ ap (those (on p)) (sym (those_yes (meets k) l ls f))
    go true e false f r = no_path (sym f ∙ own_meets p k l i e)
    go false e true f r = those_no (on p) l ls e ∙ r ∙ sym (those_no (on p) l (those (meets k) ls) e) ∙ ap (those (on p)) (sym (those_yes (meets k) l ls f))
    go false e false f r = those_no (on p) l ls e ∙ r ∙ ap (those (on p)) (sym (those_no (meets k) l ls f))

-- ---- The answer by what was found

module _ (lines : List ℕ) (p : Point) (sound : none_conflict lines ≡ true) (e : those (on p) (live_lines lines) ≡ []) where
  foremost : (d : Bool) (s : ℕ) → BestOf lines d p (Some s) → Foremost lines p d s
  unfolding Best
  foremost d s (top _ k f) = record { lives = k.lives; passes = k.passes; tops = λ u v b h. f u 0 (record { lives = v; passes = b; over = counts_over d p (line_at lines u) b }) h }

  none_of : (d : Bool) → BestOf lines d p None → (u : ℕ) → Live lines u → counts d p (line_at lines u) ≡ true → ⊥
  unfolding Best
  none_of d (no_top f) u v b = f u 0 (record { lives = v; passes = b; over = counts_over d p (line_at lines u) b })

  pub found_below : (s : ℕ) → BestOf lines true p (Some s) → from_below s ≡ answering lines p
  found_below s b = (answering_iff lines p sound (from_below s)).1 (foremost_below lines p s (none_through lines p e) (foremost true s b))

  nothing_below : BestOf lines true p None → (u : ℕ) → Live lines u → CountsBelow p (line_at lines u) → ⊥
  unfolding counts
  nothing_below b u v c = none_of true b u v ((counts_below p (line_at lines u)).1 c)

  pub found_above : (s : ℕ) → BestOf lines true p None → BestOf lines false p (Some s) → from_above s ≡ answering lines p
  found_above s n b = (answering_iff lines p sound (from_above s)).1 (foremost_above lines p s (none_through lines p e) (nothing_below n) (foremost false s b))

  pub found_none : BestOf lines true p None → BestOf lines false p None → no_line ≡ answering lines p
  unfolding counts
  found_none n b = (answering_iff lines p sound no_line).1 (outside (none_through lines p e) (nothing_below n) (λ u v c. none_of false b u v ((counts_above p (line_at lines u)).1 c)))
