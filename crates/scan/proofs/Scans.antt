-- The laws of a scan: which of two lines comes first on the way, and one slot more looked at.
use Rattle.std.specs.Prelude.{if◌then◌else◌}
use mathlib.Core.Path.{◌≡◌, refl, sym, ap, ap₂, ◌∙◌, subst}
use mathlib.Core.Bool.{Bool, true, false, ◌&&◌}
use mathlib.Core.List.{List, [], ◌∷◌}
use Prim.Native.Nat.{ℕ, ◌+◌, ◌≤◌, ◌<◌}
use native.Mathlib.Numerals.{add-one}
use native.Mathlib.Omega.{arith}
use lib.ListN.{length, drop, get_or, drop_of_length-le}
use lib.Seq.{drop-cons}
use Rattle.definitions.specs.declared.Point.{Point}
use Rattle.definitions.specs.Shape.{Line, on}
use Rattle.definitions.specs.Tables.{line_at}
use Rattle.definitions.specs.Lookup.{west_end, east_end}
use Rattle.geometry.specs.declared.Line as code
use Rattle.geometry.specs.declared.Stand.{Stand}
use Rattle.geometry.specs.declared.Stand.TheVariants.{On, Counts, Aside}
use Rattle.geometry.specs.Means.{line_of, line_from, stand_of}
use Rattle.geometry.specs.Look.{higher_ends}
use Rattle.geometry.specs.Slots.{on_slot, counts_slot}
use Rattle.meaning.specs.Found.{Found}
use Rattle.std.specs.Prelude.{None, Some}
use Rattle.meaning.specs.Ahead.{counts, counts_over, ahead_by_turns}
use Rattle.meaning.specs.Best.{better, scan}
use Rattle.meaning.specs.Locate.{first_on}
use Rattle.tables.specs.Rows.{OnMap, IsLine, line_is}
use Rattle.scan.specs.Asked.{OnWay, none, one, first_of, NoneOn}

-- ---- Two lines that count from a point

-- lines turned eastward, as the code hands them on
ahead_ends : (d : Bool) (l m : Line) → (west_end l).x.0 < (east_end l).x.0 → (west_end m).x.0 < (east_end m).x.0 → ahead_by_turns d (line_from (west_end l) (east_end l)) (line_from (west_end m) (east_end m)) ≡ ahead_by_turns d l m
unfolding ahead_by_turns
ahead_ends true l m h k = higher_ends l m h k
ahead_ends false l m h k = higher_ends m l k h

module _ (lines : List ℕ) (d : Bool) where
  way_east : {p : Point} {s : ℕ} → OnWay lines d p (Some s) → (west_end (line_at lines s)).x.0 < (east_end (line_at lines s)).x.0
  way_east {p} {s} (one m b) = let o = counts_over d p (line_at lines s) b in omega (arith, o.from_west, o.before_east)

  -- e is the line of slot s, turned eastward
  abbrev Turned : ℕ → code.Line → Type 0
  Turned s e = (e.a ≡ west_end (line_at lines s)) × (e.b ≡ east_end (line_at lines s))

  turned : {s : ℕ} {l e : code.Line} → IsLine lines s l → (e.a ≡ west_end (line_of l)) × (e.b ≡ east_end (line_of l)) → Turned s e
  turned i h = (h.0 ∙ ap west_end (line_is i), h.1 ∙ ap east_end (line_is i))

  module _ {p : Point} {s t : ℕ} {l m e f : code.Line} (u : OnWay lines d p (Some s)) (v : OnWay lines d p (Some t)) (i : IsLine lines s l) (j : IsLine lines t m)
      (h : (e.a ≡ west_end (line_of l)) × (e.b ≡ east_end (line_of l))) (k : (f.a ≡ west_end (line_of m)) × (f.b ≡ east_end (line_of m))) where
    pub eastern : (e.a.x.0 < e.b.x.0) × (f.a.x.0 < f.b.x.0)
    eastern = let a = turned i h in let b = turned j k in (rw (a.0, a.1) (way_east u), rw (b.0, b.1) (way_east v))

    -- the code's choice is that of the definitions
    pub first_is : {r b : Bool} → r ≡ ahead_by_turns d (line_of e) (line_of f) → r ≡ b → (if b then Some s else Some t) ≡ first_of lines d (Some t) s
    unfolding better
    first_is q g =
        let a = turned i h in
        let b = turned j k in
        ap (λ (x : Bool). if x then Some s else Some t)
        (sym g ∙ q ∙ ap₂ (ahead_by_turns d) (ap₂ line_from a.0 a.1) (ap₂ line_from b.0 b.1) ∙ ahead_ends d (line_at lines s) (line_at lines t) (way_east u) (way_east v))

  pub first_none : (s : ℕ) → Some s ≡ first_of lines d None s
  unfolding better
  first_none s = refl

  -- the first of two lines that count is one
  first_way : {p : Point} {c : Found} {s : ℕ} → OnWay lines d p c → OnWay lines d p (Some s) → OnWay lines d p (first_of lines d c s)
  unfolding better
  first_way none v = v
  first_way {p} {c} {s} (one {s = t} m b) v = go (ahead_by_turns d (line_at lines s) (line_at lines t))
    where
      go : (h : Bool) → OnWay lines d p (if h then Some s else Some t)
      go true = v
      go false = one m b

  -- ---- How a line stands to a point

  abbrev StandTells : Stand → Bool → Bool → Type 0
  StandTells On a b = a ≡ true
  StandTells Counts a b = (a ≡ false) × (b ≡ true)
  StandTells Aside a b = (a ≡ false) × (b ≡ false)

  tells : (a b : Bool) → StandTells (stand_of a b) a b
  unfolding stand_of
  tells true b = refl
  tells false true = (refl, refl)
  tells false false = (refl, refl)

  pub stand_tells : (p : Point) {s : ℕ} {l : code.Line} {r q : Stand} → IsLine lines s l → r ≡ stand_of (on p (line_of l)) (counts d p (line_of l)) → r ≡ q →
      StandTells q (on p (line_at lines s)) (counts d p (line_at lines s))
  stand_tells p {s} i h e =
      let same = h ∙ ap (λ (m : Line). stand_of (on p m) (counts d p m)) (line_is i) ∙ ap₂ stand_of (on_slot p (line_at lines s)) (counts_slot d p (line_at lines s)) in
      subst (λ (z : Stand). StandTells z (on p (line_at lines s)) (counts d p (line_at lines s))) (sym same ∙ e) (tells (on p (line_at lines s)) (counts d p (line_at lines s)))

-- ---- The slots from i on, after the best so far

pub record Onward (lines slots : List ℕ) (d : Bool) (p : Point) (c best : Found) (i : ℕ) : Type 0 where
  pub firsts : first_on lines p slots ≡ first_on lines p (drop i slots)
  pub scans : scan lines (counts d p) (ahead_by_turns d) c slots ≡ scan lines (counts d p) (ahead_by_turns d) best (drop i slots)
  pub on_way : OnWay lines d p best

pub onward_start : {lines slots : List ℕ} {d : Bool} {p : Point} {c : Found} → OnWay lines d p c → Onward lines slots d p c c 0
onward_start u = record { firsts = refl; scans = refl; on_way = u }

module _ {lines slots : List ℕ} {d : Bool} {p : Point} {c best : Found} {i : ℕ} (h : Onward lines slots d p c best i) where
  pub onward_end : length slots ≤ i → NoneOn lines d p c slots best
  unfolding first_on scan
  onward_end l =
      let e : drop i slots ≡ [] = drop_of_length-le slots l in
      record { none_on = h.firsts ∙ ap (first_on lines p) e; best = sym (h.scans ∙ ap (scan lines (counts d p) (ahead_by_turns d) best) e); on_way = h.on_way }

  module _ (l : i < length slots) where
    abbrev s : ℕ
    s = get_or slots i 0

    next : drop i slots ≡ s ∷ drop (i + 1) slots
    next = drop-cons slots i 0 l ∙ ap (λ (n : ℕ). s ∷ drop n slots) (sym (add-one i))

    pub onward_on : on p (line_at lines s) ≡ true → first_on lines p slots ≡ Some s
    unfolding first_on
    onward_on e = h.firsts ∙ ap (first_on lines p) next ∙ ap (λ (b : Bool). if b then Some s else first_on lines p (drop (i + 1) slots)) e

    turn : {x : Found} → on p (line_at lines s) ≡ false → better lines (counts d p) (ahead_by_turns d) best s ≡ x → OnWay lines d p x → Onward lines slots d p c x (i + 1)
    unfolding first_on scan
    turn e f u = record {
      firsts = h.firsts ∙ ap (first_on lines p) next ∙ ap (λ (b : Bool). if b then Some s else first_on lines p (drop (i + 1) slots)) e;
      scans = h.scans ∙ ap (scan lines (counts d p) (ahead_by_turns d) best) next ∙ ap (λ (x : Found). scan lines (counts d p) (ahead_by_turns d) x (drop (i + 1) slots)) f;
      on_way = u;
    }

    pub onward_counts : (on p (line_at lines s) ≡ false) × (counts d p (line_at lines s) ≡ true) → OnMap lines s → Onward lines slots d p c (first_of lines d best s) (i + 1)
    onward_counts e m = turn e.0 (looks best) (first_way lines d h.on_way (one m e.1))
      where
        looks : (c : Found) → better lines (counts d p) (ahead_by_turns d) c s ≡ first_of lines d c s
        looks None = unfold better in (ap (λ (b : Bool). if b then Some s else None) e.1)
        looks (Some t) = unfold better in (ap (λ (b : Bool). if b && ahead_by_turns d (line_at lines s) (line_at lines t) then Some s else Some t) e.1)

    pub onward_aside : (on p (line_at lines s) ≡ false) × (counts d p (line_at lines s) ≡ false) → Onward lines slots d p c best (i + 1)
    onward_aside e = turn e.0 (aside best) h.on_way
      where
        aside : (c : Found) → better lines (counts d p) (ahead_by_turns d) c s ≡ c
        aside None = unfold better in (ap (λ (b : Bool). if b then Some s else None) e.1)
        aside (Some t) = unfold better in (ap (λ (b : Bool). if b && ahead_by_turns d (line_at lines s) (line_at lines t) then Some s else Some t) e.1)
