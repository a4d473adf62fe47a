-- Natural numbers lose nothing: a spot of three whole numbers of either sign that lies on a line is one of natural numbers.
use Rattle.std.specs.Prelude.{◌≡◌, refl, ◌↔◌, ◌⊎◌, ℕ, ◌+◌, ◌*◌, ◌≤◌, ℤ, pos, negsuc, ◌*ℤ◌, ◌-ℤ◌, ◌≤ℤ◌, ◌<ℤ◌}
use Rattle.std.proofs.Common.{ap, arith, leb→le, le→leb, ltb→lt, lt→ltb}
use Rattle.std.proofs.Math.Logic.{⊎_map}
use Rattle.std.proofs.Math.IntN.{sub_ℕ}
use Rattle.std.specs.Int.Signed.{le_z_yes, lt_z_yes}
use Rattle.algebra.specs.Order.{pos_inj}
use Rattle.algebra.specs.Signs.{Is, pos_is, sub_is, add_is, neg_is, mul_is, shift_is, equal_of_zero, zero_of_equal}
use Rattle.definitions.specs.declared.Point.{Point}
use Rattle.definitions.specs.Shape.{Line, Area, min_x, max_x, min_y, max_y}
use Rattle.definitions.specs.Meaning.{Spot, OnLine, InArea, AtPoint, AtEnd, MeetsArea, Conflicts}
use Rattle.plane.specs.Segments.{turn_at_is, straight_of}

-- ---- The same words over ℤ

-- three whole numbers with Z above 0, standing for (X/Z, Y/Z)
pub record WholeSpot : Type 0 where
  pub X : ℤ
  pub Y : ℤ
  pub Z : ℤ
  pub some : pos 0 <ℤ Z

unfoldable pub turn_whole : Point → Point → WholeSpot → ℤ
turn_whole a b s =
    sub_ℕ b.x.0 a.x.0 *ℤ (s.Y -ℤ pos a.y.0 *ℤ s.Z) -ℤ sub_ℕ b.y.0 a.y.0 *ℤ (s.X -ℤ pos a.x.0 *ℤ s.Z)

pub record OnLineWhole (s : WholeSpot) (l : Line) : Type 0 where
  pub straight : turn_whole l.a l.b s ≡ pos 0
  pub from_west : (pos (min_x l) *ℤ s.Z) ≤ℤ s.X
  pub to_east : s.X ≤ℤ (pos (max_x l) *ℤ s.Z)
  pub from_south : (pos (min_y l) *ℤ s.Z) ≤ℤ s.Y
  pub to_north : s.Y ≤ℤ (pos (max_y l) *ℤ s.Z)

pub record InAreaWhole (s : WholeSpot) (k : Area) : Type 0 where
  pub from_west : (pos k.west *ℤ s.Z) ≤ℤ s.X
  pub to_east : s.X ≤ℤ (pos k.east *ℤ s.Z)
  pub from_south : (pos k.south *ℤ s.Z) ≤ℤ s.Y
  pub to_north : s.Y ≤ℤ (pos k.north *ℤ s.Z)

pub record AtPointWhole (s : WholeSpot) (p : Point) : Type 0 where
  pub same_x : s.X ≡ pos p.x.0 *ℤ s.Z
  pub same_y : s.Y ≡ pos p.y.0 *ℤ s.Z

abbrev pub AtEndWhole : WholeSpot → Line → Type 0
AtEndWhole s l = AtPointWhole s l.a ⊎ AtPointWhole s l.b

abbrev pub MeetsWhole : Area → Line → Type 0
MeetsWhole k l = (s : WholeSpot) × OnLineWhole s l × InAreaWhole s k

abbrev pub ConflictsWhole : Line → Line → Type 0
ConflictsWhole l m = (s : WholeSpot) × OnLineWhole s l × OnLineWhole s m × ¬ (AtEndWhole s l × AtEndWhole s m)

-- ---- They say the same

-- s and t have the same three numbers
record Same (s : WholeSpot) (t : Spot) : Type 0 where
  at_x : s.X ≡ pos t.X
  at_y : s.Y ≡ pos t.Y
  at_z : s.Z ≡ pos t.Z

whole : (t : Spot) → (s : WholeSpot) × Same s t
whole t = (record { X = pos t.X; Y = pos t.Y; Z = pos t.Z; some = lt_z_yes (lt→ltb 0 t.Z t.some) }, record { at_x = refl; at_y = refl; at_z = refl })

-- the ends are natural numbers, so X and Y are not negative
natural : (s : WholeSpot) (l : Line) → OnLineWhole s l → (t : Spot) × Same s t
natural s l o = go s.X s.Y s.Z refl refl refl s.some o.from_west o.from_south
  where
    go : (X Y Z : ℤ) → s.X ≡ X → s.Y ≡ Y → s.Z ≡ Z → pos 0 <ℤ Z → (pos (min_x l) *ℤ Z) ≤ℤ X → (pos (min_y l) *ℤ Z) ≤ℤ Y → (t : Spot) × Same s t
    go (pos x) (pos y) (pos z) e_x e_y e_z h w f = (record { X = x; Y = y; Z = z; some = ltb→lt 0 z h.lt }, record { at_x = e_x; at_y = e_y; at_z = e_z })
    go (negsuc x) Y (pos z) e_x e_y e_z h w f = absurd w.le
    go (pos x) (negsuc y) (pos z) e_x e_y e_z h w f = absurd f.le
    go (pos x) (pos y) (negsuc z) e_x e_y e_z h w f = absurd h.lt
    go (pos x) (negsuc y) (negsuc z) e_x e_y e_z h w f = absurd h.lt
    go (negsuc x) Y (negsuc z) e_x e_y e_z h w f = absurd h.lt

module _ {Z X : ℤ} {z x : ℕ} (e_z : Z ≡ pos z) (e_x : X ≡ pos x) (n : ℕ) where
  from_same : ((pos n *ℤ Z) ≤ℤ X) ↔ (n * z ≤ x)
  from_same = rw (e_z, e_x) (λ h. leb→le _ _ h.le, λ h. le_z_yes (le→leb _ _ h))

  to_same : (X ≤ℤ (pos n *ℤ Z)) ↔ (x ≤ n * z)
  to_same = rw (e_z, e_x) (λ h. leb→le _ _ h.le, λ h. le_z_yes (le→leb _ _ h))

  at_same : (X ≡ pos n *ℤ Z) ↔ (x ≡ n * z)
  at_same = rw (e_z, e_x) (λ e. pos_inj e, λ e. ap pos e)

turn_whole_is : (a b : Point) {s : WholeSpot} {t : Spot} → Same s t
    → Is (turn_whole a b s) (b.x.0 * t.Y + b.y.0 * (a.x.0 * t.Z) + a.y.0 * t.X) (b.x.0 * (a.y.0 * t.Z) + a.x.0 * t.Y + b.y.0 * t.X)
unfolding turn_whole
turn_whole_is a b {s} {t} e =
    rw (e.at_x, e.at_y, e.at_z)
    (shift_is
    (add_is (mul_is (sub_is b.x.0 a.x.0) (add_is (pos_is t.Y) (neg_is (pos_is (a.y.0 * t.Z)))))
    (neg_is (mul_is (sub_is b.y.0 a.y.0) (add_is (pos_is t.X) (neg_is (pos_is (a.x.0 * t.Z)))))))
    (omega arith))

module _ {s : WholeSpot} {t : Spot} (e : Same s t) where
  line_same : (l : Line) → OnLineWhole s l ↔ OnLine t l
  line_same l = (
    λ o. record {
      straight = zero_of_equal (turn_at_is l.a l.b t) (equal_of_zero (turn_whole_is l.a l.b e) o.straight);
      from_west = (from_same e.at_z e.at_x (min_x l)).0 o.from_west;
      to_east = (to_same e.at_z e.at_x (max_x l)).0 o.to_east;
      from_south = (from_same e.at_z e.at_y (min_y l)).0 o.from_south;
      to_north = (to_same e.at_z e.at_y (max_y l)).0 o.to_north;
    },
    λ o. record {
      straight = zero_of_equal (turn_whole_is l.a l.b e) (straight_of o);
      from_west = (from_same e.at_z e.at_x (min_x l)).1 o.from_west;
      to_east = (to_same e.at_z e.at_x (max_x l)).1 o.to_east;
      from_south = (from_same e.at_z e.at_y (min_y l)).1 o.from_south;
      to_north = (to_same e.at_z e.at_y (max_y l)).1 o.to_north;
    },
  )

  area_same : (k : Area) → InAreaWhole s k ↔ InArea t k
  area_same k = (
    λ i. record {
      from_west = (from_same e.at_z e.at_x k.west).0 i.from_west;
      to_east = (to_same e.at_z e.at_x k.east).0 i.to_east;
      from_south = (from_same e.at_z e.at_y k.south).0 i.from_south;
      to_north = (to_same e.at_z e.at_y k.north).0 i.to_north;
    },
    λ i. record {
      from_west = (from_same e.at_z e.at_x k.west).1 i.from_west;
      to_east = (to_same e.at_z e.at_x k.east).1 i.to_east;
      from_south = (from_same e.at_z e.at_y k.south).1 i.from_south;
      to_north = (to_same e.at_z e.at_y k.north).1 i.to_north;
    },
  )

  point_same : (p : Point) → AtPointWhole s p ↔ AtPoint t p
  point_same p = (
    λ h. record { same_x = (at_same e.at_z e.at_x p.x.0).0 h.same_x; same_y = (at_same e.at_z e.at_y p.y.0).0 h.same_y },
    λ h. record { same_x = (at_same e.at_z e.at_x p.x.0).1 h.same_x; same_y = (at_same e.at_z e.at_y p.y.0).1 h.same_y },
  )

  end_same : (l : Line) → AtEndWhole s l ↔ AtEnd t l
  end_same l = (⊎_map (point_same l.a).0 (point_same l.b).0, ⊎_map (point_same l.a).1 (point_same l.b).1)

pub record NothingLost : Type 0 where
  pub meeting : (k : Area) (l : Line) → MeetsWhole k l ↔ MeetsArea k l
  pub crossing : (l m : Line) → ConflictsWhole l m ↔ Conflicts l m

pub nothing_lost : NothingLost
nothing_lost =
    record {
      meeting = λ k l. (
        λ (s, o, i). let (t, e) = natural s l o in (t, (line_same e l).0 o, (area_same e k).0 i),
        λ (t, o, i). let (s, e) = whole t in (s, (line_same e l).1 o, (area_same e k).1 i),
      );
      crossing = λ l m. (
        λ (s, ol, om, f). let (t, e) = natural s l ol in (t, (line_same e l).0 ol, (line_same e m).0 om, λ b. f ((end_same e l).1 b.0, (end_same e m).1 b.1)),
        λ (t, ol, om, f). let (s, e) = whole t in (s, (line_same e l).1 ol, (line_same e m).1 om, λ b. f ((end_same e l).0 b.0, (end_same e m).0 b.1)),
      );
    }
