-- Equal live lines show equal trees, slot numbers aside.
use Rattle.definitions.specs.declared.Given.{Given}
use Rattle.algebra.specs.Lists.{every→}
use Rattle.algebra.specs.Tests.{no_path, and_b, or_r}
use Rattle.algebra.specs.Words.{every, Rising, Rising.none as no_slots, Rising.one as first_slot}
use Rattle.definitions.specs.Calls.{cleared}
use Rattle.definitions.specs.History.{Call, after_all}
use Rattle.definitions.specs.Shape.{within, Line, Block, same_point, is_end, conflict, parts, grid_point}
use Rattle.definitions.specs.Tables.{Tables, live_slots, line_at, live_lines, none_conflict}
use Rattle.definitions.specs.Tree.{listed, block, tree, Rule, tree_by}
use Rattle.meaning.specs.Fair.{SameEnds, Within, Once, no_line, one_more, Fair}
use Rattle.plane.specs.Ends.{same_refl}
use Rattle.meaning.specs.Leaves.{listed_iff}
use Rattle.meaning.specs.Means.{slots_rising}
use Rattle.meaning.specs.Rules.{by_leaf, by_divided, sons_by, meets_ends}
use Rattle.meaning.specs.Sound.{Sound, sound→}
use Rattle.history.specs.Demand.{held_at, given_at, live_given, SameLines, SameShown, Alike, leaves, fours}
use Rattle.history.proofs.Kept.{history_sound}
use Rattle.std.specs.Prelude.{◌≡◌, refl, Bool, true, false, not, ◌&&◌, ◌||◌, ℕ, zero, suc, ◌+◌, ◌^◌, ◌≤◌, ◌<◌, eqb, length}
use Rattle.std.proofs.Math.Path.{sym, ap}
use Rattle.std.proofs.Common.{◌∙◌, arith, ne_eqb}
use mathlib.Core.List.Memᴰ
use mathlib.Core.List.{List, map, Memᴰ}

given_ends : (a b : List ℕ) (s r : ℕ) → given_at a s ≡ given_at b r → SameEnds (line_at a s) (line_at b r)
unfolding held_at line_at
given_ends a b s r e = (λ i. grid_point (e i).x1 (e i).y1, λ i. grid_point (e i).x2 (e i).y2)

-- one_more side of equal live lines
module _ (a b : List ℕ) (f : (g : Given) → Memᴰ g (live_given a) → Memᴰ g (live_given b)) where
  partner : (s : ℕ) → Memᴰ s (live_slots a) → (r : ℕ) × Memᴰ r (live_slots b) × (given_at a s ≡ given_at b r)
  unfolding live_given
  partner s m = let u = Memᴰ.of_map (given_at b) (live_slots b) (f (given_at a s) (Memᴰ.map (given_at a) m)) in (u.0, u.1, sym u.2)

  pub partner_line : Within (live_lines a) (live_lines b)
  unfolding live_lines
  partner_line l m =
      let u = Memᴰ.of_map (line_at a) (live_slots a) m in
      let v = partner u.0 u.1 in
      let e = given_ends a b u.0 v.0 v.2 in
      (line_at b v.0, Memᴰ.map (line_at b) v.1, (ap (λ (n : Line). n.a) (sym u.2) ∙ e.0, ap (λ (n : Line). n.b) (sym u.2) ∙ e.1))

  partner_shown : (k : Block) (s : ℕ) → Memᴰ s (listed (live_lines a) k) → (r : ℕ) × Memᴰ r (listed (live_lines b) k) × (given_at a s ≡ given_at b r)
  partner_shown k s m =
      let u = (listed_iff a k s).0 m in
      let v = partner s u.0 in
      (v.0, (listed_iff b k v.0).1 (v.1, sym (meets_ends k (line_at a s) (line_at b v.0) (given_ends a b s v.0 v.2)) ∙ u.1), v.2)

same_shown : (a b : List ℕ) → SameLines a b → (k : Block) → SameShown a b (listed (live_lines a) k) (listed (live_lines b) k)
same_shown a b f k =
    record {
      there = partner_shown a b (λ g. (f g).0) k;
      back = λ r m. let v = partner_shown b a (λ g. (f g).1) k r m in (v.0, v.1, sym v.2);
    }

-- Over any fair rule, equal live lines show equal trees
pub alike_at : (rule : Rule) → Fair rule → (a b : List ℕ) → Once (live_lines a) → Once (live_lines b) → SameLines a b → (n w s : ℕ)
    → Alike a b (tree_by rule (live_lines a) n w s) (tree_by rule (live_lines b) n w s)
unfolding tree_by
alike_at rule fair a b o p f zero w s = leaves (same_shown a b f (block zero w s))
alike_at rule fair a b o p f (suc n) w s =
    go (rule (block (suc n) w s) (live_lines a)) refl
    (fours (alike_at rule fair a b o p f n w (s + 2 ^ suc n)) (alike_at rule fair a b o p f n (w + 2 ^ suc n) (s + 2 ^ suc n)) (alike_at rule fair a b o p f n w s) (alike_at rule fair a b o p f n (w + 2 ^ suc n) s))
  where
    alike : rule (block (suc n) w s) (live_lines a) ≡ rule (block (suc n) w s) (live_lines b)
    alike = fair.reads (block (suc n) w s) o p (partner_line a b (λ g. (f g).0)) (partner_line b a (λ g. (f g).1))

    go : (t : Bool) → rule (block (suc n) w s) (live_lines a) ≡ t → Alike a b (sons_by rule (live_lines a) n w s) (sons_by rule (live_lines b) n w s)
        → Alike a b (tree_by rule (live_lines a) (suc n) w s) (tree_by rule (live_lines b) (suc n) w s)
    go true e h = rw (by_leaf rule (live_lines a) n w s e, by_leaf rule (live_lines b) n w s (sym alike ∙ e)) (leaves (same_shown a b f (block (suc n) w s)))
    go false e h = rw (by_divided rule (live_lines a) n w s e, by_divided rule (live_lines b) n w s (sym alike ∙ e)) h

-- the live lines of a sound map are a set
pub same_conflict : (l m : Line) → SameEnds l m → conflict l m ≡ true
unfolding conflict is_end
same_conflict l m e =
    or_r (within l.a m || within l.b m || within m.a l || within m.b l || parts l m && parts m l) (is_end l.a m && is_end l.b m)
    (and_b (is_end l.a m) (is_end l.b m) (unfold is_end in (rw (e.0, same_refl m.a) refl)) (unfold is_end in (or_r (same_point l.b m.a) (same_point l.b m.b) (rw e.1 (same_refl m.b)))))

once_map : (lines : List ℕ) {xs : List ℕ} → Rising xs → ((x y : ℕ) → Memᴰ x xs → Memᴰ y xs → x < y → SameEnds (line_at lines x) (line_at lines y) → ⊥) → Once (map (line_at lines) xs)
once_map lines no_slots f = no_line
once_map lines (first_slot {x = x} {xs = xs} g r) f =
    one_more (λ m q e. let u = Memᴰ.of_map (line_at lines) xs q in
    f x u.0 (Memᴰ.head refl) (Memᴰ.tail u.1) (g u.0 u.1) (e.0 ∙ ap (λ (n : Line). n.a) (sym u.2), e.1 ∙ ap (λ (n : Line). n.b) (sym u.2)))
    (once_map lines r (λ y z m n. f y z (Memᴰ.tail m) (Memᴰ.tail n)))

pub apart_once : (lines : List ℕ) → none_conflict lines ≡ true → Once (live_lines lines)
unfolding none_conflict live_lines
apart_once lines e = once_map lines (slots_rising lines) differ
  where
    differ : (x y : ℕ) → Memᴰ x (live_slots lines) → Memᴰ y (live_slots lines) → x < y → SameEnds (line_at lines x) (line_at lines y) → ⊥
    differ x y m n h q =
        no_path (sym (ap not (same_conflict (line_at lines x) (line_at lines y) q)) ∙ second
        (every→ (λ u. eqb x u || not (conflict (line_at lines x) (line_at lines u))) (live_slots lines)
        (every→ (λ w. every (λ u. eqb w u || not (conflict (line_at lines w) (line_at lines u))) (live_slots lines)) (live_slots lines) e m) n))
      where
        second : eqb x y || not (conflict (line_at lines x) (line_at lines y)) ≡ true → not (conflict (line_at lines x) (line_at lines y)) ≡ true
        second k = rw (ne_eqb x y (λ q. omega arith)) at k

-- Two sound maps with equal live lines have trees of the same blocks, and each leaf shows the same set of lines
pub equal_trees : (rule : Rule) (fair : Fair rule) (t u : Tables) → Sound rule t → Sound rule u → SameLines t.lines u.lines
    → Alike t.lines u.lines (tree rule (live_lines t.lines)) (tree rule (live_lines u.lines))
unfolding tree
equal_trees rule fair t u s v f = alike_at rule fair t.lines u.lines (apart_once t.lines s.apart) (apart_once u.lines v.apart) f 14 0 0

pub equal_histories : (rule : Rule) (fair : Fair rule) (t u : Tables) → 1 ≤ length t.nodes → 1 ≤ length u.nodes → (cs ds : List Call)
    → SameLines (after_all rule (cleared t) cs).lines (after_all rule (cleared u) ds).lines
    → Alike (after_all rule (cleared t) cs).lines (after_all rule (cleared u) ds).lines
    (tree rule (live_lines (after_all rule (cleared t) cs).lines)) (tree rule (live_lines (after_all rule (cleared u) ds).lines))
equal_histories rule fair t u h k cs ds f =
    equal_trees rule fair (after_all rule (cleared t) cs) (after_all rule (cleared u) ds) (sound→ rule _ (history_sound rule fair t h cs)) (sound→ rule _ (history_sound rule fair u k ds)) f
