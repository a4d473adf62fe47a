-- Equal sets of lines have equal node entries and as many listings.
use Rattle.std.specs.Prelude.{◌≡◌, ◌⊎◌, Bool, true, false, length}
use Rattle.std.proofs.Math.Path.{refl, ap}
use Rattle.std.proofs.Common.{sym, ◌∙◌, inl, inr, arith}
use mathlib.Core.List.Memᴰ
use mathlib.Core.List.{List, [], ◌∷◌, Memᴰ}
use Prim.Native.Nat.{ℕ, zero, suc, ◌+◌, ◌^◌, ◌≤◌}
use Rattle.algebra.specs.Lists.{in_those, of_those}
use Rattle.algebra.specs.Words.{those, padded}
use Rattle.definitions.specs.Shape.{Line, Block, meets}
use Rattle.definitions.specs.Tables.{Tables, live_lines, node_table}
use Rattle.definitions.specs.Tree.{Tree, leaf, divided, listed, block, tree, nodes_of, listings_of, Rule, tree_by}
use Rattle.meaning.specs.Fair.{SameEnds, Within, Once, Fair, no_line, one_more}
use Rattle.meaning.specs.Fewer.{listed_length, listings4}
use Rattle.meaning.specs.Rules.{by_leaf, by_divided, sons_by, meets_ends, once_those}
use Rattle.meaning.specs.Sound.{Sound}
use Rattle.history.specs.Demand.{SameLines}
use Rattle.history.proofs.Equal.{partner_line, apart_once}
use mathlib.Core.List.{List, [], ◌∷◌, Memᴰ}
use Prim.Native.Nat.{ℕ, zero, suc, ◌+◌, ◌^◌, ◌≤◌}

-- a set has a size
pub record Without (ms : List Line) (m : Line) : Type 0 where
  pub rest : List Line
  pub longer : length ms ≡ suc (length rest)
  pub others : (x : Line) → Memᴰ x ms → SameEnds x m ⊎ Memᴰ x rest

without : {m : Line} {ms : List Line} → Memᴰ m ms → Without ms m
without {m = m} (Memᴰ.head {x = y} {xs = ys} e) = record { rest = ys; longer = refl; others = λ x n. go x (Memᴰ.cases_cons n) }
  where
    go : (x : Line) → (x ≡ y) ⊎ Memᴰ x ys → SameEnds x m ⊎ Memᴰ x ys
    go x (inl q) = inl (ap (λ (l : Line). l.a) (q ∙ sym e), ap (λ (l : Line). l.b) (q ∙ sym e))
    go x (inr n) = inr n
without {m = m} (Memᴰ.tail {x = y} {xs = ys} n) =
    let w = without {m = m} n in
    record { rest = y ∷ w.rest; longer = ap suc w.longer; others = λ x k. go w x (Memᴰ.cases_cons k) }
  where
    go : (w : Without ys m) (x : Line) → (x ≡ y) ⊎ Memᴰ x ys → SameEnds x m ⊎ Memᴰ x (y ∷ w.rest)
    go w x (inl q) = inr (Memᴰ.head q)
    go w x (inr k) = further (w.others x k)
      where
        further : SameEnds x m ⊎ Memᴰ x w.rest → SameEnds x m ⊎ Memᴰ x (y ∷ w.rest)
        further (inl q) = inl q
        further (inr q) = inr (Memᴰ.tail q)

pub no_longer : {ls : List Line} → Once ls → (ms : List Line) → Within ls ms → length ls ≤ length ms
no_longer no_line ms f = omega arith
no_longer (one_more {l = l} {ls = ls} g o) ms f =
    let t = f l (Memᴰ.head refl) in
    let w = without t.1 in
    omega (arith, w.longer, no_longer o w.rest (λ x n. other t.0 t.2 w x n))
  where
    other : (m : Line) → SameEnds l m → (w : Without ms m) (x : Line) → Memᴰ x ls → (y : Line) × Memᴰ y w.rest × SameEnds x y
    other m e w x n = let u = f x (Memᴰ.tail n) in go u (w.others u.0 u.1)
      where
        go : (u : (y : Line) × Memᴰ y ms × SameEnds x y) → SameEnds u.0 m ⊎ Memᴰ u.0 w.rest → (y : Line) × Memᴰ y w.rest × SameEnds x y
        go u (inl q) = absurd (g x n (e.0 ∙ sym q.0 ∙ sym u.2.0, e.1 ∙ sym q.1 ∙ sym u.2.1))
        go u (inr k) = (u.0, k, u.2)

within_those : (k : Block) {ls ms : List Line} → Within ls ms → Within (those (meets k) ls) (those (meets k) ms)
within_those k {ls} {ms} f l m =
    let n = of_those (meets k) ls m in
    let u = f l n.0 in
    (u.0, in_those (meets k) ms u.1 (sym (meets_ends k l u.0 u.2) ∙ n.1), u.2)

-- Equal sets of lines have equal node entries, and as many listings
pub record SameSize (t u : Tree) : Type 0 where
  pub nodes : nodes_of t ≡ nodes_of u
  pub listings : length (listings_of t) ≡ length (listings_of u)

module _ (rule : Rule) (fair : Fair rule) (ls ms : List Line) (o : Once ls) (p : Once ms) (f : Within ls ms) (g : Within ms ls) where
  same_count : (k : Block) → length (listed ls k) ≡ length (listed ms k)
  same_count k =
      listed_length ls k
      ∙ both (no_longer (once_those (meets k) o) (those (meets k) ms) (within_those k f)) (no_longer (once_those (meets k) p) (those (meets k) ls) (within_those k g))
      ∙ sym (listed_length ms k)
    where
      both : {a b : ℕ} → a ≤ b → b ≤ a → a ≡ b
      both h i = omega arith

  leaf_size : (k : Block) → SameSize (leaf (listed ls k)) (leaf (listed ms k))
  unfolding nodes_of listings_of
  leaf_size k = record { nodes = ap (λ (n : ℕ). n ∷ []) (same_count k); listings = same_count k }

  four_size : {a b c d a' b' c' d' : Tree} → SameSize a a' → SameSize b b' → SameSize c c' → SameSize d d' → SameSize (divided a b c d) (divided a' b' c' d')
  unfolding nodes_of
  four_size h i j k = record { nodes = rw (h.nodes, i.nodes, j.nodes, k.nodes) refl; listings = simp listings4 (omega arith) }

  pub same_size : (n w s : ℕ) → SameSize (tree_by rule ls n w s) (tree_by rule ms n w s)
  unfolding tree_by
  same_size zero w s = leaf_size (block zero w s)
  same_size (suc n) w s =
      go (rule (block (suc n) w s) ls) refl (four_size (same_size n w (s + 2 ^ suc n)) (same_size n (w + 2 ^ suc n) (s + 2 ^ suc n)) (same_size n w s) (same_size n (w + 2 ^ suc n) s))
    where
      alike : rule (block (suc n) w s) ls ≡ rule (block (suc n) w s) ms
      alike = fair.reads (block (suc n) w s) o p f g

      go : (b : Bool) → rule (block (suc n) w s) ls ≡ b → SameSize (sons_by rule ls n w s) (sons_by rule ms n w s) → SameSize (tree_by rule ls (suc n) w s) (tree_by rule ms (suc n) w s)
      go true e h = rw (by_leaf rule ls n w s e, by_leaf rule ms n w s (sym alike ∙ e)) (leaf_size (block (suc n) w s))
      go false e h = rw (by_divided rule ls n w s e, by_divided rule ms n w s (sym alike ∙ e)) h

-- so two sound maps with equal live lines and node tables of one_more length have equal node tables
pub equal_nodes : (rule : Rule) (fair : Fair rule) (t u : Tables) → Sound rule t → Sound rule u → SameLines t.lines u.lines → length t.nodes ≡ length u.nodes → t.nodes ≡ u.nodes
unfolding node_table tree
equal_nodes rule fair t u s v f e =
    s.nodes ∙ (λ i. padded (e i) (sizes.nodes i)) ∙ sym v.nodes
  where
    sizes : SameSize (tree_by rule (live_lines t.lines) 14 0 0) (tree_by rule (live_lines u.lines) 14 0 0)
    sizes =
        same_size rule fair (live_lines t.lines) (live_lines u.lines) (apart_once t.lines s.apart) (apart_once u.lines v.apart)
        (partner_line t.lines u.lines (λ g. (f g).0)) (partner_line u.lines t.lines (λ g. (f g).1)) 14 0 0
