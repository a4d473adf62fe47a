-- The lent slices as the definitions' tables, and scratch as long: what a call promises of them, and what its steps count on.
use Rattle.std.specs.Prelude.{◌≡◌, Bool, true, ◌&&◌, List, ℕ, ◌≤◌, ◌%◌, eqb, length, take, replicate}
use Rattle.std.proofs.Common.{sym, ap, ◌∙◌}
use Rattle.std.proofs.Math.Dec.{leb}
use Rattle.std.proofs.lemmas.List.{length-replicate}
use borrow.Author.Tests.{leb-true}
use Rattle.algebra.specs.Lists.{take_zeros}
use Rattle.algebra.specs.Tests.{and_l, and_r}
use Rattle.definitions.specs.Answer.{Answer}
use Rattle.definitions.specs.Calls.{Reply}
use Rattle.definitions.specs.Lookup.{Located}
use Rattle.definitions.specs.Tables.{Tables, lengths_fit, sound}
use Rattle.definitions.specs.Tree.{Rule}
use Rattle.definitions.specs.Window.{Windowed}
use Rattle.tables.specs.declared.Lent.{Lent}

abbrev pub tables : List ℕ → List ℕ → List ℕ → Tables
tables lines nodes listings = record { lines = lines; nodes = nodes; listings = listings }

-- those that a call is lent to read
abbrev pub read : Lent → Tables
read t = tables t.lines.now t.nodes.now t.listings.now

-- the answer and every entry of the three tables afterwards are the reply's
abbrev pub Replies : Answer → List ℕ → List ℕ → List ℕ → Reply → Type 0
Replies r lines nodes listings y = (record { answer = r; after = tables lines nodes listings }) ≡ y

-- the answer and every entry of the answer list afterwards are those of locate
abbrev pub Locates : Answer → List ℕ → Located → Type 0
Locates r answers y = (record { answer = r; answers = answers }) ≡ y

-- the answer and every entry of the list afterwards are those of window
abbrev pub Windows : Answer → List ℕ → Windowed → Type 0
Windows r slots y = (record { answer = r; slots = slots }) ≡ y

-- a map that has passed refusals 1 and 2
pub record Passed (rule : Rule) (lines nodes listings : List ℕ) : Type 0 where
  pub fit : lengths_fit (tables lines nodes listings) ≡ true
  pub ok : sound rule (tables lines nodes listings) ≡ true

-- scratch as long as the tree tables, all 0
pub record Scratch (nodes listings built named : List ℕ) : Type 0 where
  pub no_nodes : built ≡ replicate (length nodes) 0
  pub no_listings : named ≡ replicate (length listings) 0

module _ {nodes listings built named : List ℕ} (s : Scratch nodes listings built named) where
  pub as_many : length nodes ≡ length built
  as_many = sym (ap length s.no_nodes ∙ length-replicate (length nodes) 0)

  pub as_listed : length listings ≡ length named
  as_listed = sym (ap length s.no_listings ∙ length-replicate (length listings) 0)

pub front_long : (k n : ℕ) → n ≤ k → n ≡ length (take {A = ℕ} n (replicate k 0))
front_long k n h = sym (ap length (take_zeros n k h) ∙ length-replicate n 0)

-- ---- lengths that fit
module _ (lines nodes listings : List ℕ) (fit : lengths_fit (tables lines nodes listings) ≡ true) where
  abbrev five : Bool
  five = eqb (length lines % 8) 0 && leb 8 (length lines) && leb (length lines) 8192 && leb 1 (length nodes) && leb (length nodes) 16384

  pub listings_short : length listings ≤ 16384
  unfolding lengths_fit
  listings_short = leb-true _ _ (and_r five _ fit)

  pub nodes_short : length nodes ≤ 16384
  unfolding lengths_fit
  nodes_short = leb-true _ _ (and_r (eqb (length lines % 8) 0 && leb 8 (length lines) && leb (length lines) 8192 && leb 1 (length nodes)) _ (and_l five _ fit))

  pub lines_short : length lines ≤ 8192
  unfolding lengths_fit
  lines_short = leb-true _ _ (and_r (eqb (length lines % 8) 0 && leb 8 (length lines)) _ (and_l _ (leb 1 (length nodes)) (and_l _ (leb (length nodes) 16384) (and_l five _ fit))))

  -- the fronts of two arrays of zeros
  pub fronts : Scratch nodes listings (take (length nodes) (replicate 16384 0)) (take (length listings) (replicate 16384 0))
  fronts = record { no_nodes = take_zeros (length nodes) 16384 nodes_short; no_listings = take_zeros (length listings) 16384 listings_short }
