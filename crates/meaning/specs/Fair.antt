-- What is asked of a rule of division, so that the tree and its laws hold of it.
use Rattle.std.specs.Prelude.{◌≡◌, true}
use mathlib.Core.List.{List, [], ◌∷◌, Memᴰ}
use Rattle.definitions.specs.Shape.{Line, Block}
use Rattle.definitions.specs.Tree.{Rule}

abbrev pub SameEnds : Line → Line → Type 0
SameEnds l m = (l.a ≡ m.a) × (l.b ≡ m.b)

-- each line of ls is, by its ends, among ms
abbrev pub Within : List Line → List Line → Type 0
Within ls ms = (l : Line) → Memᴰ l ls → (m : Line) × Memᴰ m ms × SameEnds l m

-- no two lines of the list have the same ends: the list stands for a set
pub data Once : List Line → Type 0 where
  no_line : Once []
  one_more : {l : Line} {ls : List Line} → ((m : Line) → Memᴰ m ls → SameEnds l m → ⊥) → Once ls → Once (l ∷ ls)

-- ls is ms with some lines left out
pub data Sub : List Line → List Line → Type 0 where
  none : Sub [] []
  keep : {l : Line} {ls ms : List Line} → Sub ls ms → Sub (l ∷ ls) (l ∷ ms)
  skip : {l : Line} {ls ms : List Line} → Sub ls ms → Sub ls (l ∷ ms)

-- the rule reads only the block and the set of lines, each as its two ends; every block meets it while no line lives; removing lines cannot break it
pub record Fair (rule : Rule) : Type 0 where
  pub reads : (k : Block) {ls ms : List Line} → Once ls → Once ms → Within ls ms → Within ms ls → rule k ls ≡ rule k ms
  pub bare : (k : Block) → rule k [] ≡ true
  pub removing : (k : Block) {ls ms : List Line} → Sub ls ms → rule k ms ≡ true → rule k ls ≡ true
