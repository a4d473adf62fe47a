-- Demand 3 in the paper's words: what the calls and their answers say, what the tables show, and the demand as one record.
use Rattle.std.specs.Prelude.{◌≡◌, ◌↔◌, true, ℕ, ◌+◌, ◌*◌, eqb, if◌then◌else◌, Ok, Err}
use mathlib.Core.List.{List, [], ◌∷◌, ◌++◌, map, Memᴰ}
use Rattle.definitions.specs.Answer.{Answer}
use Rattle.definitions.specs.declared.Refusal.TheVariants.{UnknownHandle}
use Rattle.definitions.specs.declared.Given.{Given}
use Rattle.definitions.specs.Tree.{Rule, Tree, leaf, divided, tree}
use Rattle.definitions.specs.Tables.{Tables, lengths_fit, generation, x1, y1, x2, y2, left_label, right_label, live_slots, live_lines, sound}
use Rattle.definitions.specs.Calls.{Reply, cleared, insert_of, delete_of, refusal_of, detail_of}
use Rattle.definitions.specs.History.{Call, insert, delete, locate, show, window, reply_to, after_all}

-- ---- What the calls say

-- a call and what it answered
pub record Heard : Type 0 where
  pub call : Call
  pub answer : Answer

-- the number that a call gives, if it is an accepted insert
abbrev pub given_now : Call → Answer → List ℕ
given_now (insert g) r = if eqb (refusal_of r) 0 then detail_of r ∷ [] else []
given_now (delete h) r = []
given_now (locate ps as') r = []
given_now (show x y) r = []
given_now (window w slots) r = []

module _ (rule : Rule) where
  -- the calls with their answers
  unfoldable pub heard : Tables → List Call → List Heard
  heard t [] = []
  heard t (c ∷ more) = record { call = c; answer = (reply_to rule t c).answer } ∷ heard (reply_to rule t c).after more

  -- the numbers that accepted inserts of these calls give, first to last
  unfoldable pub given_by : Tables → List Call → List ℕ
  given_by t [] = []
  given_by t (c ∷ more) = given_now c (reply_to rule t c).answer ++ given_by (reply_to rule t c).after more

-- no number twice
pub data Distinct : List ℕ → Type 0 where
  none : Distinct []
  one : {h : ℕ} {hs : List ℕ} → (Memᴰ h hs → ⊥) → Distinct hs → Distinct (h ∷ hs)

-- ---- Inserted and not since deleted

-- a line that the host holds: its handle, and the line as it was given
pub record Held : Type 0 where
  pub handle : ℕ
  pub line : Given

-- the call was an accepted insert of this line, and gave this handle
abbrev pub Gave : Heard → Held → Type 0
Gave c i = (c.call ≡ insert i.line) × (refusal_of c.answer ≡ 0) × (detail_of c.answer ≡ i.handle)

-- the call was an accepted delete of this handle
abbrev pub Took : Heard → ℕ → Type 0
Took c h = (c.call ≡ delete h) × (refusal_of c.answer ≡ 0)

abbrev pub NeverTook : List Heard → ℕ → Type 0
NeverTook log h = (d : Heard) → Memᴰ d log → Took d h → ⊥

-- a call of the log gave it, and no later one took it
pub data Stands (i : Held) : List Heard → Type 0 where
  now : {c : Heard} {later : List Heard} → Gave c i → NeverTook later i.handle → Stands i (c ∷ later)
  after : {c : Heard} {later : List Heard} → Stands i later → Stands i (c ∷ later)

-- ---- What the tables show

-- the line of a slot as it was given, ends and labels; and with its handle
abbrev pub given_at : List ℕ → ℕ → Given
given_at lines s =
    record { x1 = x1 lines s; y1 = y1 lines s; x2 = x2 lines s; y2 = y2 lines s; left = left_label lines s; right = right_label lines s }

unfoldable pub held_at : List ℕ → ℕ → Held
held_at lines s = record { handle = s * 65536 + generation lines s; line = given_at lines s }

unfoldable pub live_held : List ℕ → List Held
live_held lines = map (held_at lines) (live_slots lines)

unfoldable pub live_given : List ℕ → List Given
live_given lines = map (given_at lines) (live_slots lines)

-- equal live lines: the same set, each with its ends and labels
abbrev pub SameLines : List ℕ → List ℕ → Type 0
SameLines a b = (g : Given) → Memᴰ g (live_given a) ↔ Memᴰ g (live_given b)

-- the lines shown by two lists of slots are the same set, slot numbers aside
pub record SameShown (a b ss rs : List ℕ) : Type 0 where
  pub there : (s : ℕ) → Memᴰ s ss → (r : ℕ) × Memᴰ r rs × (given_at a s ≡ given_at b r)
  pub back : (r : ℕ) → Memᴰ r rs → (s : ℕ) × Memᴰ s ss × (given_at a s ≡ given_at b r)

-- equal trees: the same blocks, and each leaf shows the same set of lines
pub data Alike (a b : List ℕ) : Tree → Tree → Type 0 where
  leaves : {ss rs : List ℕ} → SameShown a b ss rs → Alike a b (leaf ss) (leaf rs)
  fours : {p q r s p' q' r' s' : Tree} → Alike a b p p' → Alike a b q q' → Alike a b r r' → Alike a b s s' → Alike a b (divided p q r s) (divided p' q' r' s')

-- a delete that is done and leaves both tree tables as they were in t
pub record Restored (t : Tables) (r : Reply) : Type 0 where
  pub done : r.answer ≡ Ok 0
  pub nodes : r.after.nodes ≡ t.nodes
  pub listings : r.after.listings ≡ t.listings

-- ---- Demand 3, after a start and any calls

module _ (rule : Rule) (t : Tables) (cs : List Call) where
  -- the map after a start and these calls
  abbrev reached : Tables
  reached = after_all rule (cleared t) cs

  pub record Demand3 : Type 0 where
    -- no two accepted inserts give the same number
    pub distinct : Distinct (given_by rule (cleared t) cs)
    -- a deleted number is refused ever after
    pub refused : (h : ℕ) → (delete_of rule reached h).answer ≡ Ok 0 → (ds : List Call) → (delete_of rule (after_all rule (delete_of rule reached h).after ds) h).answer ≡ Err UnknownHandle
    -- the live lines are exactly those inserted and not since deleted
    pub live : (i : Held) → Memᴰ i (live_held reached.lines) ↔ Stands i (heard rule (cleared t) cs)
    -- the two tree tables are those of the live lines
    pub shown : sound rule reached ≡ true
    -- they alone fix the blocks and the lines shown in each
    pub fixed : (u : Tables) → lengths_fit u ≡ true → (ds : List Call) → SameLines reached.lines (after_all rule (cleared u) ds).lines
        → Alike reached.lines (after_all rule (cleared u) ds).lines (tree rule (live_lines reached.lines)) (tree rule (live_lines (after_all rule (cleared u) ds).lines))
    -- an accepted insert followed at once by its delete restores both tree tables
    pub restored : (g : Given) (h : ℕ) → (insert_of rule reached g).answer ≡ Ok h → Restored reached (delete_of rule (insert_of rule reached g).after h)
