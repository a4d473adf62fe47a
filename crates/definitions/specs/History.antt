-- Any calls after a start, and their answers.
use Rattle.std.specs.Prelude.{List, [], ◌∷◌, ℕ}
use Rattle.definitions.specs.declared.Given.{Given}
use Rattle.definitions.specs.declared.Window.{Window}
use Rattle.definitions.specs.Tree.{Rule}
use Rattle.definitions.specs.Tables.{Tables}
use Rattle.definitions.specs.Calls.{Reply, reply, insert_of, delete_of, number_of}
use Rattle.definitions.specs.Lookup.{locate_of, show_of}
use Rattle.definitions.specs.Window.{window_of}

-- the calls of one history; locate, show leaf and window leave the tables
pub data Call : Type 0 where
  insert : Given → Call
  delete : ℕ → Call
  locate : List ℕ → List ℕ → Call
  show : ℕ → ℕ → Call
  window : Window → List ℕ → Call

module _ (rule : Rule) where
  unfoldable pub reply_to : Tables → Call → Reply
  reply_to t (insert g) = insert_of rule t g
  reply_to t (delete h) = delete_of rule t h
  reply_to t (locate points answers) = reply (locate_of rule t points answers).answer t
  reply_to t (show x y) = reply (show_of rule t x y).told.answer t
  reply_to t (window w slots) = reply (window_of rule t w slots).answer t

  -- the tables after the calls, the first of the list first
  unfoldable pub after_all : Tables → List Call → Tables
  after_all t [] = t
  after_all t (c ∷ more) = after_all (reply_to t c).after more

  -- the numbers that the host gets
  unfoldable pub numbers : Tables → List Call → List ℕ
  numbers t [] = []
  numbers t (c ∷ more) = let r = reply_to t c in number_of r.answer ∷ numbers r.after more
