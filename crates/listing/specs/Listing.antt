-- The listing of a plan file.
use Rattle.std.specs.Prelude.{ℕ, zero, suc, ◌≤◌, ◌≡◌, List, [], ◌++◌, length, leb}
use Rattle.std.proofs.Math.Option.{none, some}
use Rattle.task_model.specs.declared.Entry.{Entry}
use Rattle.refusals.specs.Refusals.{at, Outcome, accepted, refused, must_hold}
use Rattle.task_model.specs.Limits.{Node, entry_at}
use Rattle.completion.specs.Test.{on_time, late, completion_test}
use Rattle.plan_file.specs.Plan.{Plan}
use Rattle.refusals.specs.Answers.{Answer, giving, left}
use Rattle.plan_file.specs.Check.{file_check}
use Rattle.plan_file.specs.Decoding.{plan_in}
use Rattle.plan_file.specs.Find.{row_in, node_of_row}
use Rattle.level_map.specs.Assignments.{level_of, EntryTest, levels_used}
use Rattle.level_map.specs.Map.{map_under}
use Rattle.listing.specs.Lines.{plan_line, node_line, no_map_line, entry_line, refused_line}

-- From here on, `test` is the test that times the entries.

-- The line of the entry at i under the levels of a map. Under a node's map, no entry is late.
unfoldable pub entry_text_under : EntryTest → List Entry → List ℕ → ℕ → List ℕ
entry_text_under test es m i =
    elim (test es (level_of m) i) [
      | on_time time rounds ↦ entry_line (entry_at es i).number (level_of m i) time rounds
      | late rounds overrun ↦ []
    ]

-- The lines of the first n entries, in listed order.
unfoldable pub entries_text_under : EntryTest → List Entry → List ℕ → ℕ → List ℕ
entries_text_under test es m zero = []
entries_text_under test es m (suc n) = entries_text_under test es m n ++ entry_text_under test es m n

-- The lines of a node: its number, the levels used, the levels available, and its entries; or that it has no map.
unfoldable pub node_text_under : EntryTest → ℕ → Node → List ℕ
node_text_under test number n =
    elim (map_under test n.entries n.levels) [
      | some m ↦ node_line number (levels_used m) n.levels ++ entries_text_under test n.entries m (length n.entries)
      | none ↦ no_map_line number
    ]

-- The lines of the first n nodes, in contents order.
unfoldable pub nodes_text_under : EntryTest → Plan → ℕ → List ℕ
nodes_text_under test p zero = []
nodes_text_under test p (suc n) = nodes_text_under test p n ++ node_text_under test (row_in p.rows n).number (node_of_row p n)

-- The listing of a plan: its first line, and its nodes.
unfoldable pub plan_text_under : EntryTest → Plan → List ℕ
plan_text_under test p = plan_line (length p.rows) ++ nodes_text_under test p (length p.rows)

-- The listing of a file, by the outcome of its checks: that of its plan, or one line with the refusal.
unfoldable pub listing_under : EntryTest → Outcome → Plan → List ℕ
listing_under test o p =
    elim o [
      | refused r ↦ refused_line r
      | accepted ↦ plan_text_under test p
    ]

-- From here on, the same under the completion time test. The line of an entry:
abbrev pub entry_text : List Entry → List ℕ → ℕ → List ℕ
entry_text es m i = entry_text_under completion_test es m i

-- The lines of entries.
abbrev pub entries_text : List Entry → List ℕ → ℕ → List ℕ
entries_text es m n = entries_text_under completion_test es m n

-- The lines of a node.
abbrev pub node_text : ℕ → Node → List ℕ
node_text number n = node_text_under completion_test number n

-- The lines of nodes.
abbrev pub nodes_text : Plan → ℕ → List ℕ
nodes_text p n = nodes_text_under completion_test p n

-- The listing of a plan.
abbrev pub plan_text : Plan → List ℕ
plan_text p = plan_text_under completion_test p

-- The listing of a file.
abbrev pub listing : List ℕ → List ℕ
listing f = listing_under completion_test (file_check f) (plan_in f)

-- The answer for a text: its length, or 10 if it does not fit. What is left in the buffer is `left` in specs/Answers of the
-- crate refusals.
unfoldable pub text_answer : List ℕ → ℕ → Answer ℕ
text_answer t room = giving (must_hold (leb (length t) room) (at 10 0 0)) (length t)

-- The answer for a file: that for its listing.
abbrev pub list_answer : List ℕ → ℕ → Answer ℕ
list_answer f room = text_answer (listing f) room

-- A call that puts a text into a lent buffer: its answer, and the buffer as it leaves it.
pub record TextCall (t old : List ℕ) (a : Answer ℕ) (new : List ℕ) : Type 0 where
  pub answer : a ≡ text_answer t (length old)
  pub there : new ≡ left a t old

-- A call on a file: the same for its listing, which is never longer than 115,625 bytes.
pub record ListCall (f old : List ℕ) (a : Answer ℕ) (new : List ℕ) : Type 0 where
  pub text : TextCall (listing f) old a new
  pub short : length (listing f) ≤ 115625
