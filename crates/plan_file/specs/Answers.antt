-- What the reader (`read_plan`), the writer (`write_plan`) and the finder (`find_node`) answer.
use Rattle.std.specs.Prelude.{ℕ, ◌*◌, Bool, ◌&&◌, ◌≡◌, List, ◌++◌, map, length, drop, leb}
use Rattle.refusals.specs.Refusals.{at, ◌and_then◌, must_hold}
use Rattle.refusals.specs.Answers.{Answer, gives, refuses, giving, left}
use Rattle.task_model.specs.Limits.{Node}
use Rattle.node_words.specs.Words.{entry_size, words_of, node_of}
use Rattle.plan_file.specs.declared.Edition.{Edition}
use Rattle.plan_file.specs.declared.Row.{Row}
use Rattle.plan_file.specs.declared.ReadPlan.{ReadPlan}
use Rattle.plan_file.specs.declared.FoundNode.{FoundNode}
use Rattle.plan_file.specs.Plan.{Plan, row_word, plan_of}
use Rattle.plan_file.specs.Encoding.{encoding}
use Rattle.plan_file.specs.Decoding.{edition_of, row_at, plan_in}
use Rattle.plan_file.specs.Check.{file_check, words_check}
use Rattle.plan_file.specs.Find.{node_of_row, find_check, node_found}

-- A call gives what its answer holds.
abbrev pub itself : {A : Type 0} → A → A
itself a = a

-- The buffers are long enough: one word per row, and six per entry.
abbrev pub room_test : Plan → ℕ → ℕ → Bool
room_test p rowRoom wordRoom = leb (length p.rows) rowRoom && leb (length p.entries * entry_size) wordRoom

-- The reader's answer: the file's checks, then 10 if a lent buffer is too short. It gives the file's edition, and how many
-- rows and entries it fills.
unfoldable pub read_answer : List ℕ → ℕ → ℕ → Answer ReadPlan
read_answer f rowRoom wordRoom =
    giving
    (file_check f and_then must_hold (room_test (plan_in f) rowRoom wordRoom) (at 10 0 0))
    (record { edition = edition_of f; rows = length (plan_in f).rows; entries = length (plan_in f).entries })

-- The writer's answer for an edition: its checks, then 10 if the lent buffer is too short for the file. It gives the file's
-- length.
unfoldable pub write_answer : Edition → List ℕ → List ℕ → ℕ → Answer ℕ
write_answer ed rows words room =
    giving
    (words_check ed rows words
    and_then must_hold (leb (length (encoding ed (plan_of rows words))) room) (at 10 0 0))
    (length (encoding ed (plan_of rows words)))

-- A call of the reader on a file and two lent buffers: its answer, and the buffers as it leaves them. One gets the words of
-- the rows, the other the words of the entries.
pub record ReadCall (f rows words : List ℕ) (a : Answer ReadPlan) (rowsLeft words_left : List ℕ) : Type 0 where
  pub answer : a ≡ read_answer f (length rows) (length words)
  pub rows_there : rowsLeft ≡ left a (map row_word (plan_in f).rows) rows
  pub words_there : words_left ≡ left a (words_of (plan_in f).entries) words

-- A call of the writer on an edition, a plan in memory and a lent buffer: its answer, and the buffer as it leaves it, with
-- the plan's file.
pub record WriteCall (ed : Edition) (rows words file : List ℕ) (a : Answer ℕ) (fileLeft : List ℕ) : Type 0 where
  pub answer : a ≡ write_answer ed rows words (length file)
  pub file_there : fileLeft ≡ left a (encoding ed (plan_of rows words)) file

-- The finder's answer: the file's checks, then 9 if no node has the number. It gives the node's count of levels and its count
-- of entries.
unfoldable pub find_answer : List ℕ → ℕ → Answer FoundNode
find_answer f number =
    giving (find_check f number) (record { levels = (node_found f number).levels; count = length (node_found f number).entries })

-- If a node is given, the words hold this node.
abbrev pub Holding : Answer FoundNode → List ℕ → Node → Type 0
Holding (gives s) words n = node_of words s.count s.levels ≡ n
Holding (refuses r) words n = Unit

-- A node is loaded: r is its row, the words of its entries are at the start of the array, and the words beyond are kept. So
-- the array holds the node of that row.
pub record Loaded (f : List ℕ) (i : ℕ) (r : Row) (old new : List ℕ) : Type 0 where
  pub row : r ≡ row_at f i
  pub words : new ≡ words_of (node_of_row (plan_in f) i).entries ++ drop (length (words_of (node_of_row (plan_in f) i).entries)) old
  pub node : node_of new r.count r.levels ≡ node_of_row (plan_in f) i
