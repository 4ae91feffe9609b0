-- Writing after reading gives the same file, and reading after writing gives the same plan and edition, from the buffers as
-- the calls leave them.
use Rattle.std.specs.Prelude.{ℕ, ◌*◌, ◌/◌, ◌≤◌, ◌≡◌, List, ◌++◌, length, take, drop}
use Rattle.node_words.specs.Words.{entry_size}
use Rattle.refusals.specs.Answers.{Answer, gives, refuses}
use Rattle.plan_file.specs.declared.Edition.{Edition}
use Rattle.plan_file.specs.declared.ReadPlan.{ReadPlan}
use Rattle.plan_file.specs.Answers.{ReadCall, WriteCall}

-- The reader filled its buffers. Then any call of the writer on the edition that was given and the filled parts, with room
-- for the file, gives the file's length. It writes the file's bytes from the start of its buffer and keeps the bytes beyond.
abbrev pub WrittenAgain : List ℕ → Answer ReadPlan → List ℕ → List ℕ → Type 0
WrittenAgain f (refuses r) rows words = Unit
WrittenAgain f (gives n) rows words =
    (old : List ℕ) (a : Answer ℕ) (new : List ℕ)
    → length f ≤ length old
    → WriteCall n.edition (take n.rows rows) (take (n.entries * entry_size) words) old a new
    → (a ≡ gives (length f)) × (new ≡ f ++ drop (length f) old)

-- The writer wrote a file. Then any call of the reader on the written part, with room for the plan, gives the edition, and
-- fills as many rows and entries as the writer was given. It writes the same words from the start of its buffers and keeps
-- the words beyond.
abbrev pub ReadAgain : Edition → List ℕ → List ℕ → Answer ℕ → List ℕ → Type 0
ReadAgain ed rows words (refuses r) file = Unit
ReadAgain ed rows words (gives n) file =
    (oldRows oldWords : List ℕ) (a : Answer ReadPlan) (newRows newWords : List ℕ)
    → length rows ≤ length oldRows
    → length words ≤ length oldWords
    → ReadCall (take n file) oldRows oldWords a newRows newWords
    → (a ≡ gives (record { edition = ed; rows = length rows; entries = length words / entry_size }))
    × (newRows ≡ rows ++ drop (length rows) oldRows)
    × (newWords ≡ words ++ drop (length words) oldWords)
