-- What the converter (`forward`, `back`) answers, and what it leaves in the lent buffer (docs/SPEC.md, 'Converting a file').
use Rattle.std.specs.Prelude.{ℕ, ◌≡◌, List, length, leb, eqb}
use Rattle.refusals.specs.Refusals.{at, Outcome, accepted, ◌and_then◌, must_hold}
use Rattle.refusals.specs.Answers.{Answer, giving, left}
use Rattle.task_model.specs.declared.Entry.{Entry}
use Rattle.plan_file.specs.declared.Edition.{Edition}
use Rattle.plan_file.specs.declared.Edition.TheVariants.{First, Second}
use Rattle.plan_file.specs.Encoding.{encoding}
use Rattle.plan_file.specs.Decoding.{opening_test, rows_in, entries_in, plan_in}
use Rattle.plan_file.specs.Check.{nodes_by, file_check}

-- From here on, `to` is the edition that a file is converted to: the second going forward, the first going back. The file
-- must be of the other one.
abbrev pub other : Edition → Edition
other First = Second
other Second = First

-- An entry: the first edition has no place for J, so going back a J above zero is 15.
unfoldable pub loss_check : Edition → ℕ → ℕ → Entry → Outcome
loss_check First row position e = must_hold (eqb e.jitter 0) (at 15 row position)
loss_check Second row position e = accepted

-- All checks but the buffer's: the file's own; then 2 for a file that does not open as the other edition; then, going back,
-- 15 row by row and entry by entry.
unfoldable pub convert_check : Edition → List ℕ → Outcome
convert_check to f =
    file_check f
    and_then must_hold (opening_test (other to) f) (at 2 0 0)
    and_then nodes_by (loss_check to) 0 (rows_in f) (entries_in f)

-- The answer: these checks, then 10 if the lent buffer is too short for the plan's file in that edition. It gives the length
-- of this file.
unfoldable pub convert_answer : Edition → List ℕ → ℕ → Answer ℕ
convert_answer to f room =
    giving
    (convert_check to f
    and_then must_hold (leb (length (encoding to (plan_in f))) room) (at 10 0 0))
    (length (encoding to (plan_in f)))

-- A call on a file and a lent buffer: its answer, and the buffer as it leaves it, with the plan's file in that edition.
pub record ConvertCall (to : Edition) (f old : List ℕ) (a : Answer ℕ) (new : List ℕ) : Type 0 where
  pub answer : a ≡ convert_answer to f (length old)
  pub there : new ≡ left a (encoding to (plan_in f)) old
