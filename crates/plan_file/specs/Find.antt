-- The node of a row, and the row of a number.
use Rattle.std.specs.Prelude.{ℕ, suc, true, false, Option, Some, None, List, [], ◌∷◌, length, get_or, take, drop, ltb, eqb}
use Rattle.refusals.specs.Refusals.{at, Outcome, ◌and_then◌, must_hold}
use Rattle.task_model.specs.Limits.{Node}
use Rattle.plan_file.specs.declared.Row.{Row}
use Rattle.plan_file.specs.Plan.{Plan, entry_count}
use Rattle.plan_file.specs.Check.{file_check}
use Rattle.plan_file.specs.Decoding.{plan_in, rows_in}

-- Default outside the rows; no theorem depends on it.
abbrev pub no_row : Row
no_row = record { number = 0; levels = 0; count = 0 }

-- The row at an index, counted from 0.
abbrev pub row_in : List Row → ℕ → Row
row_in rows i = get_or rows i no_row

-- The node of row `i`: its levels, and its entries, which follow the entries of the rows before.
unfoldable pub node_of_row : Plan → ℕ → Node
node_of_row p i =
    record {
      levels = (row_in p.rows i).levels;
      entries = take (row_in p.rows i).count (drop (entry_count (take i p.rows)) p.entries);
    }

-- The index of the row with this number, or the number of rows if none has it.
unfoldable pub row_of_number : ℕ → List Row → ℕ
row_of_number number [] = 0
row_of_number number (r ∷ rs) =
    elim (eqb r.number number) [
      | true ↦ 0
      | false ↦ suc (row_of_number number rs)
    ]

-- The same, or none.
unfoldable pub first_row : ℕ → List Row → Option ℕ
first_row number rows =
    elim (ltb (row_of_number number rows) (length rows)) [
      | true ↦ Some (row_of_number number rows)
      | false ↦ None
    ]

-- The checks for finding a node in a file: all of the file's checks, then 9.
unfoldable pub find_check : List ℕ → ℕ → Outcome
find_check f number = file_check f and_then must_hold (ltb (row_of_number number (rows_in f)) (length (rows_in f))) (at 9 0 0)

-- The node with that number.
abbrev pub node_found : List ℕ → ℕ → Node
node_found f number = node_of_row (plan_in f) (row_of_number number (rows_in f))
