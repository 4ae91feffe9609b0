-- The checks of a plan file and of a plan to be written, as they were before there was a second edition and entries had a
-- release jitter; they have the check of numbers (16), which came later. By `first_edition`, every file that does not open
-- with the second edition's bytes has this check. By `writer_punctual`, every plan with J 0 throughout has that of the
-- writer, in both editions.
use Rattle.std.specs.Prelude.{ℕ, ◌*◌, List, length, eqb}
use Rattle.refusals.specs.Refusals.{at, Outcome, ◌and_then◌, must_hold}
use Rattle.task_model.specs.declared.Entry.{Entry}
use Rattle.task_model.specs.Checks.{body_by}
use Rattle.task_model.specs.WithoutJitter.{punctual_check}
use Rattle.plan_file.specs.declared.Edition.TheVariants.{First}
use Rattle.plan_file.specs.Plan.{Plan, entry_count}
use Rattle.plan_file.specs.Encoding.{entry_length, bodies_start}
use Rattle.plan_file.specs.Decoding.{opening_test, node_count, rows_in, entries_at}
use Rattle.node_words.specs.Words.{entry_size}
use Rattle.plan_file.specs.declared.Row.{Row}
use Rattle.plan_file.specs.Check.{count_test, rows_check, bodies_by, header_by, layout_check}

-- The plan in a file of the first edition: 20 bytes an entry, and J 0.
abbrev pub first_edition_plan : List ℕ → Plan
first_edition_plan f =
    record {
      rows = rows_in f;
      entries = entries_at First f (bodies_start (node_count f)) (entry_count (rows_in f));
    }

-- A file: its header, which opens with 4C 4D 50 31; its layout, with 20 bytes an entry; then row by row 7 and 8 entry by entry,
-- and the numbers (16).
unfoldable pub first_edition_check : List ℕ → Outcome
first_edition_check f =
    header_by (opening_test First f) f
    and_then layout_check (entry_length First) f 0 0 (bodies_start (node_count f)) (rows_in f)
    and_then bodies_by (body_by punctual_check) 0 (rows_in f) (first_edition_plan f).entries

-- The writer, of rows, and of entries given in `words` words: the node count (3), 4 row by row, as many entries as the rows
-- count (6), then row by row 7 and 8 entry by entry, and the numbers (16). (An entry in memory had five words then, and has
-- six now.)
unfoldable pub first_writer_check : List Row → List Entry → ℕ → Outcome
first_writer_check rows entries words =
    must_hold (count_test (length rows)) (at 3 0 0)
    and_then rows_check 0 0 rows
    and_then must_hold (eqb words (entry_count rows * entry_size)) (at 6 0 0)
    and_then bodies_by (body_by punctual_check) 0 rows entries
