-- The checks of a plan file and of a plan to be written before entry numbers were checked. By `file_differ` and
-- `writer_differ`, the present ones are these wherever the numbers of each node are all different; by `file_fewer` and
-- `plan_fewer`, exactly the plans with a repeat are no longer accepted. By `first_differ` and `first_writer_differ`, the same
-- holds of the checks before there was a second edition.
use Rattle.std.specs.Prelude.{ℕ, ◌*◌, ◌<◌, List, length, eqb}
use Rattle.refusals.specs.Refusals.{at, Outcome, ◌and_then◌, must_hold}
use Rattle.task_model.specs.declared.Entry.{Entry}
use Rattle.task_model.specs.Limits.{NumbersDiffer}
use Rattle.task_model.specs.Checks.{entry_check}
use Rattle.node_words.specs.Words.{entry_size}
use Rattle.task_model.specs.WithoutJitter.{punctual_check}
use Rattle.plan_file.specs.declared.Edition.{Edition}
use Rattle.plan_file.specs.declared.Edition.TheVariants.{First}
use Rattle.plan_file.specs.declared.Row.{Row}
use Rattle.plan_file.specs.Plan.{Plan, entry_count}
use Rattle.plan_file.specs.Encoding.{entry_length, bodies_start}
use Rattle.plan_file.specs.Decoding.{opening_test, edition_of, node_count, rows_in, entries_in}
use Rattle.plan_file.specs.Check.{count_test, rows_check, nodes_by, header_by, header_check, layout_check, written_check}
use Rattle.plan_file.specs.FirstEdition.{first_edition_plan}
use Rattle.plan_file.specs.Find.{node_of_row}

-- In every node of a plan, the numbers are all different.
abbrev pub PlanNumbersDiffer : Plan → Type 0
PlanNumbersDiffer p = (i : ℕ) → i < length p.rows → NumbersDiffer (node_of_row p i).entries

-- A file: its header, its layout in its edition, then 7, 8 and 14 entry by entry.
unfoldable pub loose_file_check : List ℕ → Outcome
loose_file_check f =
    header_check f
    and_then layout_check (entry_length (edition_of f)) f 0 0 (bodies_start (node_count f)) (rows_in f)
    and_then nodes_by entry_check 0 (rows_in f) (entries_in f)

-- The writer, for an edition, of rows, and of entries that were given in `words` words: 3, 4 row by row, 6, then 7, 8 and 14
-- entry by entry.
unfoldable pub loose_writer_check : Edition → List Row → List Entry → ℕ → Outcome
loose_writer_check ed rows entries words =
    must_hold (count_test (length rows)) (at 3 0 0)
    and_then rows_check 0 0 rows
    and_then must_hold (eqb words (entry_count rows * entry_size)) (at 6 0 0)
    and_then nodes_by (written_check ed) 0 rows entries

-- The checks of a plan for an edition.
abbrev pub loose_plan_check : Edition → Plan → Outcome
loose_plan_check ed p = loose_writer_check ed p.rows p.entries (length p.entries * entry_size)

-- A file, before there was a second edition and entries had a release jitter: its header, which opens with 4C 4D 50 31; its
-- layout, with 20 bytes an entry; then 7 and 8 entry by entry.
unfoldable pub loose_first_check : List ℕ → Outcome
loose_first_check f =
    header_by (opening_test First f) f
    and_then layout_check (entry_length First) f 0 0 (bodies_start (node_count f)) (rows_in f)
    and_then nodes_by punctual_check 0 (rows_in f) (first_edition_plan f).entries

-- The writer then: 3, 4 row by row, 6, then 7 and 8 entry by entry.
unfoldable pub loose_first_writer_check : List Row → List Entry → ℕ → Outcome
loose_first_writer_check rows entries words =
    must_hold (count_test (length rows)) (at 3 0 0)
    and_then rows_check 0 0 rows
    and_then must_hold (eqb words (entry_count rows * entry_size)) (at 6 0 0)
    and_then nodes_by punctual_check 0 rows entries
