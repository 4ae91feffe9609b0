-- Mapping a node of a file as it was before entries had a release jitter, and before there was a second edition, but for the
-- check of numbers (16), which came later.
use Rattle.std.specs.Prelude.{ℕ, List, length, ltb}
use Rattle.refusals.specs.Refusals.{at, ◌and_then◌, must_hold}
use Rattle.refusals.specs.Answers.{Answer, giving}
use Rattle.task_model.specs.Limits.{Node}
use Rattle.completion.specs.WithoutJitter.{punctual_test}
use Rattle.plan_file.specs.Decoding.{rows_in}
use Rattle.plan_file.specs.Find.{node_of_row, row_of_number, find_check, node_found}
use Rattle.plan_file.specs.FirstEdition.{first_edition_check, first_edition_plan}
use Rattle.level_map.specs.Assignments.{levels_used}
use Rattle.level_map.specs.Answer.{levels_under, held_check_under}

-- The answer of before for a node of a file of either edition: all of the file's checks, then 9, then 10 and 11 for the
-- node, timed without J.
unfoldable pub punctual_answer : List ℕ → ℕ → ℕ → Answer ℕ
punctual_answer f number room =
    giving
    (find_check f number and_then held_check_under punctual_test (node_found f number) room)
    (levels_used (levels_under punctual_test (node_found f number)))

-- The node with this number in a file of the first edition.
abbrev pub first_edition_node : List ℕ → ℕ → Node
first_edition_node f number = node_of_row (first_edition_plan f) (row_of_number number (rows_in f))

-- The answer: all checks of a file of the first edition, then 9, then 10 and 11 for the node, timed without J.
unfoldable pub first_edition_answer : List ℕ → ℕ → ℕ → Answer ℕ
first_edition_answer f number room =
    giving
    (first_edition_check f
    and_then must_hold (ltb (row_of_number number (rows_in f)) (length (rows_in f))) (at 9 0 0)
    and_then held_check_under punctual_test (first_edition_node f number) room)
    (levels_used (levels_under punctual_test (first_edition_node f number)))
