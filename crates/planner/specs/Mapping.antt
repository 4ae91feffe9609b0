-- Mapping a node of a plan file.
use Rattle.std.specs.Prelude.{ℕ, List}
use Rattle.refusals.specs.Refusals.{◌and_then◌}
use Rattle.refusals.specs.Answers.{Answer, giving}
use Rattle.plan_file.specs.Find.{find_check, node_found}
use Rattle.level_map.specs.Assignments.{levels_used}
use Rattle.level_map.specs.Answer.{map_of, held_check}

-- The answer: all of the file's checks, then 9, then 10 and 11 for the node with this number. It gives the count of the
-- map's levels.
unfoldable pub file_answer : List ℕ → ℕ → ℕ → Answer ℕ
file_answer f number room =
    giving (find_check f number and_then held_check (node_found f number) room) (levels_used (map_of (node_found f number)))
