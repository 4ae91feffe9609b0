-- A file that does not open as the second edition is mapped as it was before there was one, and a node of either edition
-- without jitter as it was before entries had a J.
use Prim.Native.Nat.{ℕ}
use mathlib.Core.Path.{◌≡◌, ◌∙◌, ap}
use mathlib.Core.Bool.{false}
use mathlib.Core.List.{List}
use Rattle.refusals.proofs.Outcomes.{then_assoc}
use Rattle.task_model.specs.WithoutJitter.{Punctual}
use Rattle.completion.specs.WithoutJitter.{punctual_test}
use Rattle.plan_file.specs.declared.Edition.TheVariants.{Second}
use Rattle.plan_file.specs.Plan.{Plan}
use Rattle.plan_file.specs.Decoding.{opening_test, rows_in}
use Rattle.plan_file.specs.Find.{node_of_row, row_of_number, find_check, node_found}
use Rattle.plan_file.proofs.Tests.{edition_first}
use Rattle.plan_file.proofs.FirstEdition.{first_edition, first_plan}
use Rattle.plan_file.proofs.Theorems.{first_nodes_punctual}
use Rattle.level_map.specs.Answer.{map_of, levels_under}
use Rattle.level_map.proofs.WithoutJitter.{levels_punctual, held_check_punctual}
use Rattle.planner.specs.Mapping.{file_answer}
use Rattle.planner.specs.FirstEdition.{first_edition_node, first_edition_answer, punctual_answer}

module _ (f : List ℕ) (number : ℕ) (first : opening_test Second f ≡ false) where
  node_first : node_found f number ≡ first_edition_node f number
  node_first = ap (λ (p : Plan). node_of_row p (row_of_number number (rows_in f))) (first_plan f first)

  node_punctual : Punctual (node_found f number).entries
  node_punctual = first_nodes_punctual f (edition_first f first) (row_of_number number (rows_in f))

  -- The levels of the node's map are those of before.
  pub levels_first : map_of (node_found f number) ≡ levels_under punctual_test (first_edition_node f number)
  levels_first = levels_punctual (node_found f number) node_punctual ∙ ap (levels_under punctual_test) node_first

  -- And so is the answer.
  pub answer_first : (room : ℕ) → file_answer f number room ≡ first_edition_answer f number room
  unfolding file_answer find_check first_edition_answer
  answer_first room =
      rw (
        levels_first,
        held_check_punctual (node_found f number) node_punctual room,
        node_first,
        first_edition f first,
        then_assoc,
      )

-- A node of either edition whose every J is 0 has the answer without J.
pub answer_punctual : (f : List ℕ) (number : ℕ) → Punctual (node_found f number).entries → (room : ℕ)
    → file_answer f number room ≡ punctual_answer f number room
unfolding file_answer punctual_answer
answer_punctual f number h room = rw (levels_punctual (node_found f number) h, held_check_punctual (node_found f number) h room)
