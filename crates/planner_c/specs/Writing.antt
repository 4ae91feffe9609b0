-- Writing a plan in an edition that C names by its number.
use Rattle.std.specs.Prelude.{ℕ, true, false, List}
use Rattle.refusals.specs.Refusals.{at}
use Rattle.refusals.specs.Answers.{Answer, refuses}
use Rattle.plan_file.specs.Editions.{is_edition, edition_for}
use Rattle.plan_file.specs.Answers.{write_answer}

-- The writer's answer: 2 for an edition that does not exist, and else as for that edition.
unfoldable pub write_for : ℕ → List ℕ → List ℕ → ℕ → Answer ℕ
write_for number rows words room =
    elim (is_edition number) [
      | true ↦ write_answer (edition_for number) rows words room
      | false ↦ refuses (at 2 0 0)
    ]
