use borrow.Author.Rules.{rules}
use Rattle.task_model.specs.Checks.{size_test}
use Rattle.plan_file.specs.Check.{row_test}
use Rattle.plan_file.proofs.checks.row_holds.Goals as goal
use Rattle.plan_file.proofs.checks.row_holds.Goals.{then-least-r, else-least-r}

pub returns-then-levels_hold : goal.returns-then-levels_hold
unfolding row_test size_test
returns-then-levels_hold c =
    elim c.if-least-r.branch [
      | then-least-r w ↦ rw (← w.levels_hold.ensures) (search rules)
      | else-least-r w ↦ search rules
    ]

pub returns-else-levels_hold : goal.returns-else-levels_hold
unfolding row_test size_test
returns-else-levels_hold c =
    elim c.if-least-r.branch [
      | then-least-r w ↦ rw (← w.levels_hold.ensures) (search rules)
      | else-least-r w ↦ search rules
    ]
