use borrow.Author.Rules.{rules}
use Rattle.task_model.specs.Checks.{times_test}
use Rattle.task_model.proofs.times_hold.Goals as goal

pub returns-then-e-le-MOST_TICKS : goal.returns-then-e-le-MOST_TICKS
unfolding times_test
returns-then-e-le-MOST_TICKS c = search rules

pub returns-else-e-le-MOST_TICKS : goal.returns-else-e-le-MOST_TICKS
unfolding times_test
returns-else-e-le-MOST_TICKS c = search rules
