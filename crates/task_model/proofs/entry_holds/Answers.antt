use borrow.Author.Rules.{rules}
use Rattle.task_model.specs.Checks.{entry_test}
use Rattle.task_model.proofs.Laws.{times_hold}
use Rattle.task_model.proofs.entry_holds.Goals as goal

pub jitter_holds-requires : goal.jitter_holds-requires
jitter_holds-requires c = times_hold _ (search rules)

pub returns-then-times_hold : goal.returns-then-times_hold
unfolding entry_test
returns-then-times_hold c = search rules

pub returns-else-times_hold : goal.returns-else-times_hold
unfolding entry_test
returns-else-times_hold c = search rules
