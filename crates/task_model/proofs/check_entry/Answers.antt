use mathlib.Core.Path.{sym}
use borrow.Author.Rules.{rules}
use Rattle.task_model.proofs.Laws.{times_hold, check_kind, check_times, check_jitter, check_accepts}
use Rattle.task_model.proofs.check_entry.Goals as goal

pub returns-then-not-kind_holds : goal.returns-then-not-kind_holds
returns-then-not-kind_holds c = sym (check_kind _ _ _ (search rules))

pub returns-then-not-times_hold : goal.returns-then-not-times_hold
returns-then-not-times_hold c = sym (check_times _ _ _ (search rules) (search rules))

pub jitter_holds-requires : goal.jitter_holds-requires
jitter_holds-requires c = times_hold _ (search rules)

pub returns-then-not-jitter_holds : goal.returns-then-not-jitter_holds
returns-then-not-jitter_holds c = sym (check_jitter _ _ _ (search rules) (search rules) (search rules))

pub returns : goal.returns
returns c = sym (check_accepts _ _ _ (search rules) (search rules) (search rules))
