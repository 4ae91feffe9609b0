-- What timing answers.
use Rattle.std.specs.Prelude.{ℕ}
use Rattle.task_model.specs.Limits.{Node}
use Rattle.completion.specs.Group.{group_level}
use Rattle.completion.specs.Test.{Completion}
use Rattle.session.specs.Operations.{Rules, rules, asking, timing, step_check_by}
use Rattle.refusals.specs.Answers.{Answer, giving}

-- The answer: the checks, then the completion time test of the entry at i, in the group from `first` to `last`. The entries
-- before the group are on more urgent levels.
unfoldable pub time_answer_by : Rules → Node → ℕ → ℕ → ℕ → Answer Completion
time_answer_by by n first last i =
    giving (step_check_by by (asking (timing first last i)) n) (by.test n.entries (group_level first last) i)

-- The same by the rules of a session.
abbrev pub time_answer : Node → ℕ → ℕ → ℕ → Answer Completion
time_answer n first last i = time_answer_by rules n first last i
