-- What is asked about an entry that is timed in a group of its node.
use Rattle.std.specs.Prelude.{ℕ}
use Rattle.task_model.specs.Limits.{entry_at}
use Rattle.node_words.specs.Held.{held_entries}
use Rattle.completion.specs.Demand.{demand_with, initial_time_with}
use Rattle.completion.specs.Group.{group_level}
use Rattle.completion.specs.Test.{Completion, limit, test_with}
use Rattle.completion.specs.declared.timed.TimedEntry.{TimedEntry}

-- Its limit.
abbrev pub timed_limit : TimedEntry → ℕ
timed_limit x = limit (entry_at (held_entries x.node) x.position)

-- Its demand at time t, with a blocking of b ticks.
abbrev pub timed_demand : ℕ → TimedEntry → ℕ → ℕ
timed_demand b x t = demand_with b (held_entries x.node) (group_level x.first x.last) x.position t

-- The initial time of its test.
abbrev pub timed_start : ℕ → TimedEntry → ℕ
timed_start b x = initial_time_with b (held_entries x.node) (group_level x.first x.last) x.position

-- Its test.
abbrev pub timed_test : ℕ → TimedEntry → Completion
timed_test b x = test_with b (held_entries x.node) (group_level x.first x.last) x.position
