-- The verdict of `ends_on_time`, and the completion time that `completion_time` gives.
use Rattle.std.specs.Prelude.{ℕ, ◌≤◌, Bool, true, false, Option, None, Some}
use Rattle.completion.specs.declared.timed.TimedEntry.{TimedEntry}
use Rattle.completion.specs.Test.{Completion, on_time, late}
use Rattle.completion.specs.Timed.{timed_demand}
use Rattle.on_time.specs.declared.Deadline.{Deadline}
use Rattle.on_time.specs.declared.Deadline.TheVariants.{Met, Missed}

-- The verdict says that the deadline is met.
abbrev pub is_met : Deadline → Bool
is_met Met = true
is_met Missed = false

-- The completion time of an entry that is on time.
abbrev pub completion_time : Completion → Option ℕ
completion_time (on_time time rounds) = Some time
completion_time (late rounds overrun) = None

-- The demand of an entry, with the blocking b, is met at no time before t.
abbrev pub NotBefore : ℕ → TimedEntry → ℕ → Type 0
NotBefore b x t = (u : ℕ) → timed_demand b x u ≤ u → t ≤ u
