use Rattle.std.proofs.Common.{◌≡◌}
use Rattle.node_words.specs.Held.{held_entries}
use Rattle.on_time.specs.StartBound.{late_by_runs, past_last}
use Rattle.on_time.proofs.start_bound.Given as goal

-- the entries from the position on rule out no start
abbrev pub invariant-loop-position : goal.invariant-loop-position
invariant-loop-position l = past_last (late_by_runs (held_entries l.node) l.end) l.end ≡ past_last (late_by_runs (held_entries l.node) l.end) l.position
