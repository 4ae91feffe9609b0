use Rattle.std.proofs.Common.{◌+◌, ◌-◌, ◌≤◌}
use Rattle.on_time.specs.Deciding.{NotBefore}
use Rattle.on_time.proofs.end_from.Given as goal

-- the demand is met at no time before t
abbrev pub invariant-loop-t : goal.invariant-loop-t
invariant-loop-t l = NotBefore l.blocking l.timed l.t × (1 ≤ l.t)

abbrev pub decreases-loop-t : goal.decreases-loop-t
decreases-loop-t l = l.limit + 1 - l.t
