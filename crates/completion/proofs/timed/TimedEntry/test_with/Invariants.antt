use Rattle.std.proofs.Common.{◌≡◌, ◌+◌, ◌-◌, ◌≤◌, ◌<◌}
use Rattle.completion.specs.Test.{test_from}
use Rattle.completion.specs.Timed.{timed_demand, timed_test}
use Rattle.completion.proofs.timed.TimedEntry.test_with.Given as goal

-- the demand is not below t, there were fewer rounds than t, and what is left of the test answers for the whole
abbrev pub invariant-loop-t : goal.invariant-loop-t
invariant-loop-t l = record {
  fewer : l.rounds < l.t;
  rising : l.t ≤ timed_demand l.blocking l.self l.t;
  whole : test_from (timed_demand l.blocking l.self) l.limit l.t l.rounds ≡ timed_test l.blocking l.self;
}

abbrev pub decreases-loop-t : goal.decreases-loop-t
decreases-loop-t l = l.limit + 1 - l.t
