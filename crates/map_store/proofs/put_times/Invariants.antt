use Rattle.std.proofs.Common.{◌-◌}
use Rattle.node_words.specs.Held.{held_entries}
use Rattle.completion.specs.Group.{group_level}
use Rattle.completion.specs.Test.{completion_test, time_in}
use Rattle.map_store.specs.Store.{times_at}
use Rattle.map_store.specs.Putting.{Put, Earliest}
use Rattle.map_store.proofs.put_times.Given as goal

abbrev pub invariant-loop-position : goal.invariant-loop-position
invariant-loop-position l = record {
  put : Put times_at l.group.first l.position (λ j. time_in (completion_test (held_entries l.node) (group_level l.group.first (l.group.end - 1)) j))
      l.initial.store l.store;
  known : Earliest (held_entries l.node) l.group.first (l.group.end - 1) l.known;
}
