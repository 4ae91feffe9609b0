use Rattle.std.proofs.Common.{◌≡◌, ℕ, ◌-◌, ◌≤◌, ◌<◌, true}
use Rattle.node_words.specs.Held.{held_entries}
use Rattle.level_map.specs.Groups.{on_time_in, GroupPasses}
use Rattle.level_map.proofs.least_start.Given as goal

-- the entries from the position on are on time in the group from this start
abbrev pub invariant-loop-position : goal.invariant-loop-position
invariant-loop-position l = record {
  on_time : (j : ℕ) → l.position ≤ j → j < l.end → on_time_in (held_entries l.node) l.added j l.start l.end ≡ true;
  same : l.start ≡ l.position-start;
}

-- no group that starts before this start passes
abbrev pub invariant-starts : goal.invariant-starts
invariant-starts l = record {
  none : (b : ℕ) → b < l.start → GroupPasses (held_entries l.node) l.added l.end b → ⊥;
  inside : l.start ≤ l.end;
}

abbrev pub decreases-starts : goal.decreases-starts
decreases-starts l = l.end - l.start
