use Rattle.std.proofs.Common.{◌+◌, ◌-◌, ◌≤◌, ◌≡◌, length}
use lib.ListN.{take, drop, replicate}
use Rattle.task_model.specs.Limits.{most_entries}
use Rattle.node_words.specs.Held.{held_entries}
use Rattle.level_map.proofs.Theorems.{asked}
use Rattle.level_map.proofs.Loop.{Reached}
use Rattle.level_map.proofs.find_cuts.Given as goal

-- what is left of the search gives the cuts of the whole, and each group has an entry
abbrev pub invariant-loop-end : goal.invariant-loop-end
invariant-loop-end l = record {
  reached : Reached (asked (held_entries l.node)) l.most l.node.count (take l.used l.starts) l.end;
  within : l.used ≤ l.most;
  few : l.used + l.end ≤ l.node.count;
  size : length l.starts ≡ most_entries;
  clear : drop l.used l.starts ≡ replicate (most_entries - l.used) 0;
}

abbrev pub decreases-loop-end : goal.decreases-loop-end
decreases-loop-end l = l.end
