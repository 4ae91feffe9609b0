use lib.ListN.{take}
use Rattle.task_model.proofs.Numbers.{NoneBefore}
use Rattle.task_model.proofs.entries.has_number.Given as goal

abbrev pub invariant-loop-position : goal.invariant-loop-position
invariant-loop-position g l = NoneBefore l.number (take l.count (g.L.EntryList.entries l.list)) l.position
