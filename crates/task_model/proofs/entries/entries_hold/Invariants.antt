use Rattle.task_model.proofs.Loops.{Passing}
use Rattle.task_model.proofs.entries.entries_hold.Given as goal

abbrev pub invariant-loop-position : goal.invariant-loop-position
invariant-loop-position g l = Passing g.C.EntryCheck.says (g.L.EntryList.entries l.list) l.position
