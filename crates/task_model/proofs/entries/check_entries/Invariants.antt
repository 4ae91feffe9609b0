use mathlib.Core.Path.{◌≡◌}
use lib.ListN.{drop}
use Rattle.task_model.specs.Checks.{entries_by}
use Rattle.task_model.proofs.entries.check_entries.Given as goal

abbrev pub invariant-loop-position : goal.invariant-loop-position
invariant-loop-position g l =
    entries_by (g.C.EntryCheck.says l.row) l.position (drop l.position (g.L.EntryList.entries l.list))
    ≡ entries_by (g.C.EntryCheck.says l.row) 0 (g.L.EntryList.entries l.list)
