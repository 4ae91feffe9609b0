use mathlib.Core.Path.{◌≡◌}
use lib.ListN.{length}
use Rattle.task_model.proofs.Marks.{Passed}
use Rattle.task_model.proofs.entries.check_numbers.Given as goal

abbrev pub invariant-loop-position : goal.invariant-loop-position
invariant-loop-position g l =
    (length l.marks ≡ g.row.N) × Passed (g.L.EntryList.entries l.list) g.row.N l.mark l.marks l.position
