use Prim.Native.Nat.{◌*◌, ◌≤◌}
use mathlib.Core.List.{map}
use mathlib.Core.Path.{◌≡◌}
use lib.ListN.{drop}
use Rattle.plan_file.specs.Plan.{row_of}
use Rattle.plan_file.proofs.Rows.{tally_from}
use Rattle.plan_file.proofs.WriterChecks.{tally}
use Rattle.plan_file.proofs.checks.check_rows.Given as goal

abbrev pub invariant-loop-i : goal.invariant-loop-i
invariant-loop-i l = (l.least ≤ 65536)
    × (l.total ≤ l.i * 255)
    × (tally_from l.words l.i l.least l.total (drop l.i (map row_of l.rows)) ≡ tally (map row_of l.rows) l.words)
