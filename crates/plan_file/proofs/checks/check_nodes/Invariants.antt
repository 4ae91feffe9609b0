use Prim.Native.Nat.{◌+◌, ◌*◌, ◌≤◌}
use mathlib.Core.List.{map}
use mathlib.Core.Path.{◌≡◌}
use lib.ListN.{length, drop}
use Rattle.node_words.specs.Words.{entry_size, entries_from}
use Rattle.plan_file.specs.Plan.{entry_count, row_of}
use Rattle.plan_file.proofs.Rows.{bodies}
use Rattle.plan_file.proofs.checks.check_nodes.Given as goal

abbrev pub invariant-loop-row : goal.invariant-loop-row
invariant-loop-row g l = let check = g.C.ListCheck.says_all in
    ((l.first + entry_count (drop l.row (map row_of l.rows))) * entry_size ≤ length l.words)
    × (bodies check (entries_from l.words) l.first l.row (drop l.row (map row_of l.rows))
    ≡ bodies check (entries_from l.words) 0 0 (map row_of l.rows))
