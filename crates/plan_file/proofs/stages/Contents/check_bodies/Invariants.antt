use Prim.Native.Nat.{◌+◌, ◌*◌, ◌≤◌}
use mathlib.Core.Path.{◌≡◌}
use lib.ListN.{length, drop}
use Rattle.plan_file.specs.Decoding.{rows_from, entries_at}
use Rattle.plan_file.specs.Encoding.{entry_length, bodies_start}
use Rattle.plan_file.specs.Plan.{entry_count}
use Rattle.plan_file.proofs.Rows.{bodies}
use Rattle.plan_file.proofs.stages.Contents.check_bodies.Given as goal

abbrev pub invariant-loop-row : goal.invariant-loop-row
invariant-loop-row g l = let ed = g.E.Layout.edition in
    (l.start + entry_count (drop l.row (rows_from l.self.file.now 0 l.self.nodes)) * entry_length ed ≤ length l.self.file.now)
    × (bodies g.C.ListCheck.says_all (entries_at ed l.self.file.now) l.start l.row (drop l.row (rows_from l.self.file.now 0 l.self.nodes))
    ≡ bodies g.C.ListCheck.says_all (entries_at ed l.self.file.now) (bodies_start l.self.nodes) 0 (rows_from l.self.file.now 0 l.self.nodes))
