use Prim.Native.Nat.{◌+◌, ◌*◌, ◌≤◌}
use mathlib.Core.Path.{◌≡◌}
use lib.ListN.{drop}
use Rattle.plan_file.specs.declared.Edition.TheVariants.{Second}
use Rattle.plan_file.specs.Check.{layout_check}
use Rattle.plan_file.specs.Decoding.{rows_from}
use Rattle.plan_file.specs.Encoding.{row_length, header_length, bodies_start, entry_length}
use Rattle.plan_file.proofs.stages.Contents.check_layout.Given as goal

abbrev pub invariant-loop-row : goal.invariant-loop-row
invariant-loop-row l = (l.least ≤ 65536)
    × (l.required ≤ header_length + l.self.nodes * row_length + l.row * 255 * entry_length Second)
    × (layout_check l.size l.self.file.now l.row l.least l.required (drop l.row (rows_from l.self.file.now 0 l.self.nodes)) ≡ layout_check l.size l.self.file.now 0 0 (bodies_start l.self.nodes) (rows_from l.self.file.now 0 l.self.nodes))
