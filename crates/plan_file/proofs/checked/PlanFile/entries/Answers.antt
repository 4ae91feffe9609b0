use Prim.Native.Nat.{◌*◌}
use mathlib.Core.Path.{ap}
use native.Mathlib.Omega.{arith}
use Rattle.plan_file.specs.Encoding.{entry_length}
use Rattle.plan_file.specs.Decoding.{rows_in}
use Rattle.plan_file.specs.Plan.{entry_count}
use Rattle.plan_file.proofs.Encoding.{entries_counted}
use Rattle.plan_file.proofs.File.{file_holds}
use Rattle.plan_file.proofs.checked.PlanFile.entries.Goals as goal

pub overflow_sub-self : goal.overflow_sub-self
overflow_sub-self c = omega (arith, ap (λ p. p.1) c.contents.ensures, (file_holds _ c.args.self.now.accepted).header.contents)

pub returns : goal.returns
returns c =
    let f = c.args.self.now.bytes.now in
    entries_counted c.edition.result _ _ _ _
    (omega (
      arith,
      (file_holds f c.args.self.now.accepted).ends,
      ap (λ p. p.1) c.contents.ensures,
      ap (λ ed. entry_count (rows_in f) * entry_length ed) c.edition.ensures,
    ))
    c.entries_in.ensures
