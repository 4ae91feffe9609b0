use native.Mathlib.Omega.{arith}
use Rattle.plan_file.proofs.File.{file_holds}
use Rattle.plan_file.proofs.checked.PlanFile.contents.Goals as goal

pub invariant_of-result : goal.invariant_of-result
invariant_of-result c = record { inside = omega (arith, c.nodes.ensures.value, (file_holds _ c.args.self.now.accepted).header.contents) }

pub returns : goal.returns
returns c = rw c.nodes.ensures.value
