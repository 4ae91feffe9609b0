use native.Mathlib.Omega.{arith}
use Rattle.plan_file.proofs.File.{file_holds}
use Rattle.plan_file.proofs.checked.PlanFile.nodes.Goals as goal

pub invariant_of-nodes : goal.invariant_of-nodes
invariant_of-nodes c = record { long = (file_holds _ c.args.self.now.accepted).header.long }

pub returns : goal.returns
returns c =
    let h = (file_holds _ c.args.self.now.accepted).header.counted in record {
      value = c.nodes.ensures.0;
      some = omega (arith, c.nodes.ensures.0, h.some);
      few = omega (arith, c.nodes.ensures.0, h.few);
    }
