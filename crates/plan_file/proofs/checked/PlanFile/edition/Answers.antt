use Rattle.plan_file.proofs.File.{file_holds}
use Rattle.plan_file.proofs.checked.PlanFile.edition.Goals as goal

pub invariant_of-edition : goal.invariant_of-edition
invariant_of-edition c = record { long = (file_holds _ c.args.self.now.accepted).header.long }
