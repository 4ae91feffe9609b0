use mathlib.Core.Path.{◌∙◌, ap}
use Rattle.planner_c.specs.Returned.{checked}
use Rattle.planner_c.proofs.Checking.{zero_exactly}
use Rattle.planner_c.proofs.Results.{of_check}
use Rattle.planner_c.proofs.plan_files.maiplur_check.Goals as goal

pub returns : goal.returns
returns c =
    let k = c.check_file in
    let p = c.give.ensures ∙ of_check k.result in record {
      answered = p ∙ ap checked k.ensures.answer;
      exactly = zero_exactly k.result _ p k.ensures.exactly;
    }
