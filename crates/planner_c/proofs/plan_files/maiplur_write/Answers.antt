use mathlib.Core.Path.{◌∙◌, ap}
use Rattle.planner_c.specs.Returned.{sized}
use Rattle.planner_c.proofs.Results.{of_number}
use Rattle.planner_c.proofs.plan_files.maiplur_write.Goals as goal

pub returns : goal.returns
returns c =
    let e = c.write_in.ensures in record {
      answered = c.give.ensures ∙ of_number c.write_in.result ∙ ap sized e.answered;
      written = rw e.answered at e.written;
      read_again = rw e.answered at e.read_again;
    }
