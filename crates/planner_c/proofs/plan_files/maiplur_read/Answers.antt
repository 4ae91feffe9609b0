use mathlib.Core.Path.{◌∙◌, ap}
use Rattle.planner_c.specs.Returned.{sized_plan}
use Rattle.planner_c.proofs.Results.{of_plan}
use Rattle.planner_c.proofs.plan_files.maiplur_read.Goals as goal

pub returns : goal.returns
returns c =
    let e = c.read_plan.ensures in record {
      answered = c.give.ensures ∙ of_plan c.read_plan.result ∙ ap sized_plan e.read_call.answer;
      rows = rw e.read_call.answer at e.read_call.rows_there;
      entries = rw e.read_call.answer at e.read_call.words_there;
      written_again = rw e.read_call.answer at e.written_again;
    }
