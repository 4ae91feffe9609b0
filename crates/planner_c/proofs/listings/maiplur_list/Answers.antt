use mathlib.Core.Path.{◌∙◌, ap}
use Rattle.planner_c.specs.Returned.{sized}
use Rattle.planner_c.proofs.Results.{of_number}
use Rattle.planner_c.proofs.listings.maiplur_list.Goals as goal

pub returns : goal.returns
returns c =
    let e = c.list_plan.ensures in record {
      answered = c.give.ensures ∙ of_number c.list_plan.result ∙ ap sized e.text.answer;
      written = rw e.text.answer at e.text.there;
      short = e.short;
    }
