use mathlib.Core.Path.{◌∙◌, ap}
use Rattle.planner_c.specs.Returned.{sized}
use Rattle.planner_c.proofs.Results.{of_number}
use Rattle.planner_c.proofs.conversions.maiplur_convert_back.Goals as goal

pub returns : goal.returns
returns c =
    let e = c.back.ensures in record {
      answered = c.give.ensures ∙ of_number c.back.result ∙ ap sized e.convert_call.answer;
      written = rw e.convert_call.answer at e.convert_call.there;
      converted_again = rw e.convert_call.answer at e.converted_again;
    }
