use mathlib.Core.Path.{◌∙◌, ap}
use Rattle.planner_c.specs.Returned.{sized}
use Rattle.planner_c.proofs.Results.{of_number}
use Rattle.planner_c.proofs.maps.maiplur_map.Goals as goal

pub returns : goal.returns
returns c =
    let e = c.map_node.ensures in record {
      answered = c.give.ensures ∙ of_number c.map_node.result ∙ ap sized e.answered;
      written = rw e.answered at e.written;
      best = rw e.answered at e.best;
    }
