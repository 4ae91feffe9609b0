use mathlib.Core.Path.{◌∙◌, ap}
use Rattle.planner_c.specs.Returned.{sized}
use Rattle.planner_c.proofs.Results.{of_number}
use Rattle.planner_c.proofs.sessions.maiplur_session_map_time.Goals as goal

pub returns : goal.returns
returns c = c.give.ensures ∙ of_number c.map_time.result ∙ ap sized c.map_time.ensures
