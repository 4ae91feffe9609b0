use mathlib.Core.Path.{◌∙◌, ap}
use Rattle.planner_c.specs.Returned.{timed}
use Rattle.planner_c.proofs.Results.{of_timing}
use Rattle.planner_c.proofs.sessions.maiplur_session_time.Goals as goal

pub returns : goal.returns
returns c = c.give.ensures ∙ of_timing c.time.result ∙ ap timed c.time.ensures
