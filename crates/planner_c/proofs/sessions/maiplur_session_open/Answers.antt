use mathlib.Core.Path.{◌∙◌}
use Rattle.session.specs.Operations.{opening}
use Rattle.planner_c.proofs.Changing.{changes}
use Rattle.planner_c.proofs.Results.{of_check}
use Rattle.planner_c.proofs.sessions.maiplur_session_open.Goals as goal

pub returns : goal.returns
returns c =
    let a = c.args in changes (opening a.levels) a.words.now c.open.ensures (c.give.ensures ∙ of_check c.open.result)
