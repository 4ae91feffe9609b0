use mathlib.Core.Path.{◌∙◌}
use Rattle.session.specs.Operations.{changing, removing}
use Rattle.planner_c.proofs.Changing.{changes}
use Rattle.planner_c.proofs.Results.{of_check}
use Rattle.planner_c.proofs.sessions.maiplur_session_remove.Goals as goal

pub returns : goal.returns
returns c =
    let a = c.args in changes (changing (removing a.position)) a.words.now c.remove.ensures (c.give.ensures ∙ of_check c.remove.result)
