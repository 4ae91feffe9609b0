use mathlib.Core.Path.{◌∙◌}
use Rattle.session.specs.Operations.{changing, setting_levels}
use Rattle.planner_c.proofs.Changing.{changes}
use Rattle.planner_c.proofs.Results.{of_check}
use Rattle.planner_c.proofs.sessions.maiplur_session_set_levels.Goals as goal

pub returns : goal.returns
returns c =
    let a = c.args in changes (changing (setting_levels a.levels)) a.words.now c.set_levels.ensures (c.give.ensures ∙ of_check c.set_levels.result)
