use mathlib.Core.Path.{◌∙◌}
use Rattle.node_words.specs.Words.{entry_from}
use Rattle.session.specs.Operations.{changing, replacing}
use Rattle.planner_c.proofs.Changing.{changes}
use Rattle.planner_c.proofs.Results.{of_check}
use Rattle.planner_c.proofs.sessions.maiplur_session_replace.Goals as goal

pub returns : goal.returns
returns c =
    let a = c.args in
    let h = rw c.entry_of-e.ensures at c.replace.ensures in
    changes (changing (replacing a.position (entry_from a.entry.now 0))) a.words.now h (c.give.ensures ∙ of_check c.replace.result)
