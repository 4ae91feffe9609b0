use mathlib.Core.Path.{◌∙◌}
use Rattle.session.specs.InWords.{session_in}
use Rattle.planner_c.proofs.Mapping.{map_returned, map_buffer, map_best}
use Rattle.planner_c.proofs.Results.{of_number}
use Rattle.planner_c.proofs.sessions.maiplur_session_map.Goals as goal

pub returns : goal.returns
returns c =
    let a = c.args in
    let t = session_in a.words.now in record {
      answered = map_returned t a.levels.now c.map.ensures _ (c.give.ensures ∙ of_number c.map.result);
      written = map_buffer t a.levels.now c.map.ensures;
      best = map_best t a.levels.now c.map.ensures;
    }
