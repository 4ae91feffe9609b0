-- The three values of a timing that is answered, as a caller reads them: exactly one of the time and the overrun is 0.
use Prim.Native.Nat.{ℕ, ◌≤◌}
use mathlib.Core.Path.{◌≡◌, ap}
use mathlib.Core.List.{List}
use Rattle.refusals.specs.Answers.{gives}
use Rattle.task_model.specs.Limits.{entry_at}
use Rattle.completion.specs.Group.{group_level}
use Rattle.completion.specs.Test.{on_time, late}
use Rattle.completion.specs.Right.{LateBy}
use Rattle.session.specs.State.{node_in}
use Rattle.session.specs.InWords.{session_in}
use Rattle.session.specs.Timing.{time_answer}
use Rattle.session.proofs.Theorems.{time_some, time_late}
use Rattle.planner_c.specs.Returned.{given, timed}

module _ (w : List ℕ) (first last i : ℕ) where
  -- On time: the completion time, which is at least 1, the rounds, and 0.
  pub on_time_values : (time rounds : ℕ) → time_answer (node_in (session_in w)) first last i ≡ gives (on_time time rounds)
      → (timed (time_answer (node_in (session_in w)) first last i) ≡ given time rounds 0) × (1 ≤ time)
  on_time_values time rounds p = (ap timed p, time_some (session_in w) first last i time rounds p)

  -- Late: 0, the rounds, and the overrun, which is at least 1: the demand at D - J is D - J plus the overrun.
  pub late_values : (rounds over : ℕ) → time_answer (node_in (session_in w)) first last i ≡ gives (late rounds over)
      → (timed (time_answer (node_in (session_in w)) first last i) ≡ given 0 rounds over)
      × LateBy (entry_at (node_in (session_in w)).entries i).blocking (node_in (session_in w)).entries (group_level first last) i over
  late_values rounds over p = (ap timed p, time_late (session_in w) first last i rounds over p)
