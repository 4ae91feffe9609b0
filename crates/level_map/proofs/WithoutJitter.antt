-- For entries whose J is 0, the map, the answer for mapping and promise 3 are those under the test without J.
use Prim.Native.Nat.{ℕ}
use mathlib.Core.Path.{◌≡◌, ap}
use mathlib.Core.Logic.{◌↔◌}
use mathlib.Core.List.{List}
use Rattle.task_model.specs.declared.Entry.{Entry}
use Rattle.task_model.specs.Limits.{Node}
use Rattle.completion.specs.Test.{completion_test, is_on_time}
use Rattle.task_model.specs.WithoutJitter.{Punctual}
use Rattle.completion.specs.WithoutJitter.{punctual_test}
use Rattle.completion.proofs.WithoutJitter.{test_punctual}
use Rattle.refusals.specs.Answers.{Answer}
use Rattle.level_map.specs.Map.{map_under, the_map}
use Rattle.level_map.specs.Answer.{map_of, levels_under, held_check, held_check_under, held_answer, held_answer_under, BestMapOrNone, BestMapOrNoneUnder}
use Rattle.level_map.proofs.Verdicts.{SameVerdicts, map_verdicts, levels_verdicts, held_check_verdicts, held_answer_verdicts, best_verdicts}

module _ (es : List Entry) (punctual : Punctual es) where
  same : SameVerdicts completion_test punctual_test es
  same level i = ap is_on_time (test_punctual es punctual level i)

  -- The map is that under the test without J.
  pub map_punctual : (most : ℕ) → the_map es most ≡ map_under punctual_test es most
  map_punctual = map_verdicts completion_test punctual_test es same

  -- Promise 3 is that under the test without J: the same answers with the same maps keep it.
  pub best_punctual : (most : ℕ) (a : Answer ℕ) (m : List ℕ) → BestMapOrNone es most a m ↔ BestMapOrNoneUnder punctual_test es most a m
  best_punctual = best_verdicts completion_test punctual_test es same

-- So are the levels that are written, the checks and the answer.
module _ (n : Node) (punctual : Punctual n.entries) where
  pub levels_punctual : map_of n ≡ levels_under punctual_test n
  levels_punctual = levels_verdicts completion_test punctual_test n (same n.entries punctual)

  pub held_check_punctual : (room : ℕ) → held_check n room ≡ held_check_under punctual_test n room
  held_check_punctual = held_check_verdicts completion_test punctual_test n (same n.entries punctual)

  pub held_answer_punctual : (room : ℕ) → held_answer n room ≡ held_answer_under punctual_test n room
  held_answer_punctual = held_answer_verdicts completion_test punctual_test n (same n.entries punctual)
