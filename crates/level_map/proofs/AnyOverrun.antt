-- Mapping does not see overruns: the map, the answer for mapping and promise 3 are those under the test of before, whatever
-- overrun its late answers are given.
use Prim.Native.Nat.{ℕ}
use mathlib.Core.Path.{◌≡◌, ◌∙◌, ap}
use mathlib.Core.Logic.{◌↔◌}
use mathlib.Core.List.{List}
use Rattle.task_model.specs.declared.Entry.{Entry}
use Rattle.task_model.specs.Limits.{Node, entry_at}
use Rattle.completion.specs.Test.{completion_test, is_on_time}
use Rattle.completion.specs.WithoutOverrun.{bare_test, bare_with}
use Rattle.completion.proofs.WithoutOverrun.{test_bare, verdict_bare}
use Rattle.refusals.specs.Answers.{Answer}
use Rattle.level_map.specs.Map.{map_under, the_map}
use Rattle.level_map.specs.Answer.{map_of, levels_under, held_answer, held_answer_under, BestMapOrNone, BestMapOrNoneUnder}
use Rattle.level_map.proofs.Verdicts.{SameVerdicts, map_verdicts, levels_verdicts, held_answer_verdicts, best_verdicts}

module _ (x : List Entry → (ℕ → ℕ) → ℕ → ℕ) where
  same : (es : List Entry) → SameVerdicts completion_test (bare_with x) es
  same es level i =
      ap is_on_time (test_bare (entry_at es i).blocking es level i) ∙ verdict_bare _ (x es level i) (bare_test (entry_at es i).blocking es level i)

  pub map_any_overrun : (es : List Entry) (most : ℕ) → the_map es most ≡ map_under (bare_with x) es most
  map_any_overrun es = map_verdicts completion_test (bare_with x) es (same es)

  pub levels_any_overrun : (n : Node) → map_of n ≡ levels_under (bare_with x) n
  levels_any_overrun n = levels_verdicts completion_test (bare_with x) n (same n.entries)

  pub answer_any_overrun : (n : Node) (room : ℕ) → held_answer n room ≡ held_answer_under (bare_with x) n room
  answer_any_overrun n = held_answer_verdicts completion_test (bare_with x) n (same n.entries)

  pub best_any_overrun : (es : List Entry) (most : ℕ) (a : Answer ℕ) (m : List ℕ)
      → BestMapOrNone es most a m ↔ BestMapOrNoneUnder (bare_with x) es most a m
  best_any_overrun es = best_verdicts completion_test (bare_with x) es (same es)
