-- A lower bound on the start of a group that ends just before `end` and passes. It saves the search tests; no
-- promise of an entry for users mentions it.
use Rattle.std.specs.Prelude.{ℕ, zero, suc, ◌+◌, Bool, true, false, List, ltb}
use Rattle.task_model.specs.declared.Entry.{Entry}
use Rattle.task_model.specs.Limits.{entry_at}
use Rattle.completion.specs.Demand.{sum_to}
use Rattle.completion.specs.Test.{limit}

-- The limit of the entry at i is below B + the sum of C before `end`. So the entry is late wherever its group starts.
unfoldable pub late_by_runs : List Entry → ℕ → ℕ → Bool
late_by_runs es end i = ltb (limit (entry_at es i)) ((entry_at es i).blocking + sum_to (λ j. (entry_at es j).wcet) end)

-- One past the last position i < n with `test i`, or 0.
unfoldable pub past_last : (ℕ → Bool) → ℕ → ℕ
past_last test zero = 0
past_last test (suc n) = elim (test n) [ true ↦ suc n | false ↦ past_last test n ]

-- One past the last entry before `end` with `late_by_runs`, or 0.
unfoldable pub start_bound : List Entry → ℕ → ℕ
start_bound es end = past_last (late_by_runs es end) end
