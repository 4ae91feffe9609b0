-- Figures of late entries (docs/SPEC.md, 'By how much an entry is late'), as one table. proofs/OverrunCases shows that all of
-- it holds.
use Rattle.std.specs.Prelude.{ℕ, List, [], ◌∷◌}
use Rattle.task_model.specs.declared.Entry.{Entry}
use Rattle.completion.specs.Test.{on_time, late}
use Rattle.level_map.specs.Cases.{Claim, a_node, answered_at, demand_at, task, case_f, case_r, case_s, case_h}
use Rattle.level_map.specs.JitterCases.{jittered_p}

-- 1/2/2 and 2/3/d.
abbrev pub longer_deadline : ℕ → List Entry
longer_deadline d = task 1 1 2 2 ∷ task 2 2 3 d ∷ []

-- 2/3/3 and 1/4/4.
abbrev pub on_time_beyond : List Entry
on_time_beyond = task 1 2 3 3 ∷ task 2 1 4 4 ∷ []

-- Six tasks that run for their whole period of 1,000,000,000 ticks.
abbrev pub whole_periods : List Entry
whole_periods =
    task 1 1000000000 1000000000 1000000000
    ∷ task 2 1000000000 1000000000 1000000000
    ∷ task 3 1000000000 1000000000 1000000000
    ∷ task 4 1000000000 1000000000 1000000000
    ∷ task 5 1000000000 1000000000 1000000000
    ∷ task 6 1000000000 1000000000 1000000000
    ∷ []

-- The table. A late answer has its rounds and its overrun.
unfoldable pub overrun_cases : List Claim
overrun_cases =
    -- F, on one level: the first is late from the start, by 18.
    a_node case_f 1
    ∷ answered_at case_f (1 ∷ 1 ∷ 1 ∷ []) 0 (late 0 18)
    -- R: the third is late by 1.
    ∷ a_node case_r 2
    ∷ answered_at case_r (1 ∷ 2 ∷ 2 ∷ []) 2 (late 1 1)
    -- S: the third by itself is late by 3. All on one level: the first is late by 28.
    ∷ a_node case_s 3
    ∷ answered_at case_s (1 ∷ 2 ∷ 3 ∷ []) 2 (late 1 3)
    ∷ answered_at case_s (1 ∷ 1 ∷ 2 ∷ []) 2 (late 1 3)
    ∷ answered_at case_s (1 ∷ 1 ∷ 1 ∷ []) 0 (late 0 28)
    -- H: the third alone is late by 2, and so it is together with the second.
    ∷ a_node case_h 3
    ∷ answered_at case_h (1 ∷ 2 ∷ 3 ∷ []) 2 (late 1 2)
    ∷ answered_at case_h (1 ∷ 1 ∷ 2 ∷ []) 2 (late 1 2)
    ∷ answered_at case_h (1 ∷ 2 ∷ 2 ∷ []) 2 (late 1 2)
    -- P with J 13 on its third: the limit is 137, and the third is late by 1.
    ∷ a_node (jittered_p 13) 2
    ∷ answered_at (jittered_p 13) (1 ∷ 2 ∷ 2 ∷ []) 2 (late 1 1)
    -- a D that is longer by the overrun may still be late: by 1 with D 2, and by 1 with D 3
    ∷ a_node (longer_deadline 2) 2
    ∷ answered_at (longer_deadline 2) (1 ∷ 2 ∷ []) 1 (late 0 1)
    ∷ a_node (longer_deadline 3) 2
    ∷ answered_at (longer_deadline 3) (1 ∷ 2 ∷ []) 1 (late 1 1)
    -- an entry on time whose demand at its limit is above the limit
    ∷ a_node on_time_beyond 2
    ∷ answered_at on_time_beyond (1 ∷ 2 ∷ []) 1 (on_time 3 1)
    ∷ demand_at on_time_beyond (1 ∷ 2 ∷ []) 1 4 5
    -- an overrun beyond 32 bits
    ∷ a_node whole_periods 1
    ∷ answered_at whole_periods (1 ∷ 1 ∷ 1 ∷ 1 ∷ 1 ∷ 1 ∷ []) 0 (late 0 5000000000)
    ∷ []
