-- The demand and the test of entries without J: what they were before entries had a release jitter
-- (docs/SPEC.md, 'Entries that start late'), but that late answers have their overrun (specs/WithoutOverrun has the test
-- without it). For entries whose J is 0, the theorems of proofs/WithoutJitter say that demand, test and bound are these.
use Rattle.std.specs.Prelude.{ℕ, ◌+◌, ◌-◌, ◌*◌, min, ◌&&◌, not, List, length, leb, eqb}
use Rattle.task_model.specs.declared.Entry.{Entry}
use Rattle.task_model.specs.Limits.{entry_at}
use Rattle.completion.specs.Demand.{ceil_div, sum_to, only, more_urgent, shares_level}
use Rattle.completion.specs.Test.{Completion, test_from}

-- How often an entry is released in t ticks: ⌈ t / T ⌉.
unfoldable pub punctual_releases : Entry → ℕ → ℕ
punctual_releases e t = ceil_div t e.period

-- The demand of the entry at i at time t: its C and its B, C × ⌈ t / T ⌉ of each entry on a more urgent level, and
-- C × min(⌈ t / T ⌉, r + 1) of each other entry on its own level, with r of the entry at i.
unfoldable pub punctual_demand : List Entry → (ℕ → ℕ) → ℕ → ℕ → ℕ
punctual_demand es level i t =
    (entry_at es i).wcet + (entry_at es i).blocking
    + sum_to (λ j. only (more_urgent level i j) ((entry_at es j).wcet * punctual_releases (entry_at es j) t)) (length es)
    + sum_to (λ j. only (shares_level level i j) ((entry_at es j).wcet * min (punctual_releases (entry_at es j) t) ((entry_at es i).calls + 1)))
    (length es)

-- The initial time of the test: B plus the C of every entry on the own and more urgent levels, the entry itself included.
unfoldable pub punctual_initial_time : List Entry → (ℕ → ℕ) → ℕ → ℕ
punctual_initial_time es level i =
    (entry_at es i).blocking + sum_to (λ j. only (leb (level j) (level i)) (entry_at es j).wcet) (length es)

-- The test of the entry at i: from the initial time on, up to D.
unfoldable pub punctual_test : List Entry → (ℕ → ℕ) → ℕ → Completion
punctual_test es level i = test_from (punctual_demand es level i) (entry_at es i).deadline (punctual_initial_time es level i) 0

-- The bound on rounds: 1 plus the sum of ⌈ D of i / T ⌉ - 1 over all entries but i on its own and more urgent levels.
unfoldable pub punctual_bound : List Entry → (ℕ → ℕ) → ℕ → ℕ
punctual_bound es level i =
    1 + sum_to (λ j. only (leb (level j) (level i) && not (eqb j i)) (punctual_releases (entry_at es j) (entry_at es i).deadline - 1))
    (length es)
