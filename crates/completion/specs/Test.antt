-- The completion time test (Sha and Sathaye, "Distributed System Design Using Generalized Rate Monotonic Theory",
-- CMU/SEI-95-TR-011, 1995, section 3.1; docs/SPEC.md, 'The completion time test').
use Rattle.std.specs.Prelude.{ℕ, zero, suc, ◌+◌, ◌-◌, Bool, true, false, ◌&&◌, not, List, length, leb, eqb}
use Rattle.task_model.specs.declared.Entry.{Entry}
use Rattle.task_model.specs.Limits.{entry_at}
use Rattle.completion.specs.declared.Timing.{Timing}
use Rattle.completion.specs.declared.Timing.TheVariants.{OnTime, Late}
use Rattle.completion.specs.Demand.{releases, sum_to, only, demand_with, initial_time_with}

-- The answer for an entry: on time, with its completion time and the rounds, or late, with the rounds and the overrun.
-- Rounds is the number of times that the demand was evaluated; finding the overrun counts as none.
pub data Completion : Type 0 where
  on_time : (time rounds : ℕ) → Completion
  late : (rounds overrun : ℕ) → Completion

-- What the code's answer says.
abbrev pub completion : Timing → Completion
completion (OnTime time rounds) = on_time time rounds
completion (Late rounds overrun) = late rounds overrun

-- The limit of an entry: the last completion time with which it is on time. Its job may start J ticks late, so this is
-- D - J.
unfoldable pub limit : Entry → ℕ
limit e = e.deadline - e.jitter

-- The overrun of a late entry: its demand w at its limit d, less the limit.
unfoldable pub overrun : (ℕ → ℕ) → ℕ → ℕ
overrun w d = w d - d

-- While t is at most the limit d, evaluate the demand w at t. If w t equals t, t is the completion time; otherwise w t
-- becomes the next t. `rounds` counts the evaluations so far, and at most `fuel` more are made.
unfoldable pub iterate : (ℕ → ℕ) → ℕ → ℕ → ℕ → ℕ → Completion
iterate w d zero t rounds = late rounds (overrun w d)
iterate w d (suc fuel) t rounds =
    elim (leb t d) [
      | false ↦ late rounds (overrun w d)
      | true ↦ elim (eqb (w t) t) [
        | true ↦ on_time t (rounds + 1)
        | false ↦ iterate w d fuel (w t) (rounds + 1)
      ]
    ]

-- The test from t on. Every evaluation but the last raises t, so d + 1 - t evaluations are enough.
unfoldable pub test_from : (ℕ → ℕ) → ℕ → ℕ → ℕ → Completion
test_from w d t rounds = iterate w d (d + 1 - t) t rounds

-- The test of the entry at i, with a blocking of b ticks.
unfoldable pub test_with : ℕ → List Entry → (ℕ → ℕ) → ℕ → Completion
test_with b es level i = test_from (demand_with b es level i) (limit (entry_at es i)) (initial_time_with b es level i) 0

-- The completion time test of the entry at i, with its own B.
abbrev pub completion_test : List Entry → (ℕ → ℕ) → ℕ → Completion
completion_test es level i = test_with (entry_at es i).blocking es level i

-- The entry ends by its deadline.
abbrev pub is_on_time : Completion → Bool
is_on_time (on_time time rounds) = true
is_on_time (late rounds overrun) = false

-- The rounds, on time or late.
abbrev pub rounds_in : Completion → ℕ
rounds_in (on_time time rounds) = rounds
rounds_in (late rounds overrun) = rounds

-- The overrun of a late entry; 0 if the entry is on time.
abbrev pub overrun_in : Completion → ℕ
overrun_in (on_time time rounds) = 0
overrun_in (late rounds overrun) = overrun

-- The completion time of an entry that is on time; 0 if the entry is late. No completion time is 0.
abbrev pub time_in : Completion → ℕ
time_in (on_time time rounds) = time
time_in (late rounds overrun) = 0

-- The bound on rounds: 1 plus the sum of ⌈ (D of i + J) / T ⌉ - 1 over all entries but i on its own and more urgent levels.
unfoldable pub rounds_bound : List Entry → (ℕ → ℕ) → ℕ → ℕ
rounds_bound es level i =
    1 + sum_to (λ j. only (leb (level j) (level i) && not (eqb j i)) (releases (entry_at es j) (entry_at es i).deadline - 1)) (length es)
