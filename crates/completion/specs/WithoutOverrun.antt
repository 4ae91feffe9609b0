-- The tests, with J and without, as they were before a late answer had its overrun (docs/SPEC.md, 'By how much an entry is
-- late'). The theorems of proofs/WithoutOverrun say that their answers are these, with the overrun added where they are late.
use Rattle.std.specs.Prelude.{ℕ, zero, suc, ◌+◌, ◌-◌, true, false, List, leb, eqb}
use Rattle.task_model.specs.declared.Entry.{Entry}
use Rattle.task_model.specs.Limits.{entry_at}
use Rattle.completion.specs.Demand.{demand_with, initial_time_with}
use Rattle.completion.specs.Test.{Completion, on_time, late, limit}
use Rattle.completion.specs.WithoutJitter.{punctual_demand, punctual_initial_time}

-- The answer for an entry: on time, with its completion time and the rounds, or late, with the rounds alone.
pub data BareCompletion : Type 0 where
  bare_on_time : (time rounds : ℕ) → BareCompletion
  bare_late : (rounds : ℕ) → BareCompletion

-- While t is at most the limit d, evaluate the demand w at t. If w t equals t, t is the completion time; otherwise w t
-- becomes the next t. `rounds` counts the evaluations so far, and at most `fuel` more are made.
unfoldable pub bare_iterate : (ℕ → ℕ) → ℕ → ℕ → ℕ → ℕ → BareCompletion
bare_iterate w d zero t rounds = bare_late rounds
bare_iterate w d (suc fuel) t rounds =
    elim (leb t d) [
      | false ↦ bare_late rounds
      | true ↦ elim (eqb (w t) t) [
        | true ↦ bare_on_time t (rounds + 1)
        | false ↦ bare_iterate w d fuel (w t) (rounds + 1)
      ]
    ]

-- The test from t on. Every evaluation but the last raises t, so d + 1 - t evaluations are enough.
unfoldable pub bare_test_from : (ℕ → ℕ) → ℕ → ℕ → ℕ → BareCompletion
bare_test_from w d t rounds = bare_iterate w d (d + 1 - t) t rounds

-- The test of the entry at i, with a blocking of b ticks.
unfoldable pub bare_test : ℕ → List Entry → (ℕ → ℕ) → ℕ → BareCompletion
bare_test b es level i = bare_test_from (demand_with b es level i) (limit (entry_at es i)) (initial_time_with b es level i) 0

-- The test of the entry at i without J: from the initial time on, up to D.
unfoldable pub bare_punctual_test : List Entry → (ℕ → ℕ) → ℕ → BareCompletion
bare_punctual_test es level i = bare_test_from (punctual_demand es level i) (entry_at es i).deadline (punctual_initial_time es level i) 0

-- The answer with an overrun of x, if it is late.
abbrev pub with_overrun : ℕ → BareCompletion → Completion
with_overrun x (bare_on_time time rounds) = on_time time rounds
with_overrun x (bare_late rounds) = late rounds x

-- The completion time test of before, with its own B, whose late answers have the overrun x.
abbrev pub bare_with : (List Entry → (ℕ → ℕ) → ℕ → ℕ) → List Entry → (ℕ → ℕ) → ℕ → Completion
bare_with x es level i = with_overrun (x es level i) (bare_test (entry_at es i).blocking es level i)
