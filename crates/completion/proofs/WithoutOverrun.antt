-- The test's answer is the one that it was before late answers had an overrun, with the overrun added. So times, rounds and
-- verdicts are those of before.
use Prim.Native.Nat.{ℕ, zero, suc, ◌+◌, ◌-◌}
use mathlib.Core.Path.{◌≡◌, refl}
use mathlib.Core.Bool.{Bool, true, false}
use mathlib.Core.List.{List}
use lib.Dec.{leb, eqb}
use Rattle.task_model.specs.declared.Entry.{Entry}
use Rattle.task_model.specs.Limits.{entry_at}
use Rattle.completion.specs.Demand.{demand_with, initial_time_with}
use Rattle.completion.specs.Test.{Completion, on_time, late, limit, overrun, iterate, test_from, test_with, is_on_time}
use Rattle.completion.specs.WithoutJitter.{punctual_demand, punctual_initial_time, punctual_test}
use Rattle.completion.specs.WithoutOverrun.{BareCompletion, bare_on_time, bare_late, bare_iterate, bare_test_from, bare_test, bare_punctual_test, with_overrun}

-- one round, whatever its two comparisons say
round_bare : (x t rounds : ℕ) (within fixed : Bool) (o : Completion) (u : BareCompletion) → o ≡ with_overrun x u
    → elim within [
      | false ↦ late rounds x
      | true ↦ elim fixed [ true ↦ on_time t (rounds + 1) | false ↦ o ]
    ]
    ≡ with_overrun x (elim within [
      | false ↦ bare_late rounds
      | true ↦ elim fixed [ true ↦ bare_on_time t (rounds + 1) | false ↦ u ]
    ])
round_bare x t rounds false fixed o u e = refl
round_bare x t rounds true true o u e = refl
round_bare x t rounds true false o u e = e

iterate_bare : (w : ℕ → ℕ) (d fuel t rounds : ℕ)
    → iterate w d fuel t rounds ≡ with_overrun (overrun w d) (bare_iterate w d fuel t rounds)
unfolding iterate bare_iterate
iterate_bare w d zero t rounds = refl
iterate_bare w d (suc fuel) t rounds =
    round_bare (overrun w d) t rounds (leb t d) (eqb (w t) t) _ _ (iterate_bare w d fuel (w t) (rounds + 1))

test_from_bare : (w : ℕ → ℕ) (d t rounds : ℕ)
    → test_from w d t rounds ≡ with_overrun (overrun w d) (bare_test_from w d t rounds)
unfolding test_from bare_test_from
test_from_bare w d t rounds = iterate_bare w d (d + 1 - t) t rounds

module _ (b : ℕ) (es : List Entry) (level : ℕ → ℕ) (i : ℕ) where
  pub test_bare : test_with b es level i
      ≡ with_overrun (overrun (demand_with b es level i) (limit (entry_at es i))) (bare_test b es level i)
  unfolding test_with bare_test
  test_bare = test_from_bare (demand_with b es level i) (limit (entry_at es i)) (initial_time_with b es level i) 0

-- The same for the test without J.
module _ (es : List Entry) (level : ℕ → ℕ) (i : ℕ) where
  pub punctual_bare : punctual_test es level i
      ≡ with_overrun (overrun (punctual_demand es level i) (entry_at es i).deadline) (bare_punctual_test es level i)
  unfolding punctual_test bare_punctual_test
  punctual_bare = test_from_bare (punctual_demand es level i) (entry_at es i).deadline (punctual_initial_time es level i) 0

-- Whatever the overrun, the verdict is the same.
pub verdict_bare : (x y : ℕ) (u : BareCompletion) → is_on_time (with_overrun x u) ≡ is_on_time (with_overrun y u)
verdict_bare x y (bare_on_time time rounds) = refl
verdict_bare x y (bare_late rounds) = refl
