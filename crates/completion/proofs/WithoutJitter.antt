-- For entries whose J is 0, the demand, the test and the bound on rounds are those without J.
use Prim.Native.Nat.{ℕ, zero, suc, ◌+◌, ◌-◌, ◌*◌, min}
use mathlib.Core.Path.{◌≡◌, refl, ap, ap₂}
use mathlib.Core.Bool.{◌&&◌, not}
use mathlib.Core.List.{List, [], ◌∷◌}
use native.Mathlib.Nat.{add-zero, sub-zero}
use native.Mathlib.Omega.{arith}
use lib.ListN.{length}
use lib.Dec.{leb, eqb}
use Rattle.task_model.specs.declared.Entry.{Entry}
use Rattle.task_model.specs.Limits.{entry_at}
use Rattle.task_model.specs.WithoutJitter.{Punctual}
use Rattle.completion.specs.Demand.{releases, only, more_urgent, shares_level, higher_level_interference, same_level_interference, demand_with, demand, initial_time_with, initial_time}
use Rattle.completion.specs.Test.{limit, test_with, completion_test, rounds_bound}
use Rattle.completion.specs.WithoutJitter.{punctual_releases, punctual_demand, punctual_initial_time, punctual_test, punctual_bound}
use Rattle.completion.proofs.Sums.{sum_to-eq}
use Rattle.completion.proofs.Iteration.{test_same}

releases_punctual : (e : Entry) → e.jitter ≡ 0 → (t : ℕ) → releases e t ≡ punctual_releases e t
unfolding releases punctual_releases
releases_punctual e z t = rw (z, add-zero t)

limit_punctual : (e : Entry) → e.jitter ≡ 0 → limit e ≡ e.deadline
unfolding limit
limit_punctual e z = rw (z, sub-zero e.deadline)

-- an entry beyond the list has no jitter either
each_punctual : (es : List Entry) → Punctual es → (j : ℕ) → (entry_at es j).jitter ≡ 0
each_punctual [] h j = refl
each_punctual (e ∷ es) h zero = h 0 (omega arith)
each_punctual (e ∷ es) h (suc j) = each_punctual es (λ k l. h (suc k) (omega arith)) j

module _ (es : List Entry) (punctual : Punctual es) (level : ℕ → ℕ) (i : ℕ) where
  -- The demand is that without J.
  pub demand_punctual : (t : ℕ) → demand es level i t ≡ punctual_demand es level i t
  unfolding demand_with punctual_demand higher_level_interference same_level_interference
  demand_punctual t =
      ap₂ (λ x y. (entry_at es i).wcet + (entry_at es i).blocking + x + y)
      (sum_to-eq _ _ (length es)
      (λ j l. ap (λ n. only (more_urgent level i j) ((entry_at es j).wcet * n)) (releases_punctual (entry_at es j) (punctual j l) t)))
      (sum_to-eq _ _ (length es)
      (λ j l.
      ap (λ n. only (shares_level level i j) ((entry_at es j).wcet * min n ((entry_at es i).calls + 1)))
      (releases_punctual (entry_at es j) (punctual j l) t)))

  -- The initial time is that without J, and would be with any J.
  pub start_punctual : initial_time es level i ≡ punctual_initial_time es level i
  unfolding initial_time_with punctual_initial_time
  start_punctual = refl

  -- The test is that without J: its time, and its rounds.
  pub test_punctual : completion_test es level i ≡ punctual_test es level i
  unfolding test_with punctual_test initial_time_with punctual_initial_time
  test_punctual =
      rw (limit_punctual (entry_at es i) (each_punctual es punctual i)) (test_same _ _ demand_punctual (entry_at es i).deadline _ 0)

  -- The bound on rounds is that without J.
  pub bound_punctual : rounds_bound es level i ≡ punctual_bound es level i
  unfolding rounds_bound punctual_bound
  bound_punctual =
      ap (λ x. 1 + x)
      (sum_to-eq _ _ (length es)
      (λ j l.
      ap (λ n. only (leb (level j) (level i) && not (eqb j i)) (n - 1)) (releases_punctual (entry_at es j) (punctual j l) (entry_at es i).deadline)))
