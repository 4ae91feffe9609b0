-- Demands are equal if everything that they read is equal.
use Prim.Native.Nat.{ℕ, ◌+◌, ◌≤◌, ◌<◌}
use mathlib.Core.Path.{◌≡◌, ◌∙◌, ap, ap₂, sym}
use mathlib.Core.Bool.{◌&&◌, ◌||◌, not}
use mathlib.Core.List.{List}
use native.Mathlib.Omega.{arith}
use lib.ListN.{length}
use lib.Dec.{ltb, eqb}
use Rattle.task_model.specs.declared.Entry.{Entry}
use Rattle.task_model.specs.Limits.{entry_at}
use Rattle.completion.specs.Demand.{releases, sum_to, only, higher_level_interference, same_level_interference, demand_with, initial_time_with}
use Rattle.completion.specs.Test.{limit, test_with}
use Rattle.completion.proofs.Sums.{sum_to-eq}
use Rattle.completion.proofs.Iteration.{test_same}
use Rattle.completion.proofs.Interference.{leb_or}
use Rattle.completion.proofs.Groups.{higher_level_in, same_level_in, demand_in}

pub test_alike : (b b' : ℕ) (es es' : List Entry) (lv lv' : ℕ → ℕ) (i : ℕ) → limit (entry_at es i) ≡ limit (entry_at es' i)
    → initial_time_with b es lv i ≡ initial_time_with b' es' lv' i → ((t : ℕ) → demand_with b es lv i t ≡ demand_with b' es' lv' i t)
    → test_with b es lv i ≡ test_with b' es' lv' i
unfolding test_with
test_alike b b' es es' lv lv' i d s w =
    rw (d, s) (test_same (demand_with b es lv i) (demand_with b' es' lv' i) w (limit (entry_at es' i)) (initial_time_with b' es' lv' i) 0)

-- levels that compare alike with the timed entry's
module _ (b : ℕ) (es : List Entry) (lv lv' : ℕ → ℕ) (i : ℕ)
    (h : (j : ℕ) → j < length es → (ltb (lv j) (lv i) ≡ ltb (lv' j) (lv' i)) × (eqb (lv j) (lv i) ≡ eqb (lv' j) (lv' i))) where
  pub demand_alike : (t : ℕ) → demand_with b es lv i t ≡ demand_with b es lv' i t
  unfolding demand_with
  demand_alike t =
      ap₂ (λ x y. (entry_at es i).wcet + b + x + y)
      (sum_to-eq _ _ (length es) (λ j l. ap (λ c. only c (higher_level_interference (entry_at es j) t)) (h j l).0))
      (sum_to-eq _ _ (length es)
      (λ j l. ap (λ c. only (c && not (eqb j i)) (same_level_interference (entry_at es j) (entry_at es i).calls t)) (h j l).1))

  pub initial_alike : initial_time_with b es lv i ≡ initial_time_with b es lv' i
  unfolding initial_time_with
  initial_alike =
      ap (λ x. b + x)
      (sum_to-eq _ _ (length es)
      (λ j l.
      ap (λ c. only c (entry_at es j).wcet) (leb_or (lv j) (lv i) ∙ ap₂ ◌||◌ (h j l).0 (h j l).1 ∙ sym (leb_or (lv' j) (lv' i)))))

-- nodes that agree in C, T and J up to the group's last entry, and in the timed entry's blocking and r
module _ (es es' : List Entry) (first last i : ℕ) (hf : first ≤ i) (hi : i ≤ last)
    (ct : (j : ℕ) → j ≤ last
    → ((entry_at es j).wcet ≡ (entry_at es' j).wcet) × ((entry_at es j).period ≡ (entry_at es' j).period) × ((entry_at es j).jitter ≡ (entry_at es' j).jitter))
    (r : (entry_at es i).calls ≡ (entry_at es' i).calls) where
  higher_level_same : (t j : ℕ) → j ≤ last → higher_level_in es t j ≡ higher_level_in es' t j
  unfolding higher_level_interference releases
  higher_level_same t j l = rw ((ct j l).0, (ct j l).1, (ct j l).2)

  same_level_same : (t j : ℕ) → j ≤ last → same_level_in es i t j ≡ same_level_in es' i t j
  unfolding same_level_interference releases
  same_level_same t j l = rw ((ct j l).0, (ct j l).1, (ct j l).2, r)

  pub demand_in_same : (b t : ℕ) → demand_in b es first last i t ≡ demand_in b es' first last i t
  demand_in_same b t =
      let u = sum_to-eq (higher_level_in es t) (higher_level_in es' t) first (λ j l. higher_level_same t j (omega arith)) in
      let s : (m : ℕ) → m ≤ last + 1 → sum_to (same_level_in es i t) m ≡ sum_to (same_level_in es' i t) m =
      λ m k. sum_to-eq (same_level_in es i t) (same_level_in es' i t) m (λ j l. same_level_same t j (omega arith)) in
      rw (
        (ct i hi).0,
        u,
        s i (omega arith),
        s first (omega arith),
        s (last + 1) (omega arith),
        s (i + 1) (omega arith),
      )
