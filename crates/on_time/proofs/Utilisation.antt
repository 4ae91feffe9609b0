-- The utilisation of the entries on higher levels, as a lower bound on the time at which a demand can be met.
use Prim.Native.Nat.{ℕ, zero, suc, ◌+◌, ◌-◌, ◌*◌, ◌/◌, ◌≤◌, ◌<◌, zero-le}
use mathlib.Core.Path.{◌≡◌, refl, sym}
use mathlib.Core.Logic.{by_cases}
use mathlib.Core.List.{List}
use native.Mathlib.Nat.{le_trans, zero-mul, add-mul, mul-add, mul_assoc, mul-le-mul_left, mul-le-mul_right, div-mul-le_self, div-lt_iff_lt-mul}
use native.Mathlib.Decide.{dec_le, dec_lt}
use native.Mathlib.Omega.{arith}
use lib.ListN.{length}
use borrow.Author.Tests.{lt-ltb, le-ltb}
use Rattle.task_model.specs.declared.Entry.{Entry}
use Rattle.task_model.specs.Limits.{entry_at, EntryHolds, AllHold}
use Rattle.completion.specs.Demand.{releases, sum_to, higher_level_interference, demand_with, initial_time_with}
use Rattle.completion.specs.Group.{group_level}
use Rattle.on_time.specs.Utilisation.{full_utilisation, utilisation, recurring_utilisation, recurring_wcet, recurring_jitter}
use Rattle.completion.proofs.Releases.{releases_more, higher_level_first, higher_level_up}
use Rattle.completion.proofs.Sums.{sum_to-none, sum_to-suc, sum_to-up, sum_to-le}
use Rattle.completion.proofs.Interference.{demand_some}
use Rattle.completion.proofs.Groups.{higher_level_in, wcet_in, named_group, initial_in, demand_once_lem}

-- t + J ticks are covered by the periods that begin in them
covered : (e : Entry) → 1 ≤ e.period → (t : ℕ) → t + e.jitter ≤ e.period * releases e t
covered e h t =
    by_cases (dec_le (t + e.jitter) (e.period * releases e t))
    (λ p. p)
    (λ p. absurd (omega (arith, releases_more e h t (releases e t) (omega arith))))

utilisation_part : (e : Entry) → EntryHolds e → (t : ℕ)
    → utilisation e * (t + e.jitter) ≤ full_utilisation * higher_level_interference e t
unfolding utilisation higher_level_interference
utilisation_part e h t =
    let q : ℕ = (full_utilisation * e.wcet) / e.period in
    let below : q * e.period ≤ full_utilisation * e.wcet = div-mul-le_self (full_utilisation * e.wcet) e.period in
    let most : q * (t + e.jitter) ≤ q * (e.period * releases e t) = mul-le-mul_left q (covered e (omega (arith, h.times)) t) in
    let runs : (q * e.period) * releases e t ≤ (full_utilisation * e.wcet) * releases e t = mul-le-mul_right (releases e t) below in
    omega (arith, sym (mul_assoc q e.period (releases e t)), mul_assoc full_utilisation e.wcet (releases e t))

-- no entry has a utilisation above 1, since C is at most T
pub utilisation_most : (e : Entry) → EntryHolds e → utilisation e ≤ full_utilisation
unfolding utilisation
utilisation_most e h =
    let below : (full_utilisation * e.wcet) / e.period < full_utilisation + 1 =
    (div-lt_iff_lt-mul {k = e.period} {x = full_utilisation * e.wcet} {y = full_utilisation + 1} (omega (arith, h.times))).1 (omega (arith, h.times)) in
    omega arith

-- what an entry adds to the sums of the code, by whether it is released again before the limit
module _ (d : ℕ) (e : Entry) where
  pub recurs : e.period < d + e.jitter
      → (recurring_utilisation d e ≡ utilisation e) × (recurring_wcet d e ≡ e.wcet) × (recurring_jitter d e ≡ utilisation e * e.jitter)
  unfolding recurring_utilisation recurring_wcet recurring_jitter
  recurs h = rw (lt-ltb e.period (d + e.jitter) h) (refl, refl, refl)

  pub recurs_not : d + e.jitter ≤ e.period → (recurring_utilisation d e ≡ 0) × (recurring_wcet d e ≡ 0) × (recurring_jitter d e ≡ 0)
  unfolding recurring_utilisation recurring_wcet recurring_jitter
  recurs_not h = rw (le-ltb e.period (d + e.jitter) h) (refl, refl, zero-mul e.jitter)

  pub run_most : recurring_wcet d e ≤ e.wcet
  run_most =
      by_cases (dec_lt e.period (d + e.jitter))
      (λ h. omega (arith, (recurs h).1))
      (λ h. omega (arith, (recurs_not (omega arith)).1))

  -- one job, or the utilisation times t + J, is no more than the interference
  recurring_runs : EntryHolds e → (t : ℕ) → 1 ≤ t
      → full_utilisation * e.wcet + recurring_jitter d e + recurring_utilisation d e * t
      ≤ full_utilisation * (higher_level_interference e t + recurring_wcet d e)
  recurring_runs ok t p =
      by_cases (dec_lt e.period (d + e.jitter))
      (λ h.
      let both : utilisation e * (t + e.jitter) ≡ utilisation e * t + utilisation e * e.jitter = mul-add (utilisation e) t e.jitter in
      rw ((recurs h).0, (recurs h).1, (recurs h).2) (omega (arith, utilisation_part e ok t)))
      (λ h.
      let no-utilisation = recurs_not (omega arith) in
      rw (no-utilisation.0, no-utilisation.1, no-utilisation.2, zero-mul t)
      (omega (arith, higher_level_first e ok, higher_level_up e ok 1 t p)))

abbrev pub utilisation_in : ℕ → List Entry → ℕ → ℕ
utilisation_in d es j = recurring_utilisation d (entry_at es j)

abbrev pub run_in : ℕ → List Entry → ℕ → ℕ
run_in d es j = recurring_wcet d (entry_at es j)

abbrev pub jitter_in : ℕ → List Entry → ℕ → ℕ
jitter_in d es j = recurring_jitter d (entry_at es j)

recurring_sum : (d : ℕ) (es : List Entry) (t n : ℕ) → 1 ≤ t → ((j : ℕ) → j < n → EntryHolds (entry_at es j))
    → full_utilisation * sum_to (wcet_in es) n + sum_to (jitter_in d es) n + sum_to (utilisation_in d es) n * t
    ≤ full_utilisation * (sum_to (higher_level_in es t) n + sum_to (run_in d es) n)
recurring_sum d es t zero p h =
    rw (sum_to-none (wcet_in es), sum_to-none (jitter_in d es), sum_to-none (utilisation_in d es), zero-mul t) zero-le
recurring_sum d es t (suc n) p h =
    let l = utilisation_in d es in
    let more : (sum_to l n + l n) * t ≡ sum_to l n * t + l n * t = add-mul (sum_to l n) (l n) t in
    rw (sum_to-suc l n)
    (omega (
      arith,
      sum_to-suc (wcet_in es) n,
      sum_to-suc (higher_level_in es t) n,
      sum_to-suc (run_in d es) n,
      sum_to-suc (jitter_in d es) n,
      recurring_sum d es t n p (λ j k. h j (omega arith)),
      recurring_runs d (entry_at es n) (h n (omega arith)) t p,
    ))

module _ (es : List Entry) (all : AllHold es) (first last i : ℕ) (hf : first ≤ i) (hi : i ≤ last) (hl : last < length es) where
  -- The jobs that the utilisation stands for are among those of the initial time.
  pub runs_within : (d : ℕ) → sum_to (run_in d es) first ≤ sum_to (wcet_in es) first
  runs_within d = sum_to-le (run_in d es) (wcet_in es) first (λ j k. run_most d (entry_at es j))

  -- The demand is at least the initial time without those jobs, plus the utilisation times t and times the jitters.
  pub demand_utilisation : (b d t : ℕ) → 1 ≤ t
      → full_utilisation * (initial_time_with b es (group_level first last) i - sum_to (run_in d es) first) + sum_to (jitter_in d es) first
      + sum_to (utilisation_in d es) first * t
      ≤ full_utilisation * demand_with b es (group_level first last) i t
  demand_utilisation b d t p =
      let g = named_group first last (length es) i hf hi in
      let least = demand_once_lem es first last i (group_level first last) g hf hi hl all b t p in
      let begin = initial_in es first last i (group_level first last) g hf hi hl b in
      omega (
        arith,
        sum_to-up (wcet_in es) first (last + 1) (omega arith),
        runs_within d,
        recurring_sum d es t first p (λ j k. all j (omega arith)),
      )

  -- If the demand is at most t, the jobs that run once, and the jitters, fit into what the utilisation leaves free of t.
  pub fits_by_utilisation : (b d t : ℕ) → demand_with b es (group_level first last) i t ≤ t
      → full_utilisation * (initial_time_with b es (group_level first last) i - sum_to (run_in d es) first) + sum_to (jitter_in d es) first
      ≤ (full_utilisation - sum_to (utilisation_in d es) first) * t
  fits_by_utilisation b d t w =
      let u = sum_to (utilisation_in d es) first in
      let some : 1 ≤ t = le_trans (demand_some es all (group_level first last) i (omega arith) b t) w in
      let both : ((full_utilisation - u) + u) * t ≡ (full_utilisation - u) * t + u * t = add-mul (full_utilisation - u) u t in
      let whole : full_utilisation * t ≤ ((full_utilisation - u) + u) * t = mul-le-mul_right t (omega arith) in
      omega (arith, demand_utilisation b d t some)
