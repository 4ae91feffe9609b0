-- The ceiling, the releases in an interval, and the interference of one entry.
use Prim.Native.Nat.{ℕ, ◌+◌, ◌-◌, ◌*◌, ◌/◌, ◌≤◌, ◌<◌, min}
use mathlib.Core.Path.{◌≡◌}
use native.Mathlib.Nat.{zero-add, mul-zero, le_trans, le_antisymm, le-div_iff_mul-le, div-lt_iff_lt-mul, div-mul-le_self, mul-div-le, mul-one, one-mul, add-mul, mul_comm, mul-le-mul_left, mul-le-mul_right, min-le_left, min-eq_right}
use native.Mathlib.Omega.{arith}
use Rattle.task_model.specs.declared.Entry.{Entry}
use Rattle.task_model.specs.Limits.{most_ticks, EntryHolds}
use Rattle.completion.proofs.Bounds.{most_interference}
use Rattle.completion.specs.Demand.{ceil_div, releases, higher_level_interference, same_level_interference}

-- more than k periods begin in t ticks exactly if k periods are shorter than t + J
module _ (e : Entry) (h : 1 ≤ e.period) where
  pub releases_more : (t k : ℕ) → e.period * k < t + e.jitter → k + 1 ≤ releases e t
  unfolding releases ceil_div
  releases_more t k l =
      (le-div_iff_mul-le h).1 (omega (arith, add-mul k 1 e.period, mul_comm k e.period, one-mul e.period))

  pub releases_few : (t k : ℕ) → t + e.jitter ≤ e.period * k → releases e t ≤ k
  unfolding releases ceil_div
  releases_few t k l =
      let below : (t + e.jitter + (e.period - 1)) / e.period < k + 1 =
      (div-lt_iff_lt-mul h).1 (omega (arith, add-mul k 1 e.period, mul_comm k e.period, one-mul e.period)) in
      omega arith

  pub releases_up : (s t : ℕ) → s ≤ t → releases e s ≤ releases e t
  unfolding releases ceil_div
  releases_up s t l = (le-div_iff_mul-le h).1 (le_trans (div-mul-le_self (s + e.jitter + (e.period - 1)) e.period) (omega arith))

  pub releases_some : (t : ℕ) → 1 ≤ t → 1 ≤ releases e t
  releases_some t p = rw zero-add at (releases_more t 0 (omega (arith, mul-zero e.period)))

  -- in the first period there is one
  pub releases_one : (t : ℕ) → 1 ≤ t → t + e.jitter ≤ e.period → releases e t ≡ 1
  releases_one t p l =
      le_antisymm (releases_few t 1 (omega (arith, mul-one e.period))) (releases_some t p)

-- what an entry runs in t ticks
module _ (e : Entry) (h : EntryHolds e) where
  periodic : 1 ≤ e.period
  periodic = omega (arith, h.times)

  -- the first tick ends in the first period, however late the job starts
  in_first : 1 + e.jitter ≤ e.period
  in_first = omega (arith, h.times, h.jitter)

  pub higher_level_up : (s t : ℕ) → s ≤ t → higher_level_interference e s ≤ higher_level_interference e t
  unfolding higher_level_interference
  higher_level_up s t l = mul-le-mul_left e.wcet (releases_up e periodic s t l)

  pub same_level_up : (calls s t : ℕ) → s ≤ t → same_level_interference e calls s ≤ same_level_interference e calls t
  unfolding same_level_interference
  same_level_up calls s t l = mul-le-mul_left e.wcet (omega (arith, releases_up e periodic s t l))

  -- in the first tick, one run
  pub higher_level_first : higher_level_interference e 1 ≡ e.wcet
  unfolding higher_level_interference
  higher_level_first = rw (releases_one e periodic 1 (omega arith) in_first) (mul-one e.wcet)

  pub same_level_first : (calls : ℕ) → same_level_interference e calls 1 ≡ e.wcet
  unfolding same_level_interference
  same_level_first calls =
      let m : min (releases e 1) (calls + 1) ≡ 1 = omega (arith, releases_one e periodic 1 (omega arith) in_first) in
      rw m (mul-one e.wcet)

  -- from the first tick on at least one run, and no more for an entry with no calls
  pub same_level_some : (calls t : ℕ) → 1 ≤ t → e.wcet ≤ same_level_interference e calls t
  same_level_some calls t p = omega (arith, same_level_first calls, same_level_up calls 1 t p)

  pub same_level_once : (calls t : ℕ) → calls ≡ 0 → same_level_interference e calls t ≤ e.wcet
  unfolding same_level_interference
  same_level_once calls t z =
      let m : min (releases e t) (calls + 1) ≤ 1 = omega arith in
      rw mul-one at (mul-le-mul_left e.wcet m)

  -- at most t + J + T, since C is at most T
  pub higher_level_most : (t : ℕ) → t ≤ most_ticks → higher_level_interference e t ≤ most_interference
  unfolding higher_level_interference releases ceil_div
  higher_level_most t l =
      let q : ℕ = (t + e.jitter + (e.period - 1)) / e.period in
      let top : e.period * q ≤ t + e.jitter + (e.period - 1) = mul-div-le (t + e.jitter + (e.period - 1)) e.period in
      let less : e.wcet * q ≤ e.period * q = mul-le-mul_right q (le_trans h.times.due h.times.periodic) in
      omega (arith, h.times, h.jitter)

  pub same_level_most : (calls t : ℕ) → same_level_interference e calls t ≤ higher_level_interference e t
  unfolding same_level_interference higher_level_interference
  same_level_most calls t = mul-le-mul_left e.wcet (min-le_left (releases e t) (calls + 1))

  -- past `calls` periods the count of runs on the own level is at its limit, and up to there it is that of releases
  pub same_level_limit : (calls t : ℕ) → e.period * calls < t + e.jitter → same_level_interference e calls t ≡ e.wcet * (calls + 1)
  unfolding same_level_interference
  same_level_limit calls t l = rw (min-eq_right (releases_more e periodic t calls l))

  pub same_level_all : (calls t : ℕ) → t + e.jitter ≤ e.period * calls → same_level_interference e calls t ≡ higher_level_interference e t
  unfolding same_level_interference higher_level_interference
  same_level_all calls t l =
      let m : min (releases e t) (calls + 1) ≡ releases e t = omega (arith, releases_few e periodic t calls l) in
      rw m
