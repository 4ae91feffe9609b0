-- Bounds on the sums in the code, from the limits of an entry and of a node; and bounds on `limit`.
use Prim.Native.Nat.{ℕ, ◌+◌, ◌*◌, ◌≤◌}
use native.Mathlib.Omega.{arith}
use Rattle.task_model.specs.declared.Entry.{Entry}
use Rattle.task_model.specs.Limits.{most_ticks, most_entries, EntryHolds}
use Rattle.completion.specs.Test.{limit}

-- What one entry runs in up to `most_ticks` ticks, at most: t + J + T, since C is at most T.
abbrev pub most_interference : ℕ
most_interference = most_ticks + most_ticks + most_ticks

-- What all entries of a node run in that time, and one run of each.
abbrev pub most_interferences : ℕ
most_interferences = most_interference * most_entries

abbrev pub most_runs : ℕ
most_runs = most_ticks * most_entries

module _ (e : Entry) (h : EntryHolds e) where
  pub limit_most : limit e ≤ most_ticks
  unfolding limit
  limit_most = omega (arith, h.times)

  pub limit_run : e.wcet ≤ limit e
  unfolding limit
  limit_run = omega (arith, h.times, h.jitter)

  pub limit_due : limit e ≤ e.deadline
  unfolding limit
  limit_due = omega arith
