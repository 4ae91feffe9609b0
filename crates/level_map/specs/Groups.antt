-- When a group passes, and where it can start: what the search computes. No promise of an entry for users mentions it.
use Rattle.std.specs.Prelude.{ℕ, ◌+◌, ◌-◌, ◌≤◌, ◌<◌, ◌≡◌, Bool, true, List, Option, Some, None}
use Rattle.task_model.specs.declared.Entry.{Entry}
use Rattle.task_model.specs.Limits.{entry_at}
use Rattle.completion.specs.Group.{group_level}
use Rattle.completion.specs.Test.{test_with, is_on_time}

-- What the end of a group adds to the blocking of its entries: nothing, since blocking times are given.
abbrev pub added : ℕ → ℕ
added end = 0

-- The entry at i is on time in the group from `first` to just before `end`, if the end of the group adds `more` ticks to
-- its blocking.
abbrev pub on_time_in : List Entry → ℕ → ℕ → ℕ → ℕ → Bool
on_time_in es more i first end = is_on_time (test_with ((entry_at es i).blocking + more) es (group_level first (end - 1)) i)

-- The group from `first` to just before `end` passes: none of its entries is late.
abbrev pub GroupPasses : List Entry → ℕ → ℕ → ℕ → Type 0
GroupPasses es more end first = (i : ℕ) → first ≤ i → i < end → on_time_in es more i first end ≡ true

-- The least start of a passing group that ends just before `end`, or that there is none.
abbrev pub LeastStart : (ℕ → Type 0) → ℕ → Option ℕ → Type 0
LeastStart Passes end (Some start) = (start < end) × Passes start × ((b : ℕ) → b < start → Passes b → ⊥)
LeastStart Passes end None = (b : ℕ) → b < end → Passes b → ⊥
