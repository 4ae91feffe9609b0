-- When an answer of the test is right, stated by the demand alone.
use Rattle.std.specs.Prelude.{ℕ, ◌+◌, ◌≤◌, ◌≡◌, false, ◌↔◌, List}
use Rattle.task_model.specs.declared.Entry.{Entry}
use Rattle.task_model.specs.Limits.{entry_at}
use Rattle.completion.specs.Demand.{demand_with}
use Rattle.completion.specs.Test.{Completion, on_time, late, limit, is_on_time, rounds_in, rounds_bound}

-- `time` is the least t whose demand, with the blocking b, is at most t. It is at least 1 and at most the entry's limit,
-- which is D - J. The demand at `time` equals `time`.
pub record LeastTime (b : ℕ) (es : List Entry) (level : ℕ → ℕ) (i time : ℕ) : Type 0 where
  pub some : 1 ≤ time
  pub due : time ≤ limit (entry_at es i)
  pub equal : demand_with b es level i time ≡ time
  pub first : (t : ℕ) → demand_with b es level i t ≤ t → time ≤ t

-- No t up to the limit has a demand of at most t.
abbrev pub NoTime : ℕ → List Entry → (ℕ → ℕ) → ℕ → Type 0
NoTime b es level i = (t : ℕ) → t ≤ limit (entry_at es i) → demand_with b es level i t ≤ t → ⊥

-- The entry is late by `over`, which is at least 1: its demand at its limit is the limit plus `over`. No time before that has
-- a demand of at most that time, so its D would have to be longer by `over` or more.
pub record LateBy (b : ℕ) (es : List Entry) (level : ℕ → ℕ) (i over : ℕ) : Type 0 where
  pub some : 1 ≤ over
  pub beyond : demand_with b es level i (limit (entry_at es i)) ≡ limit (entry_at es i) + over
  pub least : (t : ℕ) → demand_with b es level i t ≤ t → limit (entry_at es i) + over ≤ t

-- An answer for the entry at i, with the blocking b, is right. If the answer is on time, its time is the least as above.
-- The answer is late exactly if there is no such time up to the limit, and then its overrun is as above. Its rounds are
-- within their bound.
pub record RightWith (b : ℕ) (es : List Entry) (level : ℕ → ℕ) (i : ℕ) (o : Completion) : Type 0 where
  pub least : (time rounds : ℕ) → o ≡ on_time time rounds → LeastTime b es level i time
  pub late_if_none : is_on_time o ≡ false ↔ NoTime b es level i
  pub late_by : (rounds overrun : ℕ) → o ≡ late rounds overrun → LateBy b es level i overrun
  pub bounded : rounds_in o ≤ rounds_bound es level i

-- The same with the entry's own B.
abbrev pub RightTiming : List Entry → (ℕ → ℕ) → ℕ → Completion → Type 0
RightTiming es level i o = RightWith (entry_at es i).blocking es level i o
