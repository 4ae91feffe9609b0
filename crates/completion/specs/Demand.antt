-- The demand of an entry (Bethmangalkar, "Schedulability Analysis in Static Real-Time Systems", 1999, equation 4.2),
-- with the ceiling in both terms (docs/SPEC.md, 'The demand'). `es` are the entries of a node, `level j` is the level of
-- the entry at position j, and level 1 is the most urgent.
use Rattle.std.specs.Prelude.{ℕ, zero, suc, ◌+◌, ◌-◌, ◌*◌, ◌/◌, min, Bool, true, false, ◌&&◌, not, List, length, ltb, leb, eqb}
use Rattle.task_model.specs.declared.Entry.{Entry}
use Rattle.task_model.specs.Limits.{entry_at}

-- ⌈ a / b ⌉, for b at least 1.
unfoldable pub ceil_div : ℕ → ℕ → ℕ
ceil_div a b = (a + (b - 1)) / b

-- How often an entry is released in `t` ticks, at most: ⌈ (t + J) / T ⌉. A job that starts J late has less time until the
-- next job.
unfoldable pub releases : Entry → ℕ → ℕ
releases e t = ceil_div (t + e.jitter) e.period

-- f 0 + f 1 + .. + f (n - 1).
unfoldable pub sum_to : (ℕ → ℕ) → ℕ → ℕ
sum_to f zero = 0
sum_to f (suc n) = sum_to f n + f n

-- x if the test holds, and else 0.
abbrev pub only : Bool → ℕ → ℕ
only true x = x
only false x = 0

-- The entry at j is on a more urgent level than the entry at i.
abbrev pub more_urgent : (ℕ → ℕ) → ℕ → ℕ → Bool
more_urgent level i j = ltb (level j) (level i)

-- The entry at j is another entry on the level of the entry at i.
abbrev pub shares_level : (ℕ → ℕ) → ℕ → ℕ → Bool
shares_level level i j = eqb (level j) (level i) && not (eqb j i)

-- The interference of an entry on a more urgent level in `t` ticks: C × ⌈ (t + J) / T ⌉.
unfoldable pub higher_level_interference : Entry → ℕ → ℕ
higher_level_interference e t = e.wcet * releases e t

-- The interference of another entry on the same level in `t` ticks, for an entry with `calls` remote calls (r):
-- C × min(⌈ (t + J) / T ⌉, r + 1).
unfoldable pub same_level_interference : Entry → ℕ → ℕ → ℕ
same_level_interference e calls t = e.wcet * min (releases e t) (calls + 1)

-- The demand of the entry at i at time t, with a blocking of b ticks: its own C, plus b, plus the interference of the
-- entries on more urgent levels, plus that of the other entries on its own level.
unfoldable pub demand_with : ℕ → List Entry → (ℕ → ℕ) → ℕ → ℕ → ℕ
demand_with b es level i t =
    (entry_at es i).wcet + b
    + sum_to (λ j. only (more_urgent level i j) (higher_level_interference (entry_at es j) t)) (length es)
    + sum_to (λ j. only (shares_level level i j) (same_level_interference (entry_at es j) (entry_at es i).calls t)) (length es)

-- The demand: the same with the entry's own B.
abbrev pub demand : List Entry → (ℕ → ℕ) → ℕ → ℕ → ℕ
demand es level i t = demand_with (entry_at es i).blocking es level i t

-- The initial time t0 of the test: b plus the C of every entry on its own and more urgent levels, itself included.
unfoldable pub initial_time_with : ℕ → List Entry → (ℕ → ℕ) → ℕ → ℕ
initial_time_with b es level i = b + sum_to (λ j. only (leb (level j) (level i)) (entry_at es j).wcet) (length es)

-- The same with the entry's own B.
abbrev pub initial_time : List Entry → (ℕ → ℕ) → ℕ → ℕ
initial_time es level i = initial_time_with (entry_at es i).blocking es level i
