-- The utilisation of the entries on higher levels. It gives a lower bound on a completion time and so saves rounds; no
-- promise of an entry for users mentions it.
use Rattle.std.specs.Prelude.{ℕ, ◌+◌, ◌-◌, ◌*◌, ◌/◌, ◌≤◌, List, ltb}
use Rattle.task_model.specs.declared.Entry.{Entry}
use Rattle.node_words.specs.Words.{entry_of}
use Rattle.completion.specs.Demand.{only, sum_to}

-- A utilisation of 1, in units of 2^-34.
abbrev pub full_utilisation : ℕ
full_utilisation = 17179869184

-- The utilisation C / T of an entry, rounded down.
unfoldable pub utilisation : Entry → ℕ
utilisation e = (full_utilisation * e.wcet) / e.period

-- In t ticks an entry on a higher level runs for at least its utilisation times t + J, and for at least C. The lower bound
-- up to a limit d uses the utilisation of entries that are released again before d (T < d + J), and C of all others.

-- The utilisation of an entry with T < d + J, and else 0.
unfoldable pub recurring_utilisation : ℕ → Entry → ℕ
recurring_utilisation d e = only (ltb e.period (d + e.jitter)) (utilisation e)

-- C of an entry with T < d + J, and else 0.
unfoldable pub recurring_wcet : ℕ → Entry → ℕ
recurring_wcet d e = only (ltb e.period (d + e.jitter)) e.wcet

-- Its utilisation times J.
unfoldable pub recurring_jitter : ℕ → Entry → ℕ
recurring_jitter d e = recurring_utilisation d e * e.jitter

-- The work of an entry with the initial time t0, with `first` entries on higher levels, fits into t ticks, in units of the
-- utilisation: what runs once (t0 without C of the recurring entries) and what runs for the jitter is at most what the
-- utilisation of the recurring entries leaves of t ticks.
abbrev pub WorkFits : List ℕ → ℕ → ℕ → ℕ → ℕ → Type 0
WorkFits ws first d t0 t =
    full_utilisation * (t0 - sum_to (λ j. recurring_wcet d (entry_of ws j)) first)
    + sum_to (λ j. recurring_jitter d (entry_of ws j)) first
    ≤ (full_utilisation - sum_to (λ j. recurring_utilisation d (entry_of ws j)) first) * t
