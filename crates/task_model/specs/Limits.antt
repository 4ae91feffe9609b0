-- The limits of an entry and of a node (docs/SPEC.md, 'The entry').
use Rattle.std.specs.Prelude.{ℕ, ◌-◌, ◌≤◌, ◌<◌, ◌≡◌, ◌⊎◌, List, length, get_or}
use Rattle.task_model.specs.declared.Entry.{Entry}

-- The longest period and the longest blocking, in ticks.
abbrev pub most_ticks : ℕ
most_ticks = 1000000000

-- The most levels of a node.
abbrev pub most_levels : ℕ
most_levels = 64

-- The most entries of a node.
abbrev pub most_entries : ℕ
most_entries = 64

-- A node: the number of its priority levels, and its entries in listed order, most urgent first.
pub record Node : Type 0 where
  pub levels : ℕ
  pub entries : List Entry

-- Default outside the list; no theorem depends on it.
abbrev pub no_entry : Entry
no_entry = record { number = 0; kind = 0; calls = 0; wcet = 0; period = 0; deadline = 0; blocking = 0; jitter = 0 }

-- The entry at a position, counted from 0.
abbrev pub entry_at : List Entry → ℕ → Entry
entry_at es j = get_or es j no_entry

-- A task (kind 1) calls up to 15 remote sections in a period; a global critical section (kind 2) calls none.
abbrev pub KindHolds : Entry → Type 0
KindHolds e = ((e.kind ≡ 1) × (e.calls ≤ 15)) ⊎ ((e.kind ≡ 2) × (e.calls ≡ 0))

-- 1 ≤ C ≤ D ≤ T ≤ 1,000,000,000 and B ≤ 1,000,000,000.
pub record TimesHold (e : Entry) : Type 0 where
  pub runs : 1 ≤ e.wcet
  pub due : e.wcet ≤ e.deadline
  pub periodic : e.deadline ≤ e.period
  pub longest : e.period ≤ most_ticks
  pub blocked : e.blocking ≤ most_ticks

-- The release jitter J is at most D - C, so that an entry that starts as late as it may can still end by its deadline.
abbrev pub JitterHolds : Entry → Type 0
JitterHolds e = e.jitter ≤ e.deadline - e.wcet

-- An entry within the limits: its kind and calls, its times, and its jitter.
pub record EntryHolds (e : Entry) : Type 0 where
  pub kind : KindHolds e
  pub times : TimesHold e
  pub jitter : JitterHolds e

-- Every entry of the list is within the limits.
abbrev pub AllHold : List Entry → Type 0
AllHold es = (j : ℕ) → j < length es → EntryHolds (entry_at es j)

-- A node within the limits: 1 to 64 levels, and up to 64 entries, each within the limits.
pub record NodeHolds (n : Node) : Type 0 where
  pub some_levels : 1 ≤ n.levels
  pub few_levels : n.levels ≤ most_levels
  pub few_entries : length n.entries ≤ most_entries
  pub each : AllHold n.entries

-- The entry at position j has the number of an entry before it.
abbrev pub Repeats : List Entry → ℕ → Type 0
Repeats es j = (i : ℕ) × (i < j) × ((entry_at es i).number ≡ (entry_at es j).number)

-- The numbers of a list are all different: no entry has the number of an entry before it.
abbrev pub NumbersDiffer : List Entry → Type 0
NumbersDiffer es = (j : ℕ) → j < length es → Repeats es j → ⊥

-- The first entry that has the number of an entry before it is the one at position j.
pub record FirstRepeat (es : List Entry) (j : ℕ) : Type 0 where
  pub inside : j < length es
  pub repeats : Repeats es j
  pub first : (k : ℕ) → k < j → Repeats es k → ⊥

-- A node that a plan may hold: within the limits, and with each entry number once.
pub record NodeValid (n : Node) : Type 0 where
  pub within : NodeHolds n
  pub numbers : NumbersDiffer n.entries
