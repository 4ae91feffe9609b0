-- What the loops write into a store, and what they know of a group. No promise of an entry for users mentions it.
use Rattle.std.specs.Prelude.{ℕ, ◌+◌, ◌≤◌, ◌<◌, ◌≡◌, true, false, List, length, get_or, leb, eqb, Option, None, Some}
use Rattle.task_model.specs.declared.Entry.{Entry}
use Rattle.completion.specs.Demand.{demand_with}
use Rattle.task_model.specs.Limits.{entry_at, most_entries}
use Rattle.completion.specs.Group.{group_level}
use Rattle.map_store.specs.declared.Known.{Known}
use Rattle.map_store.specs.Store.{store_size, levels_at, times_at}

-- The words `new` are the words `old`, but from at + start to just before at + end word at + j is f j.
pub record Put (at start end : ℕ) (f : ℕ → ℕ) (old new : List ℕ) : Type 0 where
  pub sized : length new ≡ length old
  pub here : (j : ℕ) → start ≤ j → j < end → get_or new (at + j) 0 ≡ f j
  pub low : (k : ℕ) → k < at + start → get_or new k 0 ≡ get_or old k 0
  pub high : (k : ℕ) → at + end ≤ k → get_or new k 0 ≡ get_or old k 0

-- The words are those of the store `due`, but for the levels and the times of the positions from `first` to just before
-- `count`.
pub record Agrees (due : List ℕ) (first count : ℕ) (words : List ℕ) : Type 0 where
  pub sized : length words ≡ store_size
  pub heads : (k : ℕ) → k < levels_at → get_or words k 0 ≡ get_or due k 0
  pub levels : (j : ℕ) → j < first → get_or words (levels_at + j) 0 ≡ get_or due (levels_at + j) 0
  pub times : (j : ℕ) → j < first → get_or words (times_at + j) 0 ≡ get_or due (times_at + j) 0
  pub levels_beyond : (j : ℕ) → count ≤ j → j < most_entries → get_or words (levels_at + j) 0 ≡ get_or due (levels_at + j) 0
  pub times_beyond : (j : ℕ) → count ≤ j → j < most_entries → get_or words (times_at + j) 0 ≡ get_or due (times_at + j) 0

-- What is known, as a time for an entry with this B: 0 if nothing is known of entries with as much blocking.
unfoldable pub known_time : Option Known → ℕ → ℕ
known_time None blocking = 0
known_time (Some k) blocking = elim (leb k.blocking blocking) [ true ↦ k.time | false ↦ 0 ]

-- What is known once the entry e is timed: its time, if it is not late and has no remote calls, and else what was known before.
unfoldable pub known_next : Option Known → Entry → Option ℕ → Option Known
known_next known e None = known
known_next known e (Some t) = elim (eqb e.calls 0) [ true ↦ Some (record { blocking = e.blocking; time = t }) | false ↦ known ]

-- What is known of the entries from `first` to `last`, a group: none whose B is at least `k.blocking` ends before `k.time`.
abbrev pub Earliest : List Entry → ℕ → ℕ → Option Known → Type 0
Earliest es first last None = Unit
Earliest es first last (Some k) =
    (i : ℕ) → first ≤ i → i ≤ last → k.blocking ≤ (entry_at es i).blocking
    → (t : ℕ) → demand_with (entry_at es i).blocking es (group_level first last) i t ≤ t → k.time ≤ t
