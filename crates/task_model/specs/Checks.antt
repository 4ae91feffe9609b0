-- The checks of an entry and of a node, in their order, and which refusal each gives.
use Rattle.std.specs.Prelude.{ℕ, suc, ◌-◌, ◌<◌, ◌≡◌, Bool, false, not, ◌&&◌, ◌||◌, List, [], ◌∷◌, length, take, leb, eqb}
use Rattle.task_model.specs.declared.Entry.{Entry}
use Rattle.refusals.specs.Refusals.{at, Outcome, accepted, ◌and_then◌, must_hold}
use Rattle.task_model.specs.Limits.{most_ticks, most_levels, most_entries, entry_at, Node}

-- Kind 1 with up to 15 calls, or kind 2 with none.
unfoldable pub kind_test : ℕ → ℕ → Bool
kind_test kind calls = (eqb kind 1 && leb calls 15) || (eqb kind 2 && eqb calls 0)

-- 1 ≤ C ≤ D ≤ T ≤ 1,000,000,000 and B ≤ 1,000,000,000.
unfoldable pub times_test : Entry → Bool
times_test e =
    leb 1 e.wcet && leb e.wcet e.deadline && leb e.deadline e.period
    && leb e.period most_ticks
    && leb e.blocking most_ticks

-- J ≤ D - C.
unfoldable pub jitter_test : Entry → Bool
jitter_test e = leb e.jitter (e.deadline - e.wcet)

-- All three tests of an entry.
unfoldable pub entry_test : Entry → Bool
entry_test e = kind_test e.kind e.calls && times_test e && jitter_test e

-- An entry: first its kind with its calls (7), then its times (8), then its jitter (14).
unfoldable pub entry_check : ℕ → ℕ → Entry → Outcome
entry_check row position e =
    must_hold (kind_test e.kind e.calls) (at 7 row position)
    and_then must_hold (times_test e) (at 8 row position)
    and_then must_hold (jitter_test e) (at 14 row position)

-- Entries one by one, from a position on, each by its position and itself: the first refusal that is met.
unfoldable pub entries_by : (ℕ → Entry → Outcome) → ℕ → List Entry → Outcome
entries_by check position [] = accepted
entries_by check position (e ∷ es) = check position e and_then entries_by check (suc position) es

-- All entries at a row one by one, each by its row, its position and itself.
abbrev pub each_by : (ℕ → ℕ → Entry → Outcome) → ℕ → List Entry → Outcome
each_by check row es = entries_by (check row) 0 es

-- Entries one by one, each by the check of an entry.
abbrev pub entries_check : ℕ → ℕ → List Entry → Outcome
entries_check row position es = entries_by (entry_check row) position es

-- Some entry of a list has this number.
unfoldable pub has_number : ℕ → List Entry → Bool
has_number number [] = false
has_number number (e ∷ es) = eqb e.number number || has_number number es

-- The number of an entry of a list, by the entry's position: 16 if an entry before it has the same.
unfoldable pub number_check : List Entry → ℕ → ℕ → Entry → Outcome
number_check es row position e = must_hold (not (has_number e.number (take position es))) (at 16 row position)

-- The numbers of the entries at a row, one by one: the first that repeats is refused.
abbrev pub numbers_check : ℕ → List Entry → Outcome
numbers_check row es = entries_by (number_check es row) 0 es

-- All entries at a row: first each by a check of one entry; once all have passed, their numbers (16).
unfoldable pub body_by : (ℕ → ℕ → Entry → Outcome) → ℕ → List Entry → Outcome
body_by check row es = each_by check row es and_then numbers_check row es

-- The same, each entry by the check of an entry.
abbrev pub body_check : ℕ → List Entry → Outcome
body_check row es = body_by entry_check row es

-- 1 to 64 levels and up to 64 entries.
unfoldable pub size_test : ℕ → ℕ → Bool
size_test levels count = leb 1 levels && leb levels most_levels && leb count most_entries

-- A node: first its counts of levels and entries (4), then its entries, each by a check of one entry, and their numbers.
unfoldable pub node_check_by : (ℕ → ℕ → Entry → Outcome) → ℕ → Node → Outcome
node_check_by check row n =
    must_hold (size_test n.levels (length n.entries)) (at 4 row 0) and_then body_by check row n.entries

-- The same, each entry by the check of an entry.
abbrev pub node_check : ℕ → Node → Outcome
node_check row n = node_check_by entry_check row n

-- A check of one entry accepts it, wherever it stands.
abbrev pub Passes : (ℕ → ℕ → Entry → Outcome) → Entry → Type 0
Passes check e = (row position : ℕ) → check row position e ≡ accepted

-- And every entry of a list.
abbrev pub AllPass : (ℕ → ℕ → Entry → Outcome) → List Entry → Type 0
AllPass check es = (j : ℕ) → j < length es → Passes check (entry_at es j)
