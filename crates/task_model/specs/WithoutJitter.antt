-- Entries without jitter, and their check before entries had one.
use Rattle.std.specs.Prelude.{ℕ, ◌<◌, ◌≡◌, List, length}
use Rattle.task_model.specs.declared.Entry.{Entry}
use Rattle.refusals.specs.Refusals.{at, Outcome, ◌and_then◌, must_hold}
use Rattle.task_model.specs.Limits.{entry_at}
use Rattle.task_model.specs.Checks.{kind_test, times_test}

-- Every J of a list is 0.
abbrev pub Punctual : List Entry → Type 0
Punctual es = (j : ℕ) → j < length es → (entry_at es j).jitter ≡ 0

-- An entry: first its kind with its calls (7), then its times (8).
unfoldable pub punctual_check : ℕ → ℕ → Entry → Outcome
punctual_check row position e =
    must_hold (kind_test e.kind e.calls) (at 7 row position) and_then must_hold (times_test e) (at 8 row position)
