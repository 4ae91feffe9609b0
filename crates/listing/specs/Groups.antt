-- The lines of one group, as the program writes them. No promise of an entry for users mentions them.
use Rattle.std.specs.Prelude.{ℕ, zero, suc, ◌+◌, List, [], ◌++◌}
use Rattle.task_model.specs.declared.Entry.{Entry}
use Rattle.task_model.specs.Limits.{entry_at}
use Rattle.completion.specs.Group.{group_level}
use Rattle.completion.specs.Test.{Completion, on_time, late, completion_test}
use Rattle.listing.specs.Lines.{entry_line}

-- The line of an entry on a level, from the answer of its test. A late entry has no line.
abbrev pub timed_line : Entry → ℕ → Completion → List ℕ
timed_line e level (on_time time rounds) = entry_line e.number level time rounds
timed_line e level (late rounds overrun) = []

-- The lines of the first k entries of the group from `first` to `last` on a level.
unfoldable pub group_text : List Entry → ℕ → ℕ → ℕ → ℕ → List ℕ
group_text es first last level zero = []
group_text es first last level (suc k) =
    group_text es first last level k
    ++ timed_line (entry_at es (first + k)) level (completion_test es (group_level first last) (first + k))
