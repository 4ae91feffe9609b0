-- A group: the entries of one level, which are neighbours in the list. Entries before the group are more urgent, entries
-- after it less.
use Rattle.std.specs.Prelude.{ℕ, ◌≤◌, ◌<◌, ◌≡◌, true, false, ltb}
use Rattle.task_model.specs.Limits.{most_entries}

-- Among n entries, at most 64, the group from `first` to `last` contains the entry at i.
abbrev pub InGroup : ℕ → ℕ → ℕ → ℕ → Type 0
InGroup n first last i = (first ≤ i) × (i ≤ last) × (last < n) × (n ≤ most_entries)

-- Under the levels `level` of n entries, the group of the entry at i is from `first` to `last`.
pub record IsGroup (n first last i : ℕ) (level : ℕ → ℕ) : Type 0 where
  pub before : (j : ℕ) → j < first → level j < level i
  pub inside : (j : ℕ) → first ≤ j → j ≤ last → level j ≡ level i
  pub after : (j : ℕ) → last < j → j < n → level i < level j

-- Levels for a group that is named by its first and last position: position j has level 1 before the group, 2 in it, 3
-- after it.
unfoldable pub group_level : ℕ → ℕ → ℕ → ℕ
group_level first last j =
    elim (ltb j first) [
      | true ↦ 1
      | false ↦ elim (ltb last j) [ true ↦ 3 | false ↦ 2 ]
    ]
