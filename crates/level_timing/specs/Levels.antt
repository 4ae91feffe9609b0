-- Levels that never fall along the list, and the group of an entry among them.
use Rattle.std.specs.Prelude.{ℕ, suc, ◌≤◌, ◌<◌, ◌≡◌, List}
use Rattle.level_map.specs.Assignments.{level_of}

-- The levels of the first n entries never fall.
abbrev pub NeverFalls : ℕ → List ℕ → Type 0
NeverFalls n a = (j : ℕ) → suc j < n → level_of a j ≤ level_of a (suc j)

-- `first` begins the group of the entry at i: from there to i all levels are equal, and the level before differs.
pub record FirstOf (a : List ℕ) (i first : ℕ) : Type 0 where
  pub within : first ≤ i
  pub same : (j : ℕ) → first ≤ j → j ≤ i → level_of a j ≡ level_of a i
  pub other : (j : ℕ) → suc j ≡ first → level_of a j ≡ level_of a i → ⊥

-- `last` ends the group of the entry at i, among n entries.
pub record LastOf (n : ℕ) (a : List ℕ) (i last : ℕ) : Type 0 where
  pub within : i ≤ last
  pub inside : last < n
  pub same : (j : ℕ) → i ≤ j → j ≤ last → level_of a j ≡ level_of a i
  pub other : suc last < n → level_of a (suc last) ≡ level_of a i → ⊥
