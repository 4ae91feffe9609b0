-- Assignments of levels to the entries of a node, and when one passes.
use Rattle.std.specs.Prelude.{ℕ, suc, ◌+◌, ◌≤◌, ◌<◌, ◌≡◌, Bool, true, false, List, [], ◌∷◌, length, get_or, eqb}
use Rattle.task_model.specs.declared.Entry.{Entry}
use Rattle.completion.specs.Test.{Completion, completion_test, is_on_time}

-- The level of the entry at position i. An assignment is a list with one level per entry; level 1 is the most urgent.
abbrev pub level_of : List ℕ → ℕ → ℕ
level_of a i = get_or a i 0

-- An assignment: each of n entries has a level from 1 to `most`, and levels never fall along the list. They may begin above
-- 1 and may leave levels out.
pub record Assignment (n most : ℕ) (a : List ℕ) : Type 0 where
  pub each : length a ≡ n
  pub low : (i : ℕ) → i < n → 1 ≤ level_of a i
  pub high : (i : ℕ) → i < n → level_of a i ≤ most
  pub rising : (i : ℕ) → suc i < n → level_of a i ≤ level_of a (suc i)

-- A test of entries: what it answers for the entry at a position, among entries with these levels.
abbrev pub EntryTest : Type 0
EntryTest = List Entry → (ℕ → ℕ) → ℕ → Completion

-- No entry is late: the test answers on time for each. Entries with equal levels are a group; the test needs only the
-- levels.
abbrev pub NoneLateUnder : EntryTest → List Entry → List ℕ → Type 0
NoneLateUnder test es a = (i : ℕ) → i < length es → is_on_time (test es (level_of a) i) ≡ true

-- A passing assignment: to the levels 1 to `most`, with every entry ending by its deadline under the test.
pub record PassingUnder (test : EntryTest) (es : List Entry) (most : ℕ) (a : List ℕ) : Type 0 where
  pub assignment : Assignment (length es) most a
  pub in_time : NoneLateUnder test es a

-- No entry is late under the completion time test.
abbrev pub NoneLate : List Entry → List ℕ → Type 0
NoneLate es a = NoneLateUnder completion_test es a

-- A passing assignment under the completion time test.
abbrev pub Passing : List Entry → ℕ → List ℕ → Type 0
Passing es most a = PassingUnder completion_test es most a

-- 1 if the test holds, and else 0.
abbrev pub one : Bool → ℕ
one true = 1
one false = 0

-- How many entries have the level l: the size of its group.
abbrev pub size_of : ℕ → List ℕ → ℕ
size_of l [] = 0
size_of l (x ∷ xs) = one (eqb x l) + size_of l xs

-- The levels used: how many different levels there are. Each is counted at its last occurrence.
abbrev pub levels_used : List ℕ → ℕ
levels_used [] = 0
levels_used (x ∷ xs) = one (eqb (size_of x xs) 0) + levels_used xs
