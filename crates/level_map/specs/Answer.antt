-- What the mapper answers (docs/SPEC.md, 'The order of the checks' and 'Promise 3: maps'). What it leaves in the buffer is
-- `left` in specs/Answers of the crate refusals.
use Rattle.std.specs.Prelude.{ℕ, ◌≤◌, ◌≡◌, Bool, true, false, ◌↔◌, ◌⊎◌, List, [], length, take, leb}
use Rattle.std.proofs.Math.Option.{Option, none, some}
use Rattle.task_model.specs.declared.Entry.{Entry}
use Rattle.refusals.specs.Refusals.{at, Outcome, ◌and_then◌, must_hold}
use Rattle.refusals.specs.Answers.{Answer, gives, refuses, giving}
use Rattle.task_model.specs.Limits.{Node}
use Rattle.level_map.specs.Assignments.{EntryTest, NoneLateUnder, PassingUnder, levels_used}
use Rattle.completion.specs.Test.{completion_test}
use Rattle.level_map.specs.Map.{Chosen, map_under}

-- Whether there is a map.
abbrev pub is_some : Option (List ℕ) → Bool
is_some none = false
is_some (some m) = true

-- The levels of a map, one per entry, or the empty list if there is no map.
abbrev pub levels_in : Option (List ℕ) → List ℕ
levels_in none = []
levels_in (some m) = m

-- The levels of a node's map under a test.
unfoldable pub levels_under : EntryTest → Node → List ℕ
levels_under test n = levels_in (map_under test n.entries n.levels)

-- The checks for mapping a node into a buffer of `room` bytes: 10 if there are fewer bytes than entries, then 11 if no map
-- passes under the test.
unfoldable pub held_check_under : EntryTest → Node → ℕ → Outcome
held_check_under test n room =
    must_hold (leb (length n.entries) room) (at 10 0 0)
    and_then must_hold (is_some (map_under test n.entries n.levels)) (at 11 0 0)

-- The answer for mapping a node: the refusal, or the count of the map's levels.
unfoldable pub held_answer_under : EntryTest → Node → ℕ → Answer ℕ
held_answer_under test n room = giving (held_check_under test n room) (levels_used (levels_under test n))

-- Promise 3 for a map m that is given with a count. Under m every entry ends by its deadline. m is the choice that
-- docs/SPEC.md, 'The map', describes. It uses `count` different levels, and no passing assignment uses fewer.
pub record MappingUnder (test : EntryTest) (es : List Entry) (most count : ℕ) (m : List ℕ) : Type 0 where
  pub passing : PassingUnder test es most m
  pub chosen : Chosen (NoneLateUnder test es) most (length es) m
  pub counted : levels_used m ≡ count
  pub fewest : (a : List ℕ) → PassingUnder test es most a → count ≤ levels_used a

-- Promise 3 for an answer, with the map m read from the buffer's start. The answer is refusal 11 exactly if no assignment
-- passes. Otherwise it is a count, with a map as above.
pub record BestMapOrNoneUnder (test : EntryTest) (es : List Entry) (most : ℕ) (a : Answer ℕ) (m : List ℕ) : Type 0 where
  pub refusal : (a ≡ refuses (at 11 0 0)) ↔ ((l : List ℕ) → PassingUnder test es most l → ⊥)
  pub given : (a ≡ refuses (at 11 0 0)) ⊎ ((count : ℕ) × (a ≡ gives count) × MappingUnder test es most count m)

-- From here on, the same under the completion time test. The levels of a node's map:
abbrev pub map_of : Node → List ℕ
map_of n = levels_under completion_test n

-- The checks for mapping a node into a buffer of `room` bytes.
abbrev pub held_check : Node → ℕ → Outcome
held_check n room = held_check_under completion_test n room

-- The answer for mapping a node.
abbrev pub held_answer : Node → ℕ → Answer ℕ
held_answer n room = held_answer_under completion_test n room

-- Promise 3 for a map.
abbrev pub Mapping : List Entry → ℕ → ℕ → List ℕ → Type 0
Mapping es most count m = MappingUnder completion_test es most count m

-- Promise 3 for an answer.
abbrev pub BestMapOrNone : List Entry → ℕ → Answer ℕ → List ℕ → Type 0
BestMapOrNone es most a m = BestMapOrNoneUnder completion_test es most a m

-- Promise 3 for a node that is mapped into a long enough buffer, with the map read from the buffer's start.
abbrev pub NodeBestMapOrNone : Node → List ℕ → Answer ℕ → List ℕ → Type 0
NodeBestMapOrNone n before a after =
    length n.entries ≤ length before → BestMapOrNone n.entries n.levels a (take (length n.entries) after)
