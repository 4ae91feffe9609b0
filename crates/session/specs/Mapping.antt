-- What mapping answers, and what it leaves in the lent buffer; and the same worked out afresh from a node.
use Rattle.std.specs.Prelude.{ℕ, ◌<◌, ◌≡◌, List, length, Result}
use Rattle.std.proofs.Math.Option.{some}
use Rattle.refusals.specs.declared.Refusal.{Refusal}
use Rattle.refusals.specs.Answers.{Answer, answered, giving, left}
use Rattle.task_model.specs.Limits.{Node}
use Rattle.completion.specs.Test.{completion_test, time_in}
use Rattle.level_map.specs.Assignments.{level_of, levels_used}
use Rattle.level_map.specs.Map.{the_map}
use Rattle.level_map.specs.Answer.{is_some, levels_under, NodeBestMapOrNone}
use Rattle.map_store.specs.Store.{has_map, stored_used, stored_levels, stored_time}
use Rattle.session.specs.declared.Session.{Session}
use Rattle.session.specs.State.{node_in, Sound}
use Rattle.session.specs.Operations.{Rules, rules, asking, mapping, map_timing, step_check_by}
use Rattle.session.specs.Asking.{map_given}

-- The answer worked out afresh: the checks, then the count of the levels of the node's map.
unfoldable pub map_answer_by : Rules → Node → ℕ → Answer ℕ
map_answer_by by n room = giving (step_check_by by (asking (mapping room)) n) (levels_used (levels_under by.test n))

-- The same by the rules of a session.
abbrev pub map_answer : Node → ℕ → Answer ℕ
map_answer n room = map_answer_by rules n room

-- The same for the completion time of the entry at i under the map: the checks, then the time.
unfoldable pub map_time_answer_by : Rules → Node → ℕ → Answer ℕ
map_time_answer_by by n i =
    giving (step_check_by by (asking (map_timing i)) n) (time_in (by.test n.entries (level_of (levels_under by.test n)) i))

-- The same by the rules of a session.
abbrev pub map_time_answer : Node → ℕ → Answer ℕ
map_time_answer n i = map_time_answer_by rules n i

-- Mapping the session s into a buffer answers a and leaves the buffer as `after`. It writes the stored map from the buffer's
-- start, one byte per entry, and keeps the bytes beyond; a refusal leaves the buffer untouched. If s is sound, as every
-- session that opening and operations made, and its node fits the buffer, promise 3 of docs/SPEC.md holds: the answer is 11
-- exactly if no assignment passes, and otherwise the map is the best.
pub record Maps (s : Session) (buffer : List ℕ) (a : Result ℕ Refusal) (after : List ℕ) : Type 0 where
  pub answers : answered a ≡ map_given s (length buffer)
  pub written : after ≡ left (answered a) (stored_levels s.store s.count) buffer
  pub best : Sound s → NodeBestMapOrNone (node_in s) buffer (answered a) after

-- The store of a session holds what is worked out afresh from its entries and its level count: whether there is a map, and if
-- so, how many levels it uses, its levels, and every entry's completion time under it.
pub record Remembers (s : Session) : Type 0 where
  pub has : has_map s.store s.levels ≡ is_some (the_map (node_in s).entries (node_in s).levels)
  pub used : (m : List ℕ) → the_map (node_in s).entries (node_in s).levels ≡ some m → stored_used s.store ≡ levels_used m
  pub levels : (m : List ℕ) → the_map (node_in s).entries (node_in s).levels ≡ some m → stored_levels s.store s.count ≡ m
  pub times : (m : List ℕ) → the_map (node_in s).entries (node_in s).levels ≡ some m → (i : ℕ) → i < length (node_in s).entries
      → stored_time s.store i ≡ time_in (completion_test (node_in s).entries (level_of m) i)
