-- What is answered from a store, whatever words it has: its map, and the completion time of an entry under that map.
use Rattle.std.specs.Prelude.{ℕ, List, length, leb, ltb}
use Rattle.refusals.specs.Refusals.{at, Outcome, ◌and_then◌, must_hold}
use Rattle.refusals.specs.Answers.{Answer, giving}
use Rattle.task_model.specs.Limits.{Node}
use Rattle.completion.specs.Test.{time_in}
use Rattle.level_map.specs.Assignments.{EntryTest, level_of}
use Rattle.level_map.specs.Map.{map_under}
use Rattle.level_map.specs.Answer.{is_some, levels_under}
use Rattle.map_store.specs.Store.{has_map, stored_used, stored_time}

-- The checks of asking for the map of `count` entries on `levels` levels, into a buffer of `room` bytes: 10 if there are
-- fewer bytes than entries, then 11 if the store has no such map.
unfoldable pub map_check : List ℕ → ℕ → ℕ → ℕ → Outcome
map_check store levels count room =
    must_hold (leb count room) (at 10 0 0) and_then must_hold (has_map store levels) (at 11 0 0)

-- The answer: the refusal, or how many levels the map uses.
unfoldable pub map_asked : List ℕ → ℕ → ℕ → ℕ → Answer ℕ
map_asked store levels count room = giving (map_check store levels count room) (stored_used store)

-- The checks of asking for the completion time of the entry at i: 12 if there is no such entry, then 11 if the store has no
-- map on `levels` levels.
unfoldable pub time_check : List ℕ → ℕ → ℕ → ℕ → Outcome
time_check store levels count i = must_hold (ltb i count) (at 12 0 0) and_then must_hold (has_map store levels) (at 11 0 0)

-- The answer: the refusal, or the completion time.
unfoldable pub time_asked : List ℕ → ℕ → ℕ → ℕ → Answer ℕ
time_asked store levels count i = giving (time_check store levels count i) (stored_time store i)

-- What the store of a node is to answer, worked out afresh from the node under a test. For the map this is `held_answer_under` of
-- level_map. For the completion time of the entry at i under that map: 12 if there is no such entry, 11 if no map passes,
unfoldable pub fresh_time_check : EntryTest → Node → ℕ → Outcome
fresh_time_check test n i =
    must_hold (ltb i (length n.entries)) (at 12 0 0)
    and_then must_hold (is_some (map_under test n.entries n.levels)) (at 11 0 0)

-- and else the time that the test gives under the levels of the map.
unfoldable pub fresh_time : EntryTest → Node → ℕ → Answer ℕ
fresh_time test n i = giving (fresh_time_check test n i) (time_in (test n.entries (level_of (levels_under test n)) i))
