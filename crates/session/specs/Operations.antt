-- The operations of a session (docs/SPEC.md, 'The session'), as functions of the level count and the list of entries: the
-- checks of each operation, in their order, and the node after it.
use Rattle.std.specs.Prelude.{ℕ, ◌<◌, not, ◌&&◌, List, [], ◌∷◌, length, leb, ltb}
use Rattle.task_model.specs.declared.Entry.{Entry}
use Rattle.refusals.specs.Refusals.{at, Outcome, accepted, refused, ◌and_then◌, must_hold}
use Rattle.task_model.specs.Limits.{most_levels, most_entries, Node}
use Rattle.node_words.specs.Lists.{insert_at, remove_at, replace_at}
use Rattle.task_model.specs.Checks.{entry_check, has_number, node_check_by}
use Rattle.completion.specs.Test.{completion_test}
use Rattle.level_map.specs.Assignments.{EntryTest}
use Rattle.level_map.specs.Answer.{held_check_under}
use Rattle.map_store.specs.Asking.{fresh_time_check}

-- The changes of an open session.
pub data Change : Type 0 where
  -- insert before a position, or just after the last entry
  inserting : (position : ℕ) (e : Entry) → Change
  removing : (position : ℕ) → Change
  replacing : (position : ℕ) (e : Entry) → Change
  setting_levels : (levels : ℕ) → Change

-- The queries of an open session, which only read it.
pub data Query : Type 0 where
  -- map into a buffer of `room` bytes
  mapping : (room : ℕ) → Query
  -- time the entry at i in the group from `first` to `last`
  timing : (first last i : ℕ) → Query
  -- the completion time of the entry at i under the map
  map_timing : (i : ℕ) → Query

-- The operations of a session.
pub data Operation : Type 0 where
  -- open a session with a level count, whatever it held before
  opening : (levels : ℕ) → Operation
  changing : Change → Operation
  asking : Query → Operation

-- A change that a program can ask for: the number of an entry has 16 bits.
abbrev pub CallableChange : Change → Type 0
CallableChange (inserting position e) = e.number < 65536
CallableChange (removing position) = Unit
CallableChange (replacing position e) = e.number < 65536
CallableChange (setting_levels levels) = Unit

-- The same for an operation.
abbrev pub Callable : Operation → Type 0
Callable (opening levels) = Unit
Callable (changing c) = CallableChange c
Callable (asking q) = Unit

-- The same for every operation of a sequence.
abbrev pub AllCallable : List Operation → Type 0
AllCallable [] = Unit
AllCallable (o ∷ os) = Callable o × AllCallable os

-- 1 to 64 levels (4).
unfoldable pub levels_check : ℕ → Outcome
levels_check levels = must_hold (leb 1 levels && leb levels most_levels) (at 4 0 0)

-- What the operations go by: the check of an entry, by its row and position, and the test that times it.
pub record Rules : Type 0 where
  pub check : ℕ → ℕ → Entry → Outcome
  pub test : EntryTest

-- The rules of a session: the check of an entry (7, 8, 14), and the completion time test.
abbrev pub rules : Rules
rules = record { check = entry_check; test = completion_test }

-- The number of a new entry at a position: 16 if one of the other entries has it.
unfoldable pub others_check : ℕ → Entry → List Entry → Outcome
others_check position e others = must_hold (not (has_number e.number others)) (at 16 0 position)

-- The checks of a change of a node, in their order. Insert: 12, 13, then the entry's fields, then its number (16). Remove: 12.
-- Replace: 12, then the entry's fields, then its number (16); the entry that goes does not count, so its number may be kept.
-- Setting levels: 4.
unfoldable pub change_check_by : Rules → Change → Node → Outcome
change_check_by by (inserting position e) n =
    must_hold (leb position (length n.entries)) (at 12 0 0)
    and_then must_hold (ltb (length n.entries) most_entries) (at 13 0 0)
    and_then by.check 0 position e
    and_then others_check position e n.entries
change_check_by by (removing position) n = must_hold (ltb position (length n.entries)) (at 12 0 0)
change_check_by by (replacing position e) n =
    must_hold (ltb position (length n.entries)) (at 12 0 0)
    and_then by.check 0 position e
    and_then others_check position e (remove_at position n.entries)
change_check_by by (setting_levels levels) n = levels_check levels

-- The checks of a query, worked out from the node. Mapping: 10, 11. Timing: 12. Timing under the map: 12, 11.
unfoldable pub query_check_by : Rules → Query → Node → Outcome
query_check_by by (mapping room) n = held_check_under by.test n room
query_check_by by (timing first last i) n =
    must_hold (leb first i && leb i last && ltb last (length n.entries)) (at 12 0 0)
query_check_by by (map_timing i) n = fresh_time_check by.test n i

-- The checks of an operation. Opening: 4.
unfoldable pub operation_check_by : Rules → Operation → Node → Outcome
operation_check_by by (opening levels) n = levels_check levels
operation_check_by by (changing c) n = change_check_by by c n
operation_check_by by (asking q) n = query_check_by by q n

-- The same by the rules of a session.
abbrev pub operation_check : Operation → Node → Outcome
operation_check o n = operation_check_by rules o n

-- Opening makes an empty node with the given level count.
abbrev pub empty_node : ℕ → Node
empty_node levels = record { levels = levels; entries = [] }

-- The node after an accepted change.
unfoldable pub changed : Change → Node → Node
changed (inserting position e) n = record { levels = n.levels; entries = insert_at position e n.entries }
changed (removing position) n = record { levels = n.levels; entries = remove_at position n.entries }
changed (replacing position e) n = record { levels = n.levels; entries = replace_at position e n.entries }
changed (setting_levels levels) n = record { levels = levels; entries = n.entries }

-- The node after an accepted operation. A query leaves it as it was.
abbrev pub made : Operation → Node → Node
made (opening levels) n = empty_node levels
made (changing c) n = changed c n
made (asking q) n = n

-- The node after an operation. A refused operation changes nothing.
unfoldable pub node_after_by : Rules → Operation → Node → Node
node_after_by by o n =
    elim (operation_check_by by o n) [
      | accepted ↦ made o n
      | refused r ↦ n
    ]

-- The same by the rules of a session.
abbrev pub node_after : Operation → Node → Node
node_after o n = node_after_by rules o n

-- The node after a sequence of operations.
unfoldable pub node_after_all_by : Rules → List Operation → Node → Node
node_after_all_by by [] n = n
node_after_all_by by (o ∷ os) n = node_after_all_by by os (node_after_by by o n)

-- The same by the rules of a session.
abbrev pub node_after_all : List Operation → Node → Node
node_after_all os n = node_after_all_by rules os n

-- The answers of a sequence of operations.
unfoldable pub answers_all_by : Rules → List Operation → Node → List Outcome
answers_all_by by [] n = []
answers_all_by by (o ∷ os) n = operation_check_by by o n ∷ answers_all_by by os (node_after_by by o n)

-- The same by the rules of a session.
abbrev pub answers_all : List Operation → Node → List Outcome
answers_all os n = answers_all_by rules os n

-- The checks of the session that is lent. A caller can lend memory that no operation made, so every operation but opening
-- first checks it like a node of a file: 4, then each entry, with its position, then the entries' numbers (16). A session that
-- was opened and then changed by operations always passes.
unfoldable pub lent_check_by : Rules → Operation → Node → Outcome
lent_check_by by (opening levels) n = accepted
lent_check_by by (changing c) n = node_check_by by.check 0 n
lent_check_by by (asking q) n = node_check_by by.check 0 n

-- The same by the rules of a session.
abbrev pub lent_check : Operation → Node → Outcome
lent_check o n = lent_check_by rules o n

-- All checks of a call: first those of the lent session, then those of the operation.
unfoldable pub step_check_by : Rules → Operation → Node → Outcome
step_check_by by o n = lent_check_by by o n and_then operation_check_by by o n

-- The same by the rules of a session.
abbrev pub step_check : Operation → Node → Outcome
step_check o n = step_check_by rules o n
