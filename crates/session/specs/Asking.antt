-- What queries check and give, whatever words the session has. The map and a time under it are answered from the store.
use Rattle.std.specs.Prelude.{ℕ}
use Rattle.refusals.specs.Refusals.{Outcome, ◌and_then◌}
use Rattle.refusals.specs.Answers.{Answer, giving}
use Rattle.task_model.specs.Checks.{node_check}
use Rattle.map_store.specs.Store.{stored_used, stored_time}
use Rattle.map_store.specs.Asking.{map_check, time_check}
use Rattle.session.specs.declared.Session.{Session}
use Rattle.session.specs.State.{node_in}
use Rattle.session.specs.Operations.{rules, Query, mapping, timing, map_timing, Operation, opening, changing, asking, query_check_by, step_check}

-- The checks of a query. Whether there is a map is asked of the store, and not worked out again. Mapping: 10, 11. Timing: 12.
-- Timing under the map: 12, 11.
unfoldable pub ask_check : Query → Session → Outcome
ask_check (mapping room) s = map_check s.store s.levels s.count room
ask_check (timing first last i) s = query_check_by rules (timing first last i) (node_in s)
ask_check (map_timing i) s = time_check s.store s.levels s.count i

-- All checks of a call on a session. A query first has the lent session checked, as every operation but opening has; these
-- checks do not look at the store.
unfoldable pub call_check : Operation → Session → Outcome
call_check (opening levels) s = step_check (opening levels) (node_in s)
call_check (changing c) s = step_check (changing c) (node_in s)
call_check (asking q) s = node_check 0 (node_in s) and_then ask_check q s

-- What mapping gives: how many levels the stored map uses.
unfoldable pub map_given : Session → ℕ → Answer ℕ
map_given s room = giving (call_check (asking (mapping room)) s) (stored_used s.store)

-- What asking for the completion time of the entry at i under the map gives: the stored time.
unfoldable pub map_time_given : Session → ℕ → Answer ℕ
map_time_given s i = giving (call_check (asking (map_timing i)) s) (stored_time s.store i)
