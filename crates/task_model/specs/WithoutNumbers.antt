-- The check of a node before entry numbers were checked. By `node_loose`, the present check is this one and then that of the
-- numbers; by `node_differ`, it is this one wherever the numbers are all different.
use Rattle.std.specs.Prelude.{ℕ, length}
use Rattle.task_model.specs.declared.Entry.{Entry}
use Rattle.refusals.specs.Refusals.{at, Outcome, ◌and_then◌, must_hold}
use Rattle.task_model.specs.Limits.{Node}
use Rattle.task_model.specs.Checks.{entries_by, size_test}

-- A node: first its counts of levels and entries (4), then its entries, each by a check of one entry.
unfoldable pub loose_node_by : (ℕ → ℕ → Entry → Outcome) → ℕ → Node → Outcome
loose_node_by check row n =
    must_hold (size_test n.levels (length n.entries)) (at 4 row 0) and_then entries_by (check row) 0 n.entries
