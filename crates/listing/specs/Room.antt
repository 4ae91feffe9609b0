-- The most bytes that the lines of a plan take.
use Rattle.std.specs.Prelude.{ℕ, ◌+◌, ◌*◌}
use Rattle.task_model.specs.Limits.{most_entries}

-- The lines of a node: 29 bytes for its own line, and 56 for each of 64 entries.
abbrev pub node_most : ℕ
node_most = 29 + 56 * most_entries

-- A plan with this number of nodes: 9 bytes for its first line, and the lines of each node.
abbrev pub plan_most : ℕ → ℕ
plan_most nodes = 9 + node_most * nodes
