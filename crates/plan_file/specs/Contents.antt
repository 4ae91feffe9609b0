-- The contents of a file: where they lie, and the rows that they list.
use Rattle.std.specs.Prelude.{ℕ, List}
use Rattle.plan_file.specs.declared.stages.Contents.{Contents}
use Rattle.plan_file.specs.declared.Row.{Row}
use Rattle.plan_file.specs.Decoding.{rows_from}

-- The file's bytes, and how many rows are listed.
abbrev pub parts : Contents → List ℕ × ℕ
parts c = (c.file.now, c.nodes)

-- These rows.
abbrev pub rows_of : Contents → List Row
rows_of c = rows_from c.file.now 0 c.nodes
