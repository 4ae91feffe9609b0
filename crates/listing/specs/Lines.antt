-- The lines of a listing (docs/SPEC.md, 'The listing'). Numbers are decimal without leading zeros; every line ends with one
-- newline byte.
use Rattle.std.specs.Prelude.{ℕ, List, ◌++◌}
use Rattle.refusals.specs.Refusals.{Numbered}
use Rattle.text.specs.Text.{text}
use Rattle.text.specs.Decimal.{field}

-- plan 1
unfoldable pub plan_line : ℕ → List ℕ
plan_line nodes = field "plan " nodes ++ text "\n"

-- node 7 levels 2 of 2
unfoldable pub node_line : ℕ → ℕ → ℕ → List ℕ
node_line number used levels = field "node " number ++ field " levels " used ++ field " of " levels ++ text "\n"

-- node 7 no map
unfoldable pub no_map_line : ℕ → List ℕ
no_map_line number = field "node " number ++ text " no map\n"

-- entry 2 level 2 time 138 rounds 2
unfoldable pub entry_line : ℕ → ℕ → ℕ → ℕ → List ℕ
entry_line number level time rounds =
    field "entry " number ++ field " level " level ++ field " time " time ++ field " rounds " rounds ++ text "\n"

-- refused 8 row 0 entry 1
unfoldable pub refused_line : Numbered → List ℕ
refused_line r = field "refused " r.number ++ field " row " r.row ++ field " entry " r.entry ++ text "\n"
