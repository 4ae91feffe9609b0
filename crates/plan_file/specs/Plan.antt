-- A plan, independent of any file: its rows and its entries, and their words in memory.
use Rattle.std.specs.Prelude.{ℕ, ◌+◌, ◌*◌, ◌/◌, ◌%◌, ◌<◌, List, [], ◌∷◌, map, length}
use Rattle.task_model.specs.declared.Entry.{Entry}
use Rattle.node_words.specs.Words.{entry_size, entries_of, EntriesFit}
use Rattle.plan_file.specs.declared.Row.{Row}

-- A plan: the rows in contents order, and the entries of all nodes. Nodes come in contents order, each with its entries in
-- listed order.
pub record Plan : Type 0 where
  pub rows : List Row
  pub entries : List Entry

-- The most nodes of a plan.
abbrev pub most_nodes : ℕ
most_nodes = 32

-- How many entries the rows count.
unfoldable pub entry_count : List Row → ℕ
entry_count [] = 0
entry_count (r ∷ rs) = r.count + entry_count rs

-- In memory a row is one word of 32 bits: the number in its low 16 bits, then the levels and the entry count in 8 each.
unfoldable pub row_word : Row → ℕ
row_word r = r.number + r.levels * 65536 + r.count * 16777216

-- The row that a word holds.
unfoldable pub row_of : ℕ → Row
row_of w = record { number = w % 65536; levels = w / 65536 % 256; count = w / 16777216 % 256 }

-- The plan that lies in memory as the words rs, one per row, and the words ws of its entries.
abbrev pub plan_of : List ℕ → List ℕ → Plan
plan_of rs ws = record { rows = map row_of rs; entries = entries_of ws (length ws / entry_size) }

-- A row fits the file. The widths of its fields in bytes, in the file and in memory: node number (2), levels (1), entry
-- count (1).
pub record RowFits (r : Row) : Type 0 where
  pub number : r.number < 65536
  pub levels : r.levels < 256
  pub count : r.count < 256

-- Every row of a list fits.
abbrev pub RowsFit : List Row → Type 0
RowsFit [] = Unit
RowsFit (r ∷ rs) = RowFits r × RowsFit rs

-- Every row and every entry of a plan fits.
pub record PlanFits (p : Plan) : Type 0 where
  pub rows : RowsFit p.rows
  pub entries : EntriesFit p.entries
