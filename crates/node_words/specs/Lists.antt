-- How a change alters a list of entries, and how a node's words hold the list.
use Rattle.std.specs.Prelude.{ℕ, suc, ◌+◌, ◌-◌, List, ◌∷◌, ◌++◌, length, take, drop, replicate}
use Rattle.task_model.specs.declared.Entry.{Entry}
use Rattle.node_words.specs.Words.{node_size}

-- The list with e inserted before a position.
abbrev pub insert_at : ℕ → Entry → List Entry → List Entry
insert_at position e es = take position es ++ e ∷ drop position es

-- The list without the entry at a position.
abbrev pub remove_at : ℕ → List Entry → List Entry
remove_at position es = take position es ++ drop (suc position) es

-- The list with e in place of the entry at a position.
abbrev pub replace_at : ℕ → Entry → List Entry → List Entry
replace_at position e es = take position es ++ e ∷ drop (suc position) es

-- The list with new entries in place of the `gone` entries from a position on. The three changes above are cases of this
-- (`insert_is`, `remove_is`, `replace_is`).
abbrev pub splice : ℕ → ℕ → List Entry → List Entry → List Entry
splice position gone new es = take position es ++ (new ++ drop (position + gone) es)

-- n zero words.
abbrev pub zeros : ℕ → List ℕ
zeros n = replicate n 0

-- The words ws, filled up with zeros to the size of a node.
unfoldable pub zero_padded : List ℕ → List ℕ
zero_padded ws = ws ++ zeros (node_size - length ws)
