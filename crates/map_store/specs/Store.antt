-- The store of a node: its map and every entry's completion time under it, in words of 32 bits.
use Rattle.std.specs.Prelude.{ℕ, zero, suc, ◌+◌, ◌-◌, ◌*◌, ◌%◌, Bool, true, false, ◌&&◌, List, [], ◌∷◌, ◌++◌, length, get_or, leb, eqb}
use Rattle.std.proofs.Math.Option.{Option, none, some}
use Rattle.task_model.specs.declared.Entry.{Entry}
use Rattle.task_model.specs.Limits.{most_entries, Node}
use Rattle.node_words.specs.Lists.{zeros}
use Rattle.completion.specs.Test.{completion_test, time_in}
use Rattle.level_map.specs.Assignments.{level_of, levels_used, EntryTest}
use Rattle.level_map.specs.Map.{map_under}

-- How many words a store has: whether there is a map, how many levels it uses, and for each of 64 positions a level and a
-- completion time.
abbrev pub store_size : ℕ
store_size = 2 + 2 * most_entries

-- Where the levels begin, and where the times do.
abbrev pub levels_at : ℕ
levels_at = 2

abbrev pub times_at : ℕ
times_at = 2 + most_entries

-- The list f 0, f 1 and so on to f (n - 1).
unfoldable pub up_to : (ℕ → ℕ) → ℕ → List ℕ
up_to f zero = []
up_to f (suc n) = up_to f n ++ (f n ∷ [])

-- The words ws, filled up with zeros to a word for each of 64 positions.
unfoldable pub padded : List ℕ → List ℕ
padded ws = ws ++ zeros (most_entries - length ws)

-- The completion time of every entry under the levels m, by a test; 0 for an entry that is late.
unfoldable pub times_under : EntryTest → List Entry → List ℕ → List ℕ
times_under test es m = up_to (λ i. time_in (test es (level_of m) i)) (length es)

-- The store of entries that have this map: 1, how many levels it uses, the level of each entry, and its completion time. If
-- there is no map, all words are 0.
unfoldable pub keeping : EntryTest → List Entry → Option (List ℕ) → List ℕ
keeping test es none = zeros store_size
keeping test es (some m) = 1 ∷ levels_used m ∷ (padded m ++ padded (times_under test es m))

-- The store of a node under a test: that of its map.
unfoldable pub store_under : EntryTest → Node → List ℕ
store_under test n = keeping test n.entries (map_under test n.entries n.levels)

-- The store of a node, under the completion time test.
abbrev pub store_of : Node → List ℕ
store_of n = store_under completion_test n

-- What a store says, whatever words it has. It has a map on `levels` levels if its first word is 1 and its second, how many
-- levels the map uses, is no more than that.
unfoldable pub has_map : List ℕ → ℕ → Bool
has_map store levels = eqb (get_or store 0 0) 1 && leb (get_or store 1 0) levels

-- How many levels that map uses.
abbrev pub stored_used : List ℕ → ℕ
stored_used store = get_or store 1 0

-- The levels of the first n entries under it, each in one byte: of a larger word, the low 8 bits.
unfoldable pub stored_levels : List ℕ → ℕ → List ℕ
stored_levels store n = up_to (λ j. get_or store (levels_at + j) 0 % 256) n

-- The completion time of the entry at i under it.
abbrev pub stored_time : List ℕ → ℕ → ℕ
stored_time store i = get_or store (times_at + i) 0

-- What the words `store` become once the level count is set, from `before` to that of the node n. If they have a map on the new
-- count, they stay; else, if the count rises, the store is worked out afresh; else all words are 0. So the store of a node becomes
-- that of the node with the new count (`levels_set`): a map that uses more levels is lost, and without a map on `before`
-- levels it has none on fewer either.
unfoldable pub store_at_levels : EntryTest → (before : ℕ) → Node → List ℕ → List ℕ
store_at_levels test before n store =
    elim (has_map store n.levels) [
      | true ↦ store
      | false ↦ elim (leb n.levels before) [
        | true ↦ zeros store_size
        | false ↦ store_under test n
      ]
    ]
