-- The store of each case of docs/SPEC.md with its figures, as one table. proofs/StoreCases shows that all of it holds.
use Rattle.std.specs.Prelude.{ℕ, ◌≡◌, Bool, true, false, List, [], ◌∷◌, length, take, drop}
use Rattle.task_model.specs.declared.Entry.{Entry}
use Rattle.task_model.specs.Limits.{Node}
use Rattle.completion.specs.Test.{completion_test}
use Rattle.level_map.specs.Cases.{case_p, case_r, case_h, case_s, case_u, case_v, case_e}
use Rattle.refusals.specs.Refusals.{at}
use Rattle.refusals.specs.Answers.{Answer, gives, refuses}
use Rattle.node_words.specs.Lists.{zeros}
use Rattle.map_store.specs.Store.{store_size, levels_at, times_at, store_of, has_map, stored_used, store_at_levels}
use Rattle.map_store.specs.Asking.{map_asked, time_asked}

-- The node with these entries and so many levels.
abbrev on : List Entry → ℕ → Node
on es levels = record { levels = levels; entries = es }

-- A line of the table.
pub data StoreClaim : Type 0 where
  -- the store of these entries on so many levels has a map, with this count of levels, these levels and these times
  stores : List Entry → (levels used : ℕ) → (map times : List ℕ) → StoreClaim
  -- the store has no map: all its words are 0
  lacks : List Entry → (levels : ℕ) → StoreClaim
  -- once the level count has been set from `before` to `levels`: whether the store has a map, and how many levels that uses; the
  -- store is that of the entries on `levels` levels
  sets : List Entry → (before levels : ℕ) → Bool → (used : ℕ) → StoreClaim
  -- what asking it for the map answers, into a buffer of so many bytes
  asks_for_map : List Entry → (levels room : ℕ) → Answer ℕ → StoreClaim
  -- what asking it for the time of the entry at i answers
  asks_for_time : List Entry → (levels i : ℕ) → Answer ℕ → StoreClaim
  -- what asking a store of zeros answers for a node without entries
  blank_asked : (levels : ℕ) → Answer ℕ → StoreClaim

-- What a line says.
abbrev pub StoreHolds : StoreClaim → Type 0
StoreHolds (stores es levels used map times) =
    (has_map (store_of (on es levels)) levels ≡ true)
    × (stored_used (store_of (on es levels)) ≡ used)
    × (take (length es) (drop levels_at (store_of (on es levels))) ≡ map)
    × (take (length es) (drop times_at (store_of (on es levels))) ≡ times)
StoreHolds (lacks es levels) = store_of (on es levels) ≡ zeros store_size
StoreHolds (sets es before levels b used) =
    (has_map (store_at_levels completion_test before (on es levels) (store_of (on es before))) levels ≡ b)
    × (stored_used (store_at_levels completion_test before (on es levels) (store_of (on es before))) ≡ used)
    × (store_at_levels completion_test before (on es levels) (store_of (on es before)) ≡ store_of (on es levels))
StoreHolds (asks_for_map es levels room a) = map_asked (store_of (on es levels)) levels (length es) room ≡ a
StoreHolds (asks_for_time es levels i a) = time_asked (store_of (on es levels)) levels (length es) i ≡ a
StoreHolds (blank_asked levels a) = map_asked (zeros store_size) levels 0 0 ≡ a

-- What all lines say.
abbrev pub AllStored : List StoreClaim → Type 0
AllStored [] = Unit
AllStored (c ∷ cs) = StoreHolds c × AllStored cs

-- The table. P has a map on 2 levels and none on 1: it loses its map when one level is set, and has it again with two. R and
-- S have none on 64 levels. An empty node has one, of 0 levels, and a store of zeros has none. 10 comes before 11, and 12
-- before 11.
unfoldable pub store_cases : List StoreClaim
store_cases =
    stores case_p 2 2 (1 ∷ 2 ∷ 2 ∷ []) (20 ∷ 138 ∷ 138 ∷ [])
    ∷ stores case_p 64 2 (1 ∷ 2 ∷ 2 ∷ []) (20 ∷ 138 ∷ 138 ∷ [])
    ∷ lacks case_p 1
    ∷ lacks case_r 64
    ∷ stores case_h 3 1 (1 ∷ 1 ∷ 1 ∷ []) (5 ∷ 5 ∷ 8 ∷ [])
    ∷ lacks case_s 64
    ∷ stores case_u 2 2 (1 ∷ 1 ∷ 2 ∷ []) (60 ∷ 60 ∷ 148 ∷ [])
    ∷ lacks case_u 1
    ∷ stores case_v 1 1 (1 ∷ 1 ∷ []) (5 ∷ 16 ∷ [])
    ∷ stores case_e 1 0 [] []
    ∷ sets case_p 3 2 true 2
    ∷ sets case_p 2 3 true 2
    ∷ sets case_p 2 1 false 0
    ∷ sets case_p 1 1 false 0
    ∷ sets case_p 1 2 true 2
    ∷ sets case_r 1 64 false 0
    ∷ sets case_e 64 1 true 0
    ∷ asks_for_map case_p 2 3 (gives 2)
    ∷ asks_for_map case_p 1 2 (refuses (at 10 0 0))
    ∷ asks_for_map case_p 1 3 (refuses (at 11 0 0))
    ∷ asks_for_map case_e 1 0 (gives 0)
    ∷ blank_asked 1 (refuses (at 11 0 0))
    ∷ asks_for_time case_p 2 2 (gives 138)
    ∷ asks_for_time case_p 1 3 (refuses (at 12 0 0))
    ∷ asks_for_time case_p 1 0 (refuses (at 11 0 0))
    ∷ asks_for_time case_e 1 0 (refuses (at 12 0 0))
    ∷ []
