-- Figures of entries that start late (docs/SPEC.md, 'Entries that start late'), as one table. proofs/JitterCases shows that
-- all of it holds.
use Rattle.std.specs.Prelude.{ℕ, List, [], ◌∷◌}
use Rattle.refusals.specs.Refusals.{at}
use Rattle.task_model.specs.declared.Entry.{Entry}
use Rattle.completion.specs.Test.{on_time, late}
use Rattle.level_map.specs.Cases.{Claim, a_node, turned_back, maps_to, no_map, answered, answered_at, bounded_at, entry_with, entry, task}

-- Case P with J j on its third entry.
abbrev pub jittered_p : ℕ → List Entry
jittered_p j = task 1 20 100 100 ∷ task 2 30 145 145 ∷ entry_with 3 68 150 150 0 0 j ∷ []

-- 3/10/10 with J j, and 5/20/20.
abbrev pub jittered_pair : ℕ → List Entry
jittered_pair j = entry_with 1 3 10 10 0 0 j ∷ task 2 5 20 20 ∷ []

-- Case V with J j on its first entry.
abbrev pub jittered_v : ℕ → List Entry
jittered_v j = entry_with 1 1 5 5 0 0 j ∷ entry 2 4 20 20 1 10 ∷ []

-- 2/10/10 with J j, and 3/30/30 with r 1.
abbrev pub jittered_beside : ℕ → List Entry
jittered_beside j = entry_with 1 2 10 10 0 0 j ∷ entry 2 3 30 30 1 0 ∷ []

-- Case H with these J on its entries.
abbrev pub jittered_h : ℕ → ℕ → ℕ → List Entry
jittered_h j k l = entry_with 1 2 5 5 0 0 j ∷ entry_with 2 1 20 20 0 0 k ∷ entry_with 3 2 20 8 0 3 l ∷ []

-- 3/10/10 with J 8, which is above D - C.
abbrev pub too_much_jitter : List Entry
too_much_jitter = entry_with 1 3 10 10 0 0 8 ∷ []

-- The table.
unfoldable pub jitter_cases : List Claim
jitter_cases =
    -- P: with J 12 the third may end at 138, which it does; with J 13 it may not.
    a_node (jittered_p 12) 2
    ∷ maps_to (jittered_p 12) 2 (1 ∷ 2 ∷ 2 ∷ []) 2
    ∷ answered (jittered_p 12) (1 ∷ 2 ∷ 2 ∷ []) (on_time 20 1 ∷ on_time 138 2 ∷ on_time 138 2 ∷ [])
    ∷ a_node (jittered_p 13) 2
    ∷ no_map (jittered_p 13) 2
    -- the J of the other entry counts: apart, the second takes 11 instead of 8, and the bound on its rounds is 3 instead of 2
    ∷ a_node (jittered_pair 4) 2
    ∷ answered_at (jittered_pair 4) (1 ∷ 2 ∷ []) 1 (on_time 11 2)
    ∷ bounded_at (jittered_pair 4) (1 ∷ 2 ∷ []) 1 3
    ∷ a_node (jittered_pair 0) 2
    ∷ answered_at (jittered_pair 0) (1 ∷ 2 ∷ []) 1 (on_time 8 1)
    ∷ bounded_at (jittered_pair 0) (1 ∷ 2 ∷ []) 1 2
    ∷ answered_at (jittered_pair 4) (1 ∷ 1 ∷ []) 0 (late 0 2)
    ∷ maps_to (jittered_pair 4) 2 (1 ∷ 2 ∷ []) 2
    -- V: on the own level the count is cut at r + 1, with J as without
    ∷ a_node (jittered_v 2) 2
    ∷ answered_at (jittered_v 2) (1 ∷ 1 ∷ []) 1 (on_time 16 2)
    ∷ answered_at (jittered_v 2) (1 ∷ 1 ∷ []) 0 (late 0 2)
    ∷ answered_at (jittered_v 2) (1 ∷ 2 ∷ []) 1 (on_time 18 2)
    ∷ a_node (jittered_v 4) 2
    ∷ answered_at (jittered_v 4) (1 ∷ 2 ∷ []) 1 (on_time 19 3)
    -- J counts on the own level too
    ∷ a_node (jittered_beside 8) 2
    ∷ answered_at (jittered_beside 8) (1 ∷ 1 ∷ []) 1 (on_time 7 2)
    ∷ a_node (jittered_beside 0) 2
    ∷ answered_at (jittered_beside 0) (1 ∷ 1 ∷ []) 1 (on_time 5 1)
    -- H: as before with J 15 on its second; no map with one tick more, or with any J on the others
    ∷ a_node (jittered_h 0 15 0) 3
    ∷ maps_to (jittered_h 0 15 0) 3 (1 ∷ 1 ∷ 1 ∷ []) 1
    ∷ a_node (jittered_h 0 16 0) 3
    ∷ no_map (jittered_h 0 16 0) 3
    ∷ a_node (jittered_h 1 0 0) 3
    ∷ no_map (jittered_h 1 0 0) 3
    ∷ a_node (jittered_h 0 0 1) 3
    ∷ no_map (jittered_h 0 0 1) 3
    -- a J outside its range is refused
    ∷ turned_back too_much_jitter 1 (at 14 0 0)
    ∷ []
