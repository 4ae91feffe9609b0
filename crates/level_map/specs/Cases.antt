-- The cases of docs/SPEC.md with their figures, as one table. proofs/Cases shows that all of it holds.
use Rattle.std.specs.Prelude.{ℕ, zero, suc, ◌+◌, ◌*◌, ◌/◌, ◌<◌, min, ◌≡◌, true, false, List, [], ◌∷◌, ◌++◌, map, length, leb}
use Rattle.std.proofs.Math.Option.{Option, none, some}
use Rattle.task_model.specs.declared.Entry.{Entry}
use Rattle.refusals.specs.Refusals.{Numbered, refused}
use Rattle.task_model.specs.Limits.{entry_at, NodeHolds}
use Rattle.task_model.specs.Checks.{node_check}
use Rattle.completion.specs.Demand.{sum_to, only, more_urgent, shares_level, higher_level_interference, demand, initial_time}
use Rattle.completion.specs.Test.{Completion, on_time, late, test_from, completion_test, rounds_bound}
use Rattle.level_map.specs.Assignments.{level_of, levels_used}
use Rattle.level_map.specs.Map.{the_map}

-- A task with its number, C, T and D, r calls, blocking B and jitter J.
abbrev pub entry_with : ℕ → ℕ → ℕ → ℕ → ℕ → ℕ → ℕ → Entry
entry_with n c t d r b j = record { number = n; kind = 1; calls = r; wcet = c; period = t; deadline = d; blocking = b; jitter = j }

-- A task with J 0.
abbrev pub entry : ℕ → ℕ → ℕ → ℕ → ℕ → ℕ → Entry
entry n c t d r b = entry_with n c t d r b 0

-- A task with r and B 0.
abbrev pub task : ℕ → ℕ → ℕ → ℕ → Entry
task n c t d = entry n c t d 0 0

-- The entries of each case.
abbrev pub case_p : List Entry
case_p = task 1 20 100 100 ∷ task 2 30 145 145 ∷ task 3 68 150 150 ∷ []

abbrev pub case_q : List Entry
case_q = task 1 20 100 100 ∷ task 2 30 145 145 ∷ task 3 68 150 138 ∷ []

abbrev pub case_r : List Entry
case_r = task 1 20 100 100 ∷ task 2 30 145 145 ∷ task 3 68 150 137 ∷ []

abbrev pub case_f : List Entry
case_f = case_p

abbrev pub case_h : List Entry
case_h = task 1 2 5 5 ∷ task 2 1 20 20 ∷ entry 3 2 20 8 0 3 ∷ []

abbrev pub case_s : List Entry
case_s = task 1 20 100 100 ∷ task 2 78 150 150 ∷ task 3 30 160 145 ∷ []

abbrev pub case_u : List Entry
case_u = entry 1 20 100 100 0 10 ∷ entry 2 30 160 145 0 10 ∷ task 3 78 150 150 ∷ []

abbrev pub case_v : List Entry
case_v = task 1 1 5 5 ∷ entry 2 4 20 20 1 10 ∷ []

abbrev pub case_e : List Entry
case_e = []

-- 1, 2, .., n.
unfoldable pub count_to : ℕ → List ℕ
count_to zero = []
count_to (suc n) = count_to n ++ (suc n ∷ [])

-- The entries' own numbers, in listed order.
abbrev pub numbers : List Entry → List ℕ
numbers es = map (λ (e : Entry). e.number) es

-- The answers for the first n entries, under the levels `a`.
unfoldable pub answers_to : List Entry → List ℕ → ℕ → List Completion
answers_to es a zero = []
answers_to es a (suc n) = answers_to es a n ++ (completion_test es (level_of a) n ∷ [])

-- The answers for all entries.
abbrev pub answers : List Entry → List ℕ → List Completion
answers es a = answers_to es a (length es)

-- The completion time of an answer, if it has one.
abbrev pub time_in : Completion → Option ℕ
time_in (on_time time rounds) = some time
time_in (late rounds overrun) = none

-- The completion times of all entries.
abbrev pub times : List Entry → List ℕ → List (Option ℕ)
times es a = map time_in (answers es a)

-- A wrong demand: ⌊t/T⌋ for the other entries on the same level, as Bethmangalkar prints it (equation 4.2).
unfoldable pub floor_demand : List Entry → (ℕ → ℕ) → ℕ → ℕ → ℕ
floor_demand es level i t =
    (entry_at es i).wcet + (entry_at es i).blocking
    + sum_to (λ j. only (more_urgent level i j) (higher_level_interference (entry_at es j) t)) (length es)
    + sum_to (λ j. only (shares_level level i j) ((entry_at es j).wcet * min (t / (entry_at es j).period) ((entry_at es i).calls + 1))) (length es)

-- Another wrong demand: only one job of each other entry on the same level.
unfoldable pub one_run_demand : List Entry → (ℕ → ℕ) → ℕ → ℕ → ℕ
one_run_demand es level i t =
    (entry_at es i).wcet + (entry_at es i).blocking
    + sum_to (λ j. only (more_urgent level i j) (higher_level_interference (entry_at es j) t)) (length es)
    + sum_to (λ j. only (shares_level level i j) (entry_at es j).wcet) (length es)

-- Among the n times from t on, the least whose demand is at most that time, if there is one.
unfoldable pub least_from : (ℕ → ℕ) → ℕ → ℕ → Option ℕ
least_from w zero t = none
least_from w (suc n) t = elim (leb (w t) t) [ true ↦ some t | false ↦ least_from w n (suc t) ]

-- What a line of the table says about a node, given by its entries.
pub data Claim : Type 0 where
  -- with this count of levels, it is a node within the limits, and its entries are numbered 1, 2, 3 and so on
  a_node : (es : List Entry) (levels : ℕ) → Claim
  -- with this count of levels, the check of the node refuses it
  turned_back : (es : List Entry) (levels : ℕ) → Numbered → Claim
  -- with this count of levels, its map is m, which uses `used` levels
  maps_to : (es : List Entry) (levels : ℕ) (m : List ℕ) (used : ℕ) → Claim
  -- with this count of levels, it has no map
  no_map : (es : List Entry) (levels : ℕ) → Claim
  -- under the levels `a`, the answers for its entries, with the rounds; or the times alone
  answered : (es : List Entry) (a : List ℕ) → List Completion → Claim
  timed : (es : List Entry) (a : List ℕ) → List (Option ℕ) → Claim
  -- under the levels `a`, the answer for the entry at i
  answered_at : (es : List Entry) (a : List ℕ) (i : ℕ) → Completion → Claim
  -- under the levels `a`, the demand of the entry at i at time t is x
  demand_at : (es : List Entry) (a : List ℕ) (i t x : ℕ) → Claim
  -- under the levels `a`, the bound on the rounds of the entry at i
  bounded_at : (es : List Entry) (a : List ℕ) (i bound : ℕ) → Claim
  -- under the levels `a`, the entry at i is late; with a deadline of t, it would end at t
  would_take : (es : List Entry) (a : List ℕ) (i t : ℕ) → Claim
  -- under the levels `a`, the entry at i is late
  late_at : (es : List Entry) (a : List ℕ) (i : ℕ) → Claim
  -- under the levels `a`, with the floor, the entry at i would end at t, by its deadline
  floor_at : (es : List Entry) (a : List ℕ) (i t : ℕ) → Claim
  -- under the levels `a`, with one job per other entry of its level, the entry at i would end at t; its real demand at t is
  -- above t
  one_run_at : (es : List Entry) (a : List ℕ) (i t : ℕ) → Claim

-- What each line means.
abbrev pub Holds : Claim → Type 0
Holds (a_node es levels) =
    NodeHolds (record { levels = levels; entries = es }) × (numbers es ≡ count_to (length es))
Holds (turned_back es levels r) = node_check 0 (record { levels = levels; entries = es }) ≡ refused r
Holds (maps_to es levels m used) = (the_map es levels ≡ some m) × (levels_used m ≡ used)
Holds (no_map es levels) = the_map es levels ≡ none
Holds (answered es a cs) = answers es a ≡ cs
Holds (timed es a ts) = times es a ≡ ts
Holds (answered_at es a i c) = completion_test es (level_of a) i ≡ c
Holds (demand_at es a i t x) = demand es (level_of a) i t ≡ x
Holds (bounded_at es a i bound) = rounds_bound es (level_of a) i ≡ bound
Holds (would_take es a i t) =
    (time_in (completion_test es (level_of a) i) ≡ none)
    × (time_in (test_from (demand es (level_of a) i) t (initial_time es (level_of a) i) 0) ≡ some t)
Holds (late_at es a i) = time_in (completion_test es (level_of a) i) ≡ none
Holds (floor_at es a i t) = least_from (floor_demand es (level_of a) i) (entry_at es i).deadline 1 ≡ some t
Holds (one_run_at es a i t) =
    (time_in (test_from (one_run_demand es (level_of a) i) (entry_at es i).deadline (initial_time es (level_of a) i) 0) ≡ some t)
    × (t < demand es (level_of a) i t)

-- Every line of a list holds.
abbrev pub All : List Claim → Type 0
All [] = Unit
All (c ∷ cs) = Holds c × All cs

-- The table. Positions count from 0: the entry with number 1 is at position 0.
unfoldable pub cases : List Claim
cases =
    -- P: the map and the figures of its listing. Q: third D 138, same times. R: third D 137, no map.
    a_node case_p 2
    ∷ maps_to case_p 2 (1 ∷ 2 ∷ 2 ∷ []) 2
    ∷ answered case_p (1 ∷ 2 ∷ 2 ∷ []) (on_time 20 1 ∷ on_time 138 2 ∷ on_time 138 2 ∷ [])
    ∷ a_node case_q 2
    ∷ maps_to case_q 2 (1 ∷ 2 ∷ 2 ∷ []) 2
    ∷ answered case_q (1 ∷ 2 ∷ 2 ∷ []) (on_time 20 1 ∷ on_time 138 2 ∷ on_time 138 2 ∷ [])
    ∷ a_node case_r 2
    ∷ no_map case_r 2
    -- F: P with 1 level, no map: entry 1 would take 118. With the floor, all three would be on time.
    ∷ a_node case_f 1
    ∷ no_map case_f 1
    ∷ would_take case_f (1 ∷ 1 ∷ 1 ∷ []) 0 118
    ∷ floor_at case_f (1 ∷ 1 ∷ 1 ∷ []) 0 20
    ∷ floor_at case_f (1 ∷ 1 ∷ 1 ∷ []) 1 30
    ∷ floor_at case_f (1 ∷ 1 ∷ 1 ∷ []) 2 68
    -- H: the third is late alone, and late together with the second. All on level 1: times 5, 5, 8.
    ∷ a_node case_h 3
    ∷ late_at case_h (1 ∷ 2 ∷ 3 ∷ []) 2
    ∷ late_at case_h (1 ∷ 1 ∷ 2 ∷ []) 2
    ∷ late_at case_h (1 ∷ 2 ∷ 2 ∷ []) 2
    ∷ maps_to case_h 3 (1 ∷ 1 ∷ 1 ∷ []) 1
    ∷ timed case_h (1 ∷ 1 ∷ 1 ∷ []) (some 5 ∷ some 5 ∷ some 8 ∷ [])
    -- S: no map. The third would take 148; with all on one level, the first would take 128.
    ∷ a_node case_s 3
    ∷ no_map case_s 3
    ∷ would_take case_s (1 ∷ 2 ∷ 3 ∷ []) 2 148
    ∷ would_take case_s (1 ∷ 1 ∷ 2 ∷ []) 2 148
    ∷ would_take case_s (1 ∷ 2 ∷ 2 ∷ []) 2 148
    ∷ would_take case_s (1 ∷ 1 ∷ 1 ∷ []) 0 128
    -- U: map 1, 1, 2, times 60, 60, 148.
    ∷ a_node case_u 2
    ∷ maps_to case_u 2 (1 ∷ 1 ∷ 2 ∷ []) 2
    ∷ timed case_u (1 ∷ 1 ∷ 2 ∷ []) (some 60 ∷ some 60 ∷ some 148 ∷ [])
    -- V: on one level, the second has time 16, rounds 2; on two levels, 18, rounds 3. With one own-level job only it would
    -- be 15, which is wrong.
    ∷ a_node case_v 2
    ∷ answered_at case_v (1 ∷ 1 ∷ []) 1 (on_time 16 2)
    ∷ answered_at case_v (1 ∷ 2 ∷ []) 1 (on_time 18 3)
    ∷ one_run_at case_v (1 ∷ 1 ∷ []) 1 15
    -- E: the empty node, 0 levels.
    ∷ a_node case_e 1
    ∷ maps_to case_e 1 [] 0
    ∷ a_node case_e 64
    ∷ maps_to case_e 64 [] 0
    ∷ []
