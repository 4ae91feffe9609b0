-- Setting the level count: what it makes of a store.
use Prim.Native.Nat.{ℕ, ◌≤◌, ◌<◌}
use mathlib.Core.Path.{◌≡◌, ◌∙◌, sym, ap}
use mathlib.Core.Bool.{true, false}
use mathlib.Core.Logic.{⊎_elim, by_cases}
use mathlib.Core.Option.{none, some}
use mathlib.Core.List.{List}
use native.Mathlib.Omega.{arith}
use native.Mathlib.Decide.{dec_le}
use lib.ListN.{length}
use borrow.Author.Tests.{le-leb, lt-leb}
use Rattle.task_model.proofs.Tests.{true_or_false}
use Rattle.task_model.specs.Limits.{most_entries, Node, AllHold, NodeHolds}
use Rattle.node_words.specs.Lists.{zeros}
use Rattle.completion.specs.Test.{completion_test}
use Rattle.level_map.specs.Assignments.{EntryTest, levels_used}
use Rattle.level_map.specs.Map.{the_map}
use Rattle.level_map.proofs.Theorems.{mapping, map_fewer, map_too_few, none_fewer, map_more}
use Rattle.map_store.specs.Store.{store_size, store_under, store_of, has_map, store_at_levels}
use Rattle.map_store.proofs.Filling.{store_some, store_none}
use Rattle.map_store.proofs.Theorems.{by_map, store_size_lem, stored_on, stored_none}

-- what setting the level count makes of any words, by each of its tests
module _ (test : EntryTest) (before : ℕ) (n : Node) (store : List ℕ) where
  pub levels_kept : has_map store n.levels ≡ true → store_at_levels test before n store ≡ store
  unfolding store_at_levels
  levels_kept p = rw (p, store_at_levels)

  module _ (p : has_map store n.levels ≡ false) where
    pub levels_cleared : n.levels ≤ before → store_at_levels test before n store ≡ zeros store_size
    unfolding store_at_levels
    levels_cleared h = rw (p, le-leb n.levels before h, store_at_levels)

    pub levels_afresh : before < n.levels → store_at_levels test before n store ≡ store_under test n
    unfolding store_at_levels
    levels_afresh h = rw (p, lt-leb n.levels before h, store_at_levels)

-- It has all its words again,
pub levels_size : (before : ℕ) (n : Node) → AllHold n.entries → length n.entries ≤ most_entries → (store : List ℕ)
    → length store ≡ store_size → length (store_at_levels completion_test before n store) ≡ store_size
levels_size before n hold few store size =
    ⊎_elim
    (λ p. ap length (levels_kept completion_test before n store p) ∙ size)
    (λ p.
    by_cases (dec_le n.levels before)
    (λ h. ap length (levels_cleared completion_test before n store p h))
    (λ z. ap length (levels_afresh completion_test before n store p (omega arith)) ∙ store_size_lem n hold few))
    (true_or_false (has_map store n.levels))

-- and the store of a node becomes the store of the node with the new count.
module _ (n : Node) (holds : NodeHolds n) (levels : ℕ) where
  abbrev set : Node
  set = record { levels = levels; entries = n.entries }

  abbrev left_by : List ℕ
  left_by = store_at_levels completion_test n.levels set (store_of n)

  -- with a map on as many levels as there were
  module _ (m : List ℕ) (p : the_map n.entries n.levels ≡ some m) where
    same : the_map n.entries levels ≡ some m → store_of n ≡ store_of set
    same q = store_some completion_test n m p ∙ sym (store_some completion_test set m q)

    still : levels_used m ≤ levels → left_by ≡ store_of set
    still few =
        levels_kept completion_test n.levels set (store_of n) (stored_on n holds m p levels true (le-leb _ _ few))
        ∙ same
        (by_cases (dec_le levels n.levels)
        (λ h. map_fewer n.entries holds.each n.levels levels h m p few)
        (λ z. map_more n.entries holds.each levels n.levels (omega arith) m p))

    lost : levels < levels_used m → left_by ≡ store_of set
    lost many =
        let h : levels ≤ n.levels = omega (arith, (mapping n.entries holds.each n.levels m p).chosen.within) in
        levels_cleared completion_test n.levels set (store_of n) (stored_on n holds m p levels false (lt-leb _ _ many)) h
        ∙ sym (store_none completion_test set (map_too_few n.entries holds.each n.levels levels h m p many))

  never : the_map n.entries n.levels ≡ none → left_by ≡ store_of set
  never p =
      by_cases (dec_le levels n.levels)
      (λ h.
      levels_cleared completion_test n.levels set (store_of n) (stored_none n holds p levels) h
      ∙ sym (store_none completion_test set (none_fewer n.entries holds.each n.levels levels h p)))
      (λ z. levels_afresh completion_test n.levels set (store_of n) (stored_none n holds p levels) (omega arith))

  pub levels_set : store_at_levels completion_test n.levels (record { levels = levels; entries = n.entries }) (store_of n)
      ≡ store_of (record { levels = levels; entries = n.entries })
  levels_set =
      ⊎_elim
      (λ y.
      by_cases (dec_le (levels_used y.0) levels)
      (λ few. still y.0 y.1 few)
      (λ z. lost y.0 y.1 (omega arith)))
      never
      (by_map (the_map n.entries n.levels))
