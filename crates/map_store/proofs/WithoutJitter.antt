-- For entries whose J is 0, the store is that under the test without J.
use Prim.Native.Nat.{ℕ}
use mathlib.Core.Path.{◌≡◌, ◌∙◌, refl, ap, ap₂}
use mathlib.Core.Bool.{true, false}
use mathlib.Core.Option.{Option, none, some}
use mathlib.Core.List.{List, ◌∷◌, ◌++◌}
use lib.ListN.{length}
use lib.Dec.{leb, ltb}
use Rattle.refusals.specs.Refusals.{at, ◌and_then◌, must_hold}
use Rattle.refusals.specs.Answers.{giving}
use Rattle.task_model.specs.declared.Entry.{Entry}
use Rattle.task_model.specs.Limits.{Node}
use Rattle.task_model.specs.WithoutJitter.{Punctual}
use Rattle.node_words.specs.Lists.{zeros}
use Rattle.completion.specs.Test.{completion_test, time_in}
use Rattle.completion.specs.WithoutJitter.{punctual_test}
use Rattle.completion.proofs.WithoutJitter.{test_punctual}
use Rattle.level_map.specs.Assignments.{level_of, levels_used}
use Rattle.level_map.specs.Answer.{is_some}
use Rattle.level_map.proofs.WithoutJitter.{map_punctual, levels_punctual}
use Rattle.map_store.specs.Store.{store_size, padded, times_under, keeping, store_of, store_under, store_at_levels, has_map}
use Rattle.map_store.specs.Asking.{fresh_time_check, fresh_time}
use Rattle.map_store.proofs.Lists.{up_to-same}

module _ (es : List Entry) (punctual : Punctual es) where
  times_punctual : (m : List ℕ) → times_under completion_test es m ≡ times_under punctual_test es m
  unfolding times_under
  times_punctual m = up_to-same _ _ (length es) (λ i h. ap time_in (test_punctual es punctual (level_of m) i))

  keeping_punctual : (o : Option (List ℕ)) → keeping completion_test es o ≡ keeping punctual_test es o
  unfolding keeping
  keeping_punctual none = refl
  keeping_punctual (some m) = ap (λ ts. 1 ∷ levels_used m ∷ (padded m ++ padded ts)) (times_punctual m)

module _ (n : Node) (punctual : Punctual n.entries) where
  pub store_punctual : store_of n ≡ store_under punctual_test n
  unfolding store_under
  store_punctual = keeping_punctual n.entries punctual _ ∙ ap (keeping punctual_test n.entries) (map_punctual n.entries punctual n.levels)

  -- So is what a store becomes once the level count is set,
  pub at_levels_punctual : (before : ℕ) (store : List ℕ)
      → store_at_levels completion_test before n store ≡ store_at_levels punctual_test before n store
  unfolding store_at_levels
  at_levels_punctual before store =
      ap (λ st. elim (has_map store n.levels) [ true ↦ store | false ↦ elim (leb n.levels before) [ true ↦ zeros store_size | false ↦ st ] ])
      store_punctual

-- and the time of an entry under the map, worked out afresh.
module _ (n : Node) (punctual : Punctual n.entries) (i : ℕ) where
  pub fresh_check_punctual : fresh_time_check completion_test n i ≡ fresh_time_check punctual_test n i
  unfolding fresh_time_check
  fresh_check_punctual =
      ap (λ o. must_hold (ltb i (length n.entries)) (at 12 0 0) and_then must_hold (is_some o) (at 11 0 0))
      (map_punctual n.entries punctual n.levels)

  pub fresh_punctual : fresh_time completion_test n i ≡ fresh_time punctual_test n i
  unfolding fresh_time
  fresh_punctual =
      ap₂ giving fresh_check_punctual
      (ap time_in (test_punctual n.entries punctual _ i)
      ∙ ap (λ m. time_in (punctual_test n.entries (level_of m) i)) (levels_punctual n punctual))
