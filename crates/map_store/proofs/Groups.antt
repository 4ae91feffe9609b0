-- The store of a node's entries, stored group by group under the cuts of their map.
use Prim.Native.Nat.{ℕ, suc, ◌+◌, ◌-◌, ◌*◌, ◌≤◌, ◌<◌}
use mathlib.Core.Path.{◌≡◌, ◌∙◌, sym}
use mathlib.Core.Option.{some}
use mathlib.Core.List.{List, ◌∷◌}
use native.Mathlib.Omega.{arith}
use lib.ListN.{length, replicate}
use borrow.Rule.Slice.PartMut.{put_mid}
use Rattle.task_model.specs.Limits.{most_entries}
use Rattle.node_words.specs.declared.held.HeldEntries.{HeldEntries}
use Rattle.node_words.specs.Held.{held_entries}
use Rattle.node_words.specs.Lists.{zeros}
use Rattle.node_words.proofs.Entries.{length-entries}
use Rattle.completion.specs.Group.{group_level}
use Rattle.completion.specs.Test.{completion_test, time_in}
use Rattle.level_map.specs.declared.cuts.Cuts.{Cuts}
use Rattle.level_map.specs.Assignments.{levels_used}
use Rattle.level_map.specs.Cuts.{before}
use Rattle.level_map.specs.Found.{starts_in, levels_in}
use Rattle.level_map.proofs.Filled.{filled_mid}
use Rattle.level_map.proofs.InOrder.{levels_count, first_start}
use Rattle.map_store.specs.Store.{levels_at, times_at, keeping}
use Rattle.map_store.specs.Putting.{Put, Agrees}
use Rattle.map_store.proofs.Putting.{put_filled}
use Rattle.map_store.proofs.Filling.{agrees_begin, agrees_next, agrees_all, keeping_size, level_due, time_due}

module _ (n : HeldEntries) (cuts : Cuts) (same : cuts.count ≡ n.count) where
  many : length (held_entries n) ≡ cuts.count
  many = length-entries n.words.now 0 n.count ∙ sym same

  pub groups_begun : Agrees (keeping completion_test (held_entries n) (some (levels_in cuts))) (before 1 (levels_in cuts)) cuts.count
      (1 ∷ levels_used (levels_in cuts) ∷ zeros (2 * most_entries))
  groups_begun =
      rw (← first_start cuts)
      (agrees_begin completion_test (held_entries n) cuts.count many (levels_in cuts) (levels_count cuts) cuts.few)

  -- one group more: its levels, then its times
  pub group_stored : (level first end : ℕ) (w part w' : List ℕ)
      → first ≡ before level (levels_in cuts) → end ≡ before (suc level) (levels_in cuts) → first < end → end ≤ cuts.count
      → Agrees (keeping completion_test (held_entries n) (some (levels_in cuts))) (before level (levels_in cuts)) cuts.count w
      → part ≡ replicate (levels_at + end - (levels_at + first)) level
      → Put times_at first end (λ j. time_in (completion_test (held_entries n) (group_level first (end - 1)) j))
      (put_mid (levels_at + first) (levels_at + end - (levels_at + first)) w part) w'
      → Agrees (keeping completion_test (held_entries n) (some (levels_in cuts))) end cuts.count w'
  group_stored level first end w part w' starts ends grows inside a filled put =
      agrees_next _ first end cuts.count _ _ w _ w' (omega arith) inside cuts.few
      (level_due (held_entries n) cuts.count many (starts_in cuts) cuts.falling cuts.few level first end starts ends)
      (time_due (held_entries n) cuts.count many (starts_in cuts) cuts.falling cuts.few level first end starts ends)
      (rw (← starts) at a)
      (put_filled levels_at first end level w _
      (filled_mid (levels_at + first) (levels_at + end) level w (omega arith) (omega (arith, a.sized, cuts.few)) part filled))
      put

  pub groups_stored : (end : ℕ) (w : List ℕ) → end ≡ cuts.count
      → Agrees (keeping completion_test (held_entries n) (some (levels_in cuts))) end cuts.count w
      → w ≡ keeping completion_test (held_entries n) (some (levels_in cuts))
  groups_stored end w whole a =
      agrees_all _ w cuts.count
      (keeping_size completion_test (held_entries n) cuts.count many (levels_in cuts) (levels_count cuts) cuts.few)
      (rw whole at a)
