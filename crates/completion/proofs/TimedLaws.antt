-- Laws of an entry that is timed in a group of its node: its limit, its demand, its initial time, and its test.
use Prim.Native.Nat.{ℕ, ◌+◌, ◌-◌, ◌≤◌, ◌<◌}
use mathlib.Core.Path.{◌≡◌, ◌∙◌, refl, sym, ap}
use mathlib.Core.List.{List}
use native.Mathlib.Nat.{le_of_lt}
use native.Mathlib.Omega.{arith}
use lib.ListN.{length}
use Rattle.task_model.specs.declared.Entry.{Entry}
use Rattle.task_model.specs.Limits.{most_ticks, entry_at, EntryHolds}
use Rattle.node_words.specs.Held.{held_entries}
use Rattle.node_words.specs.Words.{entry_of}
use Rattle.node_words.proofs.Entries.{length-entries, entry_of_lem}
use Rattle.completion.specs.declared.timed.TimedEntry.{TimedEntry}
use Rattle.completion.specs.Demand.{sum_to}
use Rattle.completion.specs.Group.{group_level}
use Rattle.completion.specs.Test.{Completion, test_from, is_on_time, rounds_in, rounds_bound}
use Rattle.completion.specs.Timed.{timed_limit, timed_demand, timed_start, timed_test}
use Rattle.completion.proofs.Bounds.{most_runs, limit_most, limit_run}
use Rattle.completion.proofs.Iteration.{loop_late}
use Rattle.completion.proofs.Words.{higher_level_of, same_level_of, wcet_of, words_parts, words_initial, words_up, words_begin, words_test, wcet_small}
use Rattle.completion.proofs.Theorems.{late_beyond, timing_right}

module _ (x : TimedEntry) where
  abbrev pub timed_words : List ℕ
  timed_words = x.node.words.now

  pub known : x.position < length (held_entries x.node)
  known = omega (arith, length-entries timed_words 0 x.node.count)

  pub last_known : x.last < length (held_entries x.node)
  last_known = omega (arith, length-entries timed_words 0 x.node.count)

  pub timed_own : entry_at (held_entries x.node) x.position ≡ entry_of timed_words x.position
  timed_own = entry_of_lem timed_words x.node.count x.position (omega arith)

  pub timed_holds : EntryHolds (entry_at (held_entries x.node) x.position)
  timed_holds = x.node.held x.position known

  pub limit_some : 1 ≤ timed_limit x
  limit_some = omega (arith, limit_run _ timed_holds, timed_holds.times)

  pub limit_few : timed_limit x ≤ most_ticks
  limit_few = limit_most _ timed_holds

  -- the demand from its parts, as code adds them up
  pub timed_parts : (b t : ℕ) (own : Entry) (urgent left right : ℕ) → own ≡ entry_at (held_entries x.node) x.position
      → urgent ≡ sum_to (higher_level_of timed_words t) x.first
      → left ≡ sum_to (same_level_of timed_words own.calls t) x.position - sum_to (same_level_of timed_words own.calls t) x.first
      → right ≡ sum_to (same_level_of timed_words own.calls t) (x.last + 1) - sum_to (same_level_of timed_words own.calls t) (x.position + 1)
      → own.wcet + b + urgent + left + right ≡ timed_demand b x t
  timed_parts b t own urgent left right o =
      words_parts timed_words x.node.count x.first x.last x.position (omega arith) (omega arith) (omega arith) b t own urgent left right (o ∙ timed_own)

  pub timed_initial : (b : ℕ) → timed_start b x ≡ b + sum_to (wcet_of timed_words) (x.last + 1)
  timed_initial = words_initial timed_words x.node.count x.first x.last x.position (omega arith) (omega arith) (omega arith)

  -- the C of the entries up to any position are a small sum
  pub runs_small : (m : ℕ) → m ≤ x.node.count → sum_to (wcet_of timed_words) m ≤ most_runs
  runs_small = wcet_small timed_words x.node.count x.node.held x.node.few

  module _ (b : ℕ) where
    pub timed_up : (s t : ℕ) → s ≤ t → timed_demand b x s ≤ timed_demand b x t
    timed_up = words_up timed_words x.node.count x.node.held x.first x.last x.position (omega arith) (omega arith) b

    pub timed_begin : (1 ≤ timed_start b x) × (timed_start b x ≤ timed_demand b x (timed_start b x))
    timed_begin = words_begin timed_words x.node.count x.node.held x.first x.last x.position (omega arith) (omega arith) b

    -- the whole test, from what code has found of it before its loop
    pub timed_whole : test_from (timed_demand b x) (timed_limit x) (timed_start b x) 0 ≡ timed_test b x
    timed_whole = words_test timed_words x.node.count x.node.held x.first x.last x.position (omega arith) (omega arith) b _ _ refl refl

    -- an answer that is the test's has rounds within their bound
    pub timed_bounded : (o : Completion) → o ≡ timed_test b x
        → rounds_in o ≤ rounds_bound (held_entries x.node) (group_level x.first x.last) x.position
    timed_bounded o p = (timing_right b (held_entries x.node) x.node.held (group_level x.first x.last) x.position known o p).bounded

    -- where the test goes beyond the limit, so does the demand at the limit
    pub timed_beyond : (t rounds : ℕ) → test_from (timed_demand b x) (timed_limit x) t rounds ≡ timed_test b x → timed_limit x < t
        → timed_limit x ≤ timed_demand b x (timed_limit x)
    timed_beyond t rounds p beyond =
        let o = loop_late _ _ timed_up _ _ _ p _ beyond refl in
        le_of_lt (late_beyond b (held_entries x.node) x.node.held (group_level x.first x.last) x.position known (ap is_on_time (sym o)))
