-- The demand and the initial time of an entry in a named group, computed from the words of the node.
use Prim.Native.Nat.{ℕ, ◌+◌, ◌-◌, ◌≤◌, ◌<◌}
use mathlib.Core.Path.{◌≡◌, ◌∙◌, ap}
use mathlib.Core.List.{List}
use native.Mathlib.Omega.{arith}
use lib.ListN.{length}
use Rattle.task_model.specs.declared.Entry.{Entry}
use Rattle.task_model.specs.Limits.{most_ticks, most_entries, entry_at, AllHold}
use Rattle.node_words.specs.Words.{entry_of, entries_of}
use Rattle.node_words.proofs.Entries.{length-entries, entry_of_lem, all_at}
use Rattle.completion.specs.Demand.{sum_to, higher_level_interference, same_level_interference, demand_with, initial_time_with}
use Rattle.completion.specs.Group.{group_level}
use Rattle.completion.specs.Test.{limit, test_from, test_with}
use Rattle.completion.proofs.Bounds.{most_runs}
use Rattle.completion.proofs.Sums.{sum_to-eq, sum_to-most}
use Rattle.completion.proofs.Interference.{demand_up, demand_some, initial_first}
use Rattle.completion.proofs.Groups.{same_level_in, named_group, demand_in_lem, initial_in}

abbrev pub higher_level_of : List ℕ → ℕ → ℕ → ℕ
higher_level_of ws t j = higher_level_interference (entry_of ws j) t

abbrev pub same_level_of : List ℕ → ℕ → ℕ → ℕ → ℕ
same_level_of ws calls t j = same_level_interference (entry_of ws j) calls t

abbrev pub wcet_of : List ℕ → ℕ → ℕ
wcet_of ws j = (entry_of ws j).wcet

module _ (ws : List ℕ) (n : ℕ) where
  -- a sum over entries is one over their words
  pub in_words : (f : Entry → ℕ) (m : ℕ) → m ≤ n
      → sum_to (λ j. f (entry_at (entries_of ws n) j)) m ≡ sum_to (λ j. f (entry_of ws j)) m
  in_words f m h = sum_to-eq _ _ m (λ j l. ap f (entry_of_lem ws n j (omega arith)))

  module _ (first last i : ℕ) (hf : first ≤ i) (hi : i ≤ last) (hl : last < n) where
    inside : last < length (entries_of ws n)
    inside = omega (arith, length-entries ws 0 n)

    pub words_demand : (b t : ℕ) → demand_with b (entries_of ws n) (group_level first last) i t
        ≡ (entry_of ws i).wcet + b + sum_to (higher_level_of ws t) first
        + (sum_to (same_level_of ws (entry_of ws i).calls t) i - sum_to (same_level_of ws (entry_of ws i).calls t) first)
        + (sum_to (same_level_of ws (entry_of ws i).calls t) (last + 1) - sum_to (same_level_of ws (entry_of ws i).calls t) (i + 1))
    words_demand b t =
        let es = entries_of ws n in
        let own : entry_at es i ≡ entry_of ws i = entry_of_lem ws n i (omega arith) in
        let same : (m : ℕ) → m ≤ n → sum_to (same_level_in es i t) m ≡ sum_to (same_level_of ws (entry_of ws i).calls t) m =
        λ m h. in_words (λ e. same_level_interference e (entry_at es i).calls t) m h
        ∙ ap (λ (e : Entry). sum_to (same_level_of ws e.calls t) m) own in
        demand_in_lem es first last i (group_level first last) (named_group first last (length es) i hf hi) hf hi inside b t
        ∙ rw (
          in_words (λ e. higher_level_interference e t) first (omega arith),
          same i (omega arith),
          same first (omega arith),
          same (last + 1) (omega arith),
          same (i + 1) (omega arith),
          own,
        )

    -- the same from its parts, as code adds them up
    pub words_parts : (b t : ℕ) (own : Entry) (urgent left right : ℕ) → own ≡ entry_of ws i → urgent ≡ sum_to (higher_level_of ws t) first
        → left ≡ sum_to (same_level_of ws own.calls t) i - sum_to (same_level_of ws own.calls t) first
        → right ≡ sum_to (same_level_of ws own.calls t) (last + 1) - sum_to (same_level_of ws own.calls t) (i + 1)
        → own.wcet + b + urgent + left + right ≡ demand_with b (entries_of ws n) (group_level first last) i t
    words_parts b t own urgent left right o u l r = rw (words_demand b t, u, l, r, o)

    pub words_initial : (b : ℕ) → initial_time_with b (entries_of ws n) (group_level first last) i ≡ b + sum_to (wcet_of ws) (last + 1)
    words_initial b =
        let es = entries_of ws n in
        initial_in es first last i (group_level first last) (named_group first last (length es) i hf hi) hf hi inside b
        ∙ rw (in_words (λ e. e.wcet) (last + 1) (omega arith))

  -- the sums are small
  module _ (all : AllHold (entries_of ws n)) (few : n ≤ most_entries) where
    pub wcet_small : (m : ℕ) → m ≤ n → sum_to (wcet_of ws) m ≤ most_runs
    wcet_small m l =
        omega (
          arith,
          sum_to-most (wcet_of ws) most_ticks m (λ j p. omega (arith, (all_at ws n all j (omega arith)).times)),
        )

-- The demand of an entry of a node that is held in words, with the blocking b: it never falls, and the test starts at a time
-- that it is not below.
module _ (ws : List ℕ) (n : ℕ) (all : AllHold (entries_of ws n)) (first last i : ℕ) (hi : i ≤ last) (hl : last < n) (b : ℕ) where
  known : i < length (entries_of ws n)
  known = omega (arith, length-entries ws 0 n)

  abbrev w : ℕ → ℕ
  w = demand_with b (entries_of ws n) (group_level first last) i

  abbrev begin : ℕ
  begin = initial_time_with b (entries_of ws n) (group_level first last) i

  pub words_up : (s t : ℕ) → s ≤ t → w s ≤ w t
  words_up = demand_up (entries_of ws n) all (group_level first last) i known b

  pub words_begin : (1 ≤ begin) × (begin ≤ w begin)
  words_begin =
      let some = demand_some (entries_of ws n) all (group_level first last) i known b 1 in
      rw (initial_first (entries_of ws n) all (group_level first last) i known b) (some, words_up 1 (w 1) some)

  -- the whole test, from what code has found of it before its loop
  pub words_test : (t d : ℕ) → t ≡ begin → limit (entry_at (entries_of ws n) i) ≡ d
      → test_from w d t 0 ≡ test_with b (entries_of ws n) (group_level first last) i
  unfolding test_with
  words_test t d p q = rw (p, q)
