-- One past the last entry i < end with D - J < B + the sum of C before `end`.
use Prim.Native.Nat.{ℕ, zero, suc, ◌+◌, ◌-◌, ◌≤◌, ◌<◌}
use mathlib.Core.Path.{◌≡◌, ◌∙◌, refl, sym}
use mathlib.Core.Bool.{Bool, true, false}
use mathlib.Core.Logic.{⊎_elim}
use mathlib.Core.List.{List}
use native.Mathlib.Numerals.{add-one}
use native.Mathlib.Omega.{arith}
use lib.ListN.{length}
use borrow.Author.Tests.{lt-ltb, le-ltb, ltb-true}
use Rattle.task_model.specs.declared.Entry.{Entry}
use Rattle.task_model.specs.Limits.{entry_at, AllHold}
use Rattle.node_words.specs.Words.{entry_of, entries_of}
use Rattle.node_words.proofs.Entries.{entry_of_lem}
use Rattle.task_model.proofs.Tests.{true_or_false}
use Rattle.completion.specs.Demand.{sum_to}
use Rattle.completion.specs.Group.{group_level}
use Rattle.completion.specs.Test.{limit, test_with, is_on_time}
use Rattle.on_time.specs.StartBound.{late_by_runs, past_last, start_bound}
use Rattle.completion.proofs.Groups.{wcet_in, named_group, initial_in}
use Rattle.completion.proofs.Words.{in_words, wcet_of}
use Rattle.completion.proofs.Theorems.{not_before, late_none}

module _ (test : ℕ → Bool) where
  pub last_none : past_last test 0 ≡ 0
  unfolding past_last
  last_none = refl

  suc_found : (n : ℕ) → test n ≡ true → past_last test (suc n) ≡ suc n
  unfolding past_last
  suc_found n p = rw (p, past_last)

  suc_kept : (n : ℕ) → test n ≡ false → past_last test (suc n) ≡ past_last test n
  unfolding past_last
  suc_kept n p = rw (p, past_last)

  -- one position more, at which the test holds or does not
  pub last_found : (n : ℕ) → test n ≡ true → past_last test (n + 1) ≡ n + 1
  last_found n p = rw add-one (suc_found n p)

  pub last_kept : (n : ℕ) → test n ≡ false → past_last test (n + 1) ≡ past_last test n
  last_kept n p = rw add-one (suc_kept n p)

  last_most : (n : ℕ) → past_last test n ≤ n
  last_most zero = omega (arith, last_none)
  last_most (suc n) =
      ⊎_elim
      (λ p. omega (arith, suc_found n p))
      (λ p. omega (arith, suc_kept n p, last_most n))
      (true_or_false (test n))

  -- it is behind a position at which the test holds
  last_holds : (n i : ℕ) → past_last test n ≡ suc i → test i ≡ true
  last_holds zero i e = absurd (omega (arith, last_none))
  last_holds (suc n) i e =
      ⊎_elim
      (λ p. let same : n ≡ i = omega (arith, suc_found n p) in rw same at p)
      (λ p. last_holds n i (sym (suc_kept n p) ∙ e))
      (true_or_false (test n))

-- It is not behind `end`,
pub past_most : (es : List Entry) (end : ℕ) → start_bound es end ≤ end
unfolding start_bound
past_most es end = last_most (late_by_runs es end) end

-- and the entry before it is late in each group that ends just before `end` and has it, with its own B or more.
pub start_bound_lem : (es : List Entry) → AllHold es → (end : ℕ) → end ≤ length es
    → (i first : ℕ) → start_bound es end ≡ i + 1 → first ≤ i → (b : ℕ) → (entry_at es i).blocking ≤ b
    → is_on_time (test_with b es (group_level first (end - 1)) i) ≡ false
unfolding start_bound late_by_runs
start_bound_lem es all end h i first e hf b more =
    let l : i < end = omega (arith, past_most es end) in
    let short : limit (entry_at es i) < (entry_at es i).blocking + sum_to (wcet_in es) end =
    ltb-true _ _ (last_holds (late_by_runs es end) end i (rw add-one at e)) in
    let known : i < length es = omega arith in
    let level = group_level first (end - 1) in
    let group = named_group first (end - 1) (length es) i hf (omega arith) in
    let begin = initial_in es first (end - 1) i level group hf (omega arith) (omega arith) b in
    let whole : (end - 1) + 1 ≡ end = omega arith in
    (late_none b es all level i known).1 (λ t due w. omega (arith, rw whole at begin, not_before b es all level i known t w))

-- whether the runs make an entry late, by the words that hold the node
module _ (ws : List ℕ) (n end runs : ℕ) (h : end ≤ n) (r : runs ≡ sum_to (wcet_of ws) end) (i : ℕ) (l : i < n) (e : Entry)
    (named : e ≡ entry_of ws i) where
  own : entry_at (entries_of ws n) i ≡ e
  own = entry_of_lem ws n i l ∙ sym named

  whole : sum_to (λ j. (entry_at (entries_of ws n) j).wcet) end ≡ runs
  whole = in_words ws n (λ x. x.wcet) end h ∙ sym r

  pub runs_late : limit e < e.blocking + runs → late_by_runs (entries_of ws n) end i ≡ true
  unfolding late_by_runs
  runs_late p = rw (own, whole) (lt-ltb _ _ p)

  pub runs_fit : e.blocking + runs ≤ limit e → late_by_runs (entries_of ws n) end i ≡ false
  unfolding late_by_runs
  runs_fit p = rw (own, whole) (le-ltb _ _ p)
