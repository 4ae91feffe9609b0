-- The demand and the initial time, computed from the bounds of a group.
use Prim.Native.Nat.{ℕ, ◌+◌, ◌-◌, ◌≤◌, ◌<◌, zero-le}
use mathlib.Core.Path.{◌≡◌, ◌∙◌, sym}
use mathlib.Core.List.{List}
use mathlib.Core.Logic.{by_cases}
use native.Mathlib.Decide.{dec_le}
use native.Mathlib.Omega.{arith}
use lib.ListN.{length}
use lib.Dec.{leb}
use borrow.Author.Tests.{lt-ltb, le-ltb, le-leb, lt-leb, eq-eqb, ne_eqb}
use Rattle.task_model.specs.declared.Entry.{Entry}
use Rattle.task_model.specs.Limits.{entry_at, AllHold}
use Rattle.completion.specs.Demand.{sum_to, only, more_urgent, shares_level, higher_level_interference, same_level_interference, demand_with, initial_time_with}
use Rattle.completion.specs.Group.{IsGroup, group_level}
use Rattle.completion.proofs.Sums.{sum_to-none, sum_to-more, sum_to-between, sum_to-flat, sum_to-up, part_le}
use Rattle.completion.proofs.Releases.{same_level_some, same_level_once}

-- A named group is the group of each entry in it.
module _ (first last : ℕ) where
  level_before : (j : ℕ) → j < first → group_level first last j ≡ 1
  unfolding group_level
  level_before j h = rw (lt-ltb j first h, group_level)

  level_inside : (j : ℕ) → first ≤ j → j ≤ last → group_level first last j ≡ 2
  unfolding group_level
  level_inside j h k = rw (le-ltb j first h, group_level) (rw (le-ltb last j k, group_level))

  level_after : (j : ℕ) → first ≤ j → last < j → group_level first last j ≡ 3
  unfolding group_level
  level_after j h k = rw (le-ltb j first h, group_level) (rw (lt-ltb last j k, group_level))

  pub named_group : (n i : ℕ) → first ≤ i → i ≤ last → IsGroup n first last i (group_level first last)
  named_group n i h k =
      record {
        before = λ j l. omega (arith, level_before j l, level_inside i h k);
        inside = λ j l m. level_inside j l m ∙ sym (level_inside i h k);
        after = λ j l m. omega (arith, level_after j (omega arith) l, level_inside i h k);
      }

-- The terms of the entries on more urgent levels, and of the others on the own level.
abbrev pub higher_level_in : List Entry → ℕ → ℕ → ℕ
higher_level_in es t j = higher_level_interference (entry_at es j) t

abbrev pub same_level_in : List Entry → ℕ → ℕ → ℕ → ℕ
same_level_in es i t j = same_level_interference (entry_at es j) (entry_at es i).calls t

abbrev pub wcet_in : List Entry → ℕ → ℕ
wcet_in es j = (entry_at es j).wcet

-- The demand of the entry at i in the group from `first` to `last`, with the blocking b.
abbrev pub demand_in : ℕ → List Entry → ℕ → ℕ → ℕ → ℕ → ℕ
demand_in b es first last i t =
    (entry_at es i).wcet + b + sum_to (higher_level_in es t) first
    + (sum_to (same_level_in es i t) i - sum_to (same_level_in es i t) first)
    + (sum_to (same_level_in es i t) (last + 1) - sum_to (same_level_in es i t) (i + 1))

-- The demand of an entry of the group, with the blocking b, if each entry of the group runs once.
abbrev pub demand_once : ℕ → List Entry → ℕ → ℕ → ℕ → ℕ
demand_once b es first last t = b + sum_to (higher_level_in es t) first + (sum_to (wcet_in es) (last + 1) - sum_to (wcet_in es) first)

module _ (es : List Entry) (first last i : ℕ) (lv : ℕ → ℕ) (g : IsGroup (length es) first last i lv)
    (hf : first ≤ i) (hi : i ≤ last) (hl : last < length es) where
  -- the group and what is after it is on no more urgent level, and what is before it with the group on none less urgent
  not_below : (j : ℕ) → first ≤ j → j < length es → lv i ≤ lv j
  not_below j l u =
      by_cases (dec_le j last)
      (λ p. omega (arith, g.inside j l p))
      (λ p. omega (arith, g.after j (omega arith) u))

  not_above : (j : ℕ) → j ≤ last → lv j ≤ lv i
  not_above j u =
      by_cases (dec_le first j)
      (λ p. omega (arith, g.inside j p u))
      (λ p. omega (arith, g.before j (omega arith)))

  higher_level_part : (t : ℕ) → sum_to (λ j. only (more_urgent lv i j) (higher_level_in es t j)) (length es) ≡ sum_to (higher_level_in es t) first
  higher_level_part t =
      let f : ℕ → ℕ = λ j. only (more_urgent lv i j) (higher_level_in es t j) in
      let low = sum_to-between f (higher_level_in es t) 0 first zero-le (λ j l u. rw (lt-ltb (lv j) (lv i) (g.before j u))) in
      let high = sum_to-flat f first (length es) (omega arith) (λ j l u. rw (le-ltb (lv j) (lv i) (not_below j l u))) in
      omega (arith, sum_to-none f, sum_to-none (higher_level_in es t))

  same_level_part : (t : ℕ) → sum_to (λ j. only (shares_level lv i j) (same_level_in es i t j)) (length es)
      ≡ (sum_to (same_level_in es i t) i - sum_to (same_level_in es i t) first) + (sum_to (same_level_in es i t) (last + 1) - sum_to (same_level_in es i t) (i + 1))
  same_level_part t =
      let f : ℕ → ℕ = λ j. only (shares_level lv i j) (same_level_in es i t j) in
      let b = same_level_in es i t in
      let low = sum_to-flat f 0 first zero-le (λ j l u. rw (ne_eqb (lv j) (lv i) (λ e. omega (arith, g.before j u)))) in
      let left = sum_to-between f b first i hf
      (λ j l u. rw (eq-eqb (lv j) (lv i) (g.inside j l (omega arith)), ne_eqb j i (λ e. omega arith))) in
      let own = sum_to-flat f i (i + 1) (omega arith)
      (λ j l u. rw (eq-eqb (lv j) (lv i) (g.inside j (omega arith) (omega arith)), eq-eqb j i (omega arith))) in
      let right = sum_to-between f b (i + 1) (last + 1) (omega arith)
      (λ j l u. rw (eq-eqb (lv j) (lv i) (g.inside j (omega arith) (omega arith)), ne_eqb j i (λ e. omega arith))) in
      let high = sum_to-flat f (last + 1) (length es) (omega arith)
      (λ j l u. rw (ne_eqb (lv j) (lv i) (λ e. omega (arith, g.after j (omega arith) u)))) in
      omega (arith, sum_to-none f, sum_to-up b first i hf, sum_to-up b (i + 1) (last + 1) (omega arith))

  pub demand_in_lem : (b t : ℕ) → demand_with b es lv i t ≡ demand_in b es first last i t
  unfolding demand_with
  demand_in_lem b t = omega (arith, higher_level_part t, same_level_part t)

  pub initial_in : (b : ℕ) → initial_time_with b es lv i ≡ b + sum_to (wcet_in es) (last + 1)
  unfolding initial_time_with
  initial_in b =
      let f : ℕ → ℕ = λ j. only (leb (lv j) (lv i)) (wcet_in es j) in
      let low = sum_to-between f (wcet_in es) 0 (last + 1) zero-le (λ j l u. rw (le-leb (lv j) (lv i) (not_above j (omega arith)))) in
      let high = sum_to-flat f (last + 1) (length es) (omega arith) (λ j l u. rw (lt-leb (lv j) (lv i) (g.after j (omega arith) u))) in
      omega (arith, sum_to-none f, sum_to-none (wcet_in es))

  -- The demand is never less than with one run of each entry of the group, and no more for an entry with no calls.
  module _ (all : AllHold es) (b t : ℕ) where
    own_once : sum_to (wcet_in es) i + (entry_at es i).wcet ≡ sum_to (wcet_in es) (i + 1)
        × (sum_to (wcet_in es) first ≤ sum_to (wcet_in es) i) × (sum_to (wcet_in es) (i + 1) ≤ sum_to (wcet_in es) (last + 1))
    own_once = (sym (sum_to-more (wcet_in es) i), sum_to-up (wcet_in es) first i hf, sum_to-up (wcet_in es) (i + 1) (last + 1) (omega arith))

    pub demand_once_lem : 1 ≤ t → demand_once b es first last t ≤ demand_with b es lv i t
    demand_once_lem p =
        let some : (j : ℕ) → j < last + 1 → wcet_in es j ≤ same_level_in es i t j =
        λ j l. same_level_some (entry_at es j) (all j (omega arith)) (entry_at es i).calls t p in
        let left = part_le (wcet_in es) (same_level_in es i t) first i hf (λ j l. some j (omega arith)) in
        let right = part_le (wcet_in es) (same_level_in es i t) (i + 1) (last + 1) (omega arith) some in
        omega (arith, demand_in_lem b t, own_once)

    pub demand_no_calls : (entry_at es i).calls ≡ 0 → demand_with b es lv i t ≤ demand_once b es first last t
    demand_no_calls z =
        let once : (j : ℕ) → j < last + 1 → same_level_in es i t j ≤ wcet_in es j =
        λ j l. same_level_once (entry_at es j) (all j (omega arith)) (entry_at es i).calls t z in
        let left = part_le (same_level_in es i t) (wcet_in es) first i hf (λ j l. once j (omega arith)) in
        let right = part_le (same_level_in es i t) (wcet_in es) (i + 1) (last + 1) (omega arith) once in
        omega (arith, demand_in_lem b t, own_once)
