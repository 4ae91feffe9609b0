-- Whether an entry is on time depends only on its group. So a choice among assignments is a choice among groupings.
use Prim.Native.Nat.{ℕ, zero, suc, ◌+◌, ◌-◌, ◌≤◌, ◌<◌}
use mathlib.Core.Path.{◌≡◌, refl, sym, ◌∙◌, ap}
use mathlib.Core.Bool.{true}
use mathlib.Core.List.{List}
use mathlib.Core.Logic.{by_cases, ◌↔◌}
use native.Mathlib.Omega.{arith}
use native.Mathlib.Decide.{dec_lt, dec_le, ℕ_discrete}
use lib.ListN.{length}
use lib.Dec.{ltb, eqb}
use borrow.Author.Tests.{lt-ltb, le-ltb, eq-eqb, ne_eqb}
use Rattle.task_model.specs.declared.Entry.{Entry}
use Rattle.task_model.specs.Limits.{entry_at, AllHold}
use Rattle.completion.specs.Group.{IsGroup, group_level}
use Rattle.completion.specs.Test.{completion_test, is_on_time}
use Rattle.completion.proofs.Groups.{named_group}
use Rattle.completion.proofs.Theorems.{alike, same_group, shrink}
use Rattle.level_map.specs.Assignments.{level_of, Assignment, NoneLate}
use Rattle.level_map.specs.Groups.{on_time_in}
use Rattle.level_map.specs.Cuts.{Falling, levels_of_cuts}
use Rattle.level_map.specs.Cuts.{before}
use Rattle.level_map.proofs.Levels.{before_length, before_in, before_out, own_low, own_high, own_level, assignment_rising}
use Rattle.level_map.proofs.Cutting.{rising_levels, full_cuts}
use Rattle.level_map.proofs.Optimal.{InTime}

-- Under an assignment, the group of an entry has the entries of its level: they stand after those of the more urgent levels.
module _ {n hi : ℕ} {a : List ℕ} (s : Assignment n hi a) (i : ℕ) (h : i < n) where
  abbrev first : ℕ
  first = before (level_of a i) a

  abbrev end : ℕ
  end = before (suc (level_of a i)) a

  pub group_first : first ≤ i
  group_first = own_low 1 hi a i (assignment_rising s)

  pub group_end : i < end
  group_end = own_high 1 hi a i (assignment_rising s) (omega (arith, s.each))

  pub group_fits : end ≤ n
  group_fits = omega (arith, s.each, before_length (suc (level_of a i)) a)

  pub level_group : IsGroup n first (end - 1) i (level_of a)
  level_group =
      record {
        before = λ j k. before_in 1 hi (level_of a i) a j (assignment_rising s) k;
        inside = λ j lo up. own_level 1 hi (level_of a i) a j (assignment_rising s) lo (omega (arith, group_end));
        after = λ j lo k.
            before_out 1 hi (suc (level_of a i)) a j (assignment_rising s) (omega (arith, s.each)) (omega (arith, group_end));
      }

module _ (es : List Entry) where
  -- Under an assignment, the test of an entry is that of its group.
  pub group_test : {hi : ℕ} {a : List ℕ} → Assignment (length es) hi a → (i : ℕ) → i < length es
      → completion_test es (level_of a) i
      ≡ completion_test es (group_level (before (level_of a i) a) (before (suc (level_of a i)) a - 1)) i
  group_test {hi} {a} s i h =
      let f = before (level_of a i) a in
      let l = before (suc (level_of a i)) a - 1 in
      let lo : f ≤ i = group_first s i h in
      let up : i ≤ l = omega (arith, group_end s i h) in
      let fits : l < length es = omega (arith, group_end s i h, group_fits s i h) in
      same_group _ es es (level_of a) (group_level f l) f l i lo up fits fits
      (level_group s i h) (named_group f l (length es) i lo up) (λ j k. (refl, refl, refl)) refl refl

  -- No entry is late exactly if each is on time in its group, to whose blocking nothing is added.
  on_time_same : {hi : ℕ} {a : List ℕ} → Assignment (length es) hi a → (i : ℕ) → i < length es
      → is_on_time (completion_test es (level_of a) i) ≡ on_time_in es 0 i (before (level_of a i) a) (before (suc (level_of a i)) a)
  on_time_same s i h =
      let e : (entry_at es i).blocking + 0 ≡ (entry_at es i).blocking = omega arith in
      rw e (ap is_on_time (group_test s i h))

  pub grouped : (hi : ℕ) (a : List ℕ) → Assignment (length es) hi a → NoneLate es a ↔ InTime (on_time_in es 0) (length es) a
  grouped hi a s = (λ f i h. sym (on_time_same s i h) ∙ f i h, λ f i h. on_time_same s i h ∙ f i h)

  -- An entry that is on time stays so when its group loses entries at its end.
  pub loses_end : AllHold es → (i a e e' : ℕ) → a ≤ i → i < e' → e' ≤ e → e ≤ length es
      → on_time_in es 0 i a e ≡ true → on_time_in es 0 i a e' ≡ true
  loses_end hold i a e e' lo up le k t = shrink _ es hold a (e - 1) (e' - 1) i lo (omega arith) (omega arith) (omega arith) t

-- Under the levels of cuts, an entry of a group has the group's level and is timed in it.
module _ (es : List Entry) (s : List ℕ) (f : Falling s (length es)) (l i : ℕ)
    (lo : before l (levels_of_cuts s (length es)) ≤ i) (hi : i < before (suc l) (levels_of_cuts s (length es))) where
  pub cut_level : level_of (levels_of_cuts s (length es)) i ≡ l
  cut_level = own_level 1 (length s) l (levels_of_cuts s (length es)) i (rising_levels s (length es)) lo hi

  pub cut_timed : completion_test es (level_of (levels_of_cuts s (length es))) i
      ≡ completion_test es (group_level (before l (levels_of_cuts s (length es))) (before (suc l) (levels_of_cuts s (length es)) - 1)) i
  cut_timed =
      let a = (full_cuts s (length es) f).assignment in
      let h : i < length es = omega (arith, a.each, before_length (suc l) (levels_of_cuts s (length es))) in
      rw cut_level at (group_test es a i h)

-- Levels that do not fall along the n entries.
abbrev Monotone : (ℕ → ℕ) → ℕ → Type 0
Monotone lv n = (i j : ℕ) → i ≤ j → j < n → lv i ≤ lv j

next_monotone : (a : List ℕ) (n : ℕ) → ((i : ℕ) → suc i < n → level_of a i ≤ level_of a (suc i))
    → (i d : ℕ) → i + d < n → level_of a i ≤ level_of a (i + d)
next_monotone a n f i zero h = let e : i + 0 ≡ i = omega arith in rw e (omega arith)
next_monotone a n f i (suc d) h =
    let e : i + suc d ≡ suc (i + d) = omega arith in
    rw e (omega (arith, next_monotone a n f i d (omega arith), f (i + d) (omega arith)))

assignment_monotone : {n hi : ℕ} {a : List ℕ} → Assignment n hi a → Monotone (level_of a) n
assignment_monotone {n} {hi} {a} s i j h k =
    let e : i + (j - i) ≡ j = omega arith in
    rw e at (next_monotone a n s.rising i (j - i) (omega arith))

lt_same : (x y x' y' : ℕ) → (x < y → x' < y') → (x' < y' → x < y) → ltb x y ≡ ltb x' y'
lt_same x y x' y' f g =
    by_cases (dec_lt x y)
    (λ h. lt-ltb x y h ∙ sym (lt-ltb x' y' (f h)))
    (λ z. le-ltb x y (omega arith) ∙ sym (le-ltb x' y' (by_cases (dec_le y' x') (λ k. k) (λ k. absurd (z (g (omega arith)))))))

eq_same : (x y x' y' : ℕ) → x ≡ y ↔ x' ≡ y' → eqb x y ≡ eqb x' y'
eq_same x y x' y' f =
    by_cases (ℕ_discrete x y)
    (λ h. eq-eqb x y h ∙ sym (eq-eqb x' y' (f.0 h)))
    (λ z. ne_eqb x y z ∙ sym (ne_eqb x' y' (λ k. z (f.1 k))))

-- an entry that is more urgent stands before, and so is more urgent wherever the groups are the same
less_same : (lv lv' : ℕ → ℕ) (n i j : ℕ) → Monotone lv n → Monotone lv' n → i < n → j < n → lv j ≡ lv i ↔ lv' j ≡ lv' i
    → lv j < lv i → lv' j < lv' i
less_same lv lv' n i j m m' h k f l =
    by_cases (dec_le i j)
    (λ y. absurd (omega (arith, m i j y k)))
    (λ z. by_cases (ℕ_discrete (lv' j) (lv' i))
    (λ e. absurd (omega (arith, f.1 e)))
    (λ z'. omega (arith, m' j i (omega arith) h)))

-- Two assignments have the same groups.
abbrev pub SameGroups : ℕ → List ℕ → List ℕ → Type 0
SameGroups n a b = (i j : ℕ) → i < n → j < n → level_of a j ≡ level_of a i ↔ level_of b j ≡ level_of b i

module _ (es : List Entry) {hi hi' : ℕ} {a b : List ℕ} (s : Assignment (length es) hi a) (s' : Assignment (length es) hi' b)
    (f : SameGroups (length es) a b) where
  -- An entry's answer depends only on the groups: where levels begin, and which are skipped, changes nothing.
  pub groups_answer : (i : ℕ) → i < length es → completion_test es (level_of a) i ≡ completion_test es (level_of b) i
  groups_answer i h =
      let m = assignment_monotone s in
      let m' = assignment_monotone s' in
      alike _ es (level_of a) (level_of b) i
      (λ j k. (
        lt_same (level_of a j) (level_of a i) (level_of b j) (level_of b i)
            (less_same (level_of a) (level_of b) (length es) i j m m' h k (f i j h k))
            (less_same (level_of b) (level_of a) (length es) i j m' m h k ((f i j h k).1, (f i j h k).0)),
        eq_same (level_of a j) (level_of a i) (level_of b j) (level_of b i) (f i j h k),
      ))

  -- So does whether it passes.
  pub groups_pass : NoneLate es a ↔ NoneLate es b
  groups_pass = (
    λ p i h. sym (ap is_on_time (groups_answer i h)) ∙ p i h,
    λ p i h. ap is_on_time (groups_answer i h) ∙ p i h,
  )
