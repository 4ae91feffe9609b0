-- Under levels that never fall, the entries of one level are neighbours: they are the group from the first to the last of
-- them.
use Prim.Native.Nat.{ℕ, zero, suc, ◌+◌, ◌-◌, ◌≤◌, ◌<◌}
use mathlib.Core.Path.{◌≡◌, refl}
use mathlib.Core.List.{List}
use mathlib.Core.Logic.{by_cases}
use native.Mathlib.Nat.{le_refl, le_trans}
use native.Mathlib.Decide.{dec_lt, dec_le}
use native.Mathlib.Omega.{arith}
use lib.ListN.{length}
use Rattle.task_model.specs.declared.Entry.{Entry}
use Rattle.completion.specs.Group.{IsGroup, group_level}
use Rattle.completion.specs.Test.{completion_test}
use Rattle.completion.proofs.Groups.{named_group}
use Rattle.completion.proofs.Theorems.{same_group}
use Rattle.level_map.specs.Assignments.{level_of}
use Rattle.level_timing.specs.Levels.{NeverFalls, FirstOf, LastOf}

rises : (n : ℕ) (a : List ℕ) → NeverFalls n a → (j k : ℕ) → j + k < n → level_of a j ≤ level_of a (j + k)
rises n a h j zero l = let e : j + 0 ≡ j = omega arith in rw e (le_refl _)
rises n a h j (suc k) l =
    let e : j + suc k ≡ suc (j + k) = omega arith in
    rw e (le_trans (rises n a h j k (omega arith)) (h (j + k) (omega arith)))

module _ (n : ℕ) (a : List ℕ) (h : NeverFalls n a) where
  not_less : (j k : ℕ) → j ≤ k → k < n → level_of a j ≤ level_of a k
  not_less j k l m = let e : j + (k - j) ≡ k = omega arith in rw e at (rises n a h j (k - j) (omega arith))

  module _ (i first last : ℕ) (f : FirstOf a i first) (l : LastOf n a i last) where
    before : (j : ℕ) → j < first → level_of a j < level_of a i
    before j p =
        let k : ℕ = first - 1 in
        let e : suc k ≡ first = omega arith in
        let top : level_of a j ≤ level_of a k = not_less j k (omega arith) (omega (arith, f.within, l.within, l.inside)) in
        let up : level_of a k ≤ level_of a i = not_less k i (omega (arith, f.within)) (omega (arith, l.within, l.inside)) in
        by_cases (dec_lt (level_of a k) (level_of a i))
        (λ y. omega arith)
        (λ z. absurd (f.other k e (omega arith)))

    inside : (j : ℕ) → first ≤ j → j ≤ last → level_of a j ≡ level_of a i
    inside j p q =
        by_cases (dec_le j i) (λ y. f.same j p y) (λ z. l.same j (omega arith) q)

    after : (j : ℕ) → last < j → j < n → level_of a i < level_of a j
    after j p q =
        let low : level_of a i ≤ level_of a (suc last) = not_less i (suc last) (omega (arith, l.within)) (omega arith) in
        let up : level_of a (suc last) ≤ level_of a j = not_less (suc last) j p q in
        by_cases (dec_lt (level_of a i) (level_of a (suc last)))
        (λ y. omega arith)
        (λ z. absurd (l.other (omega arith) (omega arith)))

    pub own_group : IsGroup n first last i (level_of a)
    own_group = record { before = before; inside = inside; after = after }

-- The test under the levels is that of the group.
pub time_group : (es : List Entry) (n : ℕ) → length es ≡ n → (a : List ℕ) → NeverFalls n a → (i first last : ℕ)
    → FirstOf a i first → LastOf n a i last
    → completion_test es (group_level first last) i ≡ completion_test es (level_of a) i
time_group es n e a h i first last f l =
    same_group _ es es (group_level first last) (level_of a) first last i f.within l.within
    (omega (arith, l.inside)) (omega (arith, l.inside))
    (named_group first last (length es) i f.within l.within)
    (rw e (own_group n a h i first last f l))
    (λ j p. (refl, refl, refl)) refl refl
