-- Maps by the levels that they use: a map with c levels is an assignment to the levels 1 to c that uses each of them.
use Prim.Native.Nat.{ℕ, suc, ◌≤◌, ◌<◌}
use mathlib.Core.Path.{◌≡◌, sym, ◌∙◌}
use mathlib.Core.List.{List, [], ◌∷◌}
use mathlib.Core.Logic.{by_cases}
use native.Mathlib.Omega.{arith}
use native.Mathlib.Decide.{dec_le}
use lib.ListN.{length}
use Rattle.level_map.specs.Assignments.{level_of, Assignment, size_of, levels_used}
use Rattle.level_map.specs.Map.{IsMap}
use Rattle.level_map.proofs.Tests.{one_eq}
use Rattle.level_map.proofs.Levels.{Rising, before_suc, before_in, own_high, used_levels, used_ge, assignment_rising, rising_assignment}

-- A map with c levels, by the levels that it uses.
pub record Full (c n : ℕ) (m : List ℕ) : Type 0 where
  pub assignment : Assignment n c m
  pub full : (l : ℕ) → 1 ≤ l → l ≤ c → 1 ≤ size_of l m

pub full_empty : (n : ℕ) → length {A = ℕ} [] ≡ n → Full 0 n []
full_empty n e = record { assignment = rising_assignment n 0 [] e tt; full = λ l lo hi. absurd (omega arith) }

-- it uses as many levels as it has
pub full_used : {c n : ℕ} {m : List ℕ} → Full c n m → levels_used m ≡ c
full_used {c} {n} {m} f =
    sym (used_levels 1 c m (omega arith) (assignment_rising f.assignment)) ∙ used_ge c c m f.full (omega arith)

-- it begins at 1 and skips none
pub full_map : {c n : ℕ} {m : List ℕ} → Full c n m → IsMap n m
full_map {c} {n} {m} f =
    let s = f.assignment in
    let r = assignment_rising s in
    record {
      each = s.each;
      begins = λ h.
          let some = f.full 1 (omega arith) (omega (arith, s.low 0 h, s.high 0 h)) in
          omega (arith, s.low 0 h, before_in 1 c 2 m 0 r (omega (arith, before_suc 1 m)));
      rising = s.rising;
      gapless = λ i h.
          let l = suc (level_of m i) in
          by_cases (dec_le (level_of m (suc i)) l)
          (λ y. omega arith)
          (λ z.
          let some = f.full l (omega arith) (omega (arith, s.high (suc i) h)) in
          omega (
            arith,
            before_in 1 c (suc l) m (suc i) r (omega (arith, before_suc l m, own_high 1 c m i r (omega (arith, s.each)))),
          ));
    }

-- levels that climb from x by steps of at most 1 use every level up to their last
climb : (x : ℕ) (xs : List ℕ)
    → ((i : ℕ) → i < length xs → level_of (x ∷ xs) i ≤ level_of (x ∷ xs) (suc i))
    → ((i : ℕ) → i < length xs → level_of (x ∷ xs) (suc i) ≤ suc (level_of (x ∷ xs) i))
    → (t : ℕ) × (x ≤ t) × Rising x t (x ∷ xs) × ((l : ℕ) → x ≤ l → l ≤ t → 1 ≤ size_of l (x ∷ xs))
climb x [] up step = (
  x,
  omega arith,
  (omega arith, omega arith, tt),
  λ l lo hi. omega (arith, one_eq x l),
)
climb x (y ∷ ys) up step =
    let r = climb y ys (λ i h. up (suc i) (omega arith)) (λ i h. step (suc i) (omega arith)) in
    let u : x ≤ y = up 0 (omega arith) in
    let s : y ≤ suc x = step 0 (omega arith) in (
      r.0,
      omega arith,
      (omega arith, omega arith, (u, r.1, r.2.2)),
      λ l lo hi.
          by_cases (dec_le y l)
          (λ k. omega (arith, r.3 l k hi))
          (λ k. omega (arith, one_eq x l)),
    )

map_top : (n : ℕ) (m : List ℕ) → IsMap n m → (c : ℕ) × Full c n m
map_top n [] i = (0, full_empty n i.each)
map_top n (x ∷ xs) i =
    let one : x ≡ 1 = i.begins (omega (arith, i.each)) in
    let r = climb x xs (λ j h. i.rising j (omega (arith, i.each))) (λ j h. i.gapless j (omega (arith, i.each))) in (
      r.0,
      record {
        assignment = rising_assignment n r.0 (x ∷ xs) i.each (omega arith, r.2.1, r.2.2);
        full = λ l lo hi. r.3 l (omega arith) hi;
      },
    )

pub map_full : {n : ℕ} {m : List ℕ} → IsMap n m → Full (levels_used m) n m
map_full {n} {m} i = let r = map_top n m i in rw (full_used r.1) r.1
