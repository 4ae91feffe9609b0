-- Splits off the last group of a map: a map with one more level is a map of fewer entries, followed by a last group.
use Prim.Native.Nat.{ℕ, zero, suc, ◌+◌, ◌-◌, ◌≤◌, ◌<◌}
use mathlib.Core.Path.{◌≡◌, refl, sym, ap}
use mathlib.Core.List.{List, [], ◌∷◌, ◌++◌}
use mathlib.Core.Logic.{◌≢◌, by_cases}
use native.Mathlib.Omega.{arith}
use native.Mathlib.Decide.{dec_le}
use lib.ListN.{length, replicate, length-append, length-replicate}
use Rattle.level_map.specs.Assignments.{size_of}
use Rattle.level_map.proofs.Tests.{one_eq}
use Rattle.level_map.proofs.Levels.{
  Rising,
  before_suc,
  before_all,
  rising_wider,
  rising_append,
  rising_same,
  size_same,
  size_other,
  assignment_rising,
  rising_assignment,
}
use Rattle.level_map.proofs.Maps.{Full}

-- sizes of groups
pub size_append : (l : ℕ) (a b : List ℕ) → size_of l (a ++ b) ≡ size_of l a + size_of l b
size_append l [] b = omega arith
size_append l (x ∷ xs) b = omega (arith, size_append l xs b)

size_replicate : (l m : ℕ) → size_of l (replicate m l) ≡ m
size_replicate l zero = refl
size_replicate l (suc m) = omega (arith, one_eq l l, size_replicate l m)

size_replicate_other : (l x m : ℕ) → x ≢ l → size_of l (replicate m x) ≡ 0
size_replicate_other l x zero h = refl
size_replicate_other l x (suc m) h = omega (arith, one_eq x l, size_replicate_other l x m h)

pub size_above : (lo hi l : ℕ) (a : List ℕ) → Rising lo hi a → hi < l → size_of l a ≡ 0
size_above lo hi l a r h =
    omega (arith, before_suc l a, before_all lo hi l a r h, before_all lo hi (suc l) a r (omega arith))

-- the last group apart
all_last : (l : ℕ) (a : List ℕ) → Rising l l a → a ≡ replicate (size_of l a) l
all_last l [] r = refl
all_last l (x ∷ xs) r =
    let e : x ≡ l = omega arith in
    rw (e, size_same l xs) (ap (λ t. l ∷ t) (all_last l xs (rw e at r.2)))

last_apart : (lo c : ℕ) (a : List ℕ) → Rising lo (suc c) a
    → (b : List ℕ) × (a ≡ b ++ replicate (size_of (suc c) a) (suc c)) × Rising lo c b
last_apart lo c [] r = ([], refl, tt)
last_apart lo c (x ∷ xs) r =
    by_cases (dec_le x c)
    (λ y.
    let t = last_apart x c xs r.2 in
    (x ∷ t.0, (rw (size_other (suc c) x xs (omega arith)) (ap (λ l. x ∷ l) t.1)), (r.0, y, t.2)))
    (λ z. let e : x ≡ suc c = omega arith in ([], all_last (suc c) (x ∷ xs) ((omega arith), r.1, r.2), tt))

-- The maps with one level more: a map of the entries that are left, and a last group of size s.
module _ (c n s : ℕ) (nonempty : 1 ≤ s) (fits : s ≤ n) (b : List ℕ) where
  abbrev pub joined : List ℕ
  joined = b ++ replicate s (suc c)

  pub size_last : Full c (n - s) b → size_of (suc c) joined ≡ s
  size_last i =
      omega (
        arith,
        size_append (suc c) b (replicate s (suc c)),
        size_replicate (suc c) s,
        size_above 1 c (suc c) b (assignment_rising i.assignment) (omega arith),
      )

  pub joined_full : Full c (n - s) b → Full (suc c) n joined
  joined_full i =
      record {
        assignment =
            rising_assignment n (suc c) joined
            (omega (arith, length-append b (replicate s (suc c)), length-replicate s (suc c), i.assignment.each))
            (rising_append 1 (suc c) b (replicate s (suc c)) (omega arith)
            (rising_wider 1 c 1 (suc c) b (omega arith) (omega arith) (assignment_rising i.assignment))
            (rising_same (suc c) s));
        full = λ l h k.
            by_cases (dec_le l c)
            (λ y. omega (arith, size_append l b (replicate s (suc c)), i.full l h y))
            (λ z. let e : l ≡ suc c = omega arith in rw e (omega (arith, size_last i)));
      }

pub full_apart : (c n : ℕ) (a : List ℕ) → Full (suc c) n a
    → (b : List ℕ) × (a ≡ b ++ replicate (size_of (suc c) a) (suc c)) × Full c (n - size_of (suc c) a) b
    × (1 ≤ size_of (suc c) a) × (size_of (suc c) a ≤ n)
full_apart c n a i =
    let t = last_apart 1 c a (assignment_rising i.assignment) in
    let b = t.0 in
    let s = size_of (suc c) a in
    let long : length b + s ≡ n =
    omega (arith, ap length t.1, length-append b (replicate s (suc c)), length-replicate s (suc c), i.assignment.each) in (
      b,
      t.1,
      record {
        assignment = rising_assignment (n - s) c b (omega arith) t.2;
        full = λ l h k.
            omega (
              arith,
              i.full l h (omega arith),
              ap (size_of l) t.1,
              size_append l b (replicate s (suc c)),
              size_replicate_other l (suc c) s (omega arith),
            );
      },
      i.full (suc c) (omega arith) (omega arith),
      omega arith,
    )

-- a map with no level has no entry
pub full_none : (n : ℕ) (a : List ℕ) → Full 0 n a → (n ≡ 0) × (a ≡ [])
full_none n [] i = (sym i.assignment.each, refl)
full_none n (x ∷ xs) i =
    absurd (omega (arith, i.assignment.low 0 (omega (arith, i.assignment.each)), i.assignment.high 0 (omega (arith, i.assignment.each))))
