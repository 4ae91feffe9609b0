-- Sums over positions.
use Prim.Native.Nat.{ℕ, zero, suc, ◌+◌, ◌-◌, ◌*◌, ◌≤◌, ◌<◌, zero-le}
use mathlib.Core.Path.{◌≡◌, ◌∙◌, refl, ap, ap₂}
use mathlib.Core.Logic.{◌⊎◌, inl, inr, ⊎_elim}
use native.Mathlib.Nat.{le_refl, mul-suc}
use native.Mathlib.Numerals.{add-one}
use native.Mathlib.Omega.{arith}
use lib.Dec.{eqb}
use borrow.Author.Tests.{eq-eqb, ne_eqb}
use Rattle.completion.specs.Demand.{sum_to, only}

pub sum_to-none : (f : ℕ → ℕ) → sum_to f 0 ≡ 0
unfolding sum_to
sum_to-none f = refl

pub sum_to-suc : (f : ℕ → ℕ) (n : ℕ) → sum_to f (suc n) ≡ sum_to f n + f n
unfolding sum_to
sum_to-suc f n = refl

pub sum_to-more : (f : ℕ → ℕ) (n : ℕ) → sum_to f (n + 1) ≡ sum_to f n + f n
sum_to-more f n = rw add-one (sum_to-suc f n)

-- term by term
pub sum_to-le : (f g : ℕ → ℕ) (n : ℕ) → ((j : ℕ) → j < n → f j ≤ g j) → sum_to f n ≤ sum_to g n
unfolding sum_to
sum_to-le f g zero h = le_refl 0
sum_to-le f g (suc n) h = omega (arith, sum_to-le f g n (λ j l. h j (omega arith)), h n (omega arith))

pub sum_to-eq : (f g : ℕ → ℕ) (n : ℕ) → ((j : ℕ) → j < n → f j ≡ g j) → sum_to f n ≡ sum_to g n
unfolding sum_to
sum_to-eq f g zero h = refl
sum_to-eq f g (suc n) h = ap₂ ◌+◌ (sum_to-eq f g n (λ j l. h j (omega arith))) (h n (omega arith))

pub sum_to-add : (f g : ℕ → ℕ) (n : ℕ) → sum_to (λ j. f j + g j) n ≡ sum_to f n + sum_to g n
unfolding sum_to
sum_to-add f g zero = refl
sum_to-add f g (suc n) = omega (arith, sum_to-add f g n)

pub sum_to-most : (f : ℕ → ℕ) (m n : ℕ) → ((j : ℕ) → j < n → f j ≤ m) → sum_to f n ≤ m * n
unfolding sum_to
sum_to-most f m zero h = zero-le
sum_to-most f m (suc n) h =
    let e : m * suc n ≡ m * n + m = mul-suc m n in
    omega (arith, sum_to-most f m n (λ j l. h j (omega arith)), h n (omega arith))

-- where a greater sum has nothing strictly greater at a position, two other sums agree there
pub sum_to-strict : (a b f g : ℕ → ℕ) (n : ℕ) → ((j : ℕ) → j < n → (a j < b j) ⊎ ((a j ≡ b j) × (f j ≡ g j)))
    → (sum_to a n < sum_to b n) ⊎ ((sum_to a n ≡ sum_to b n) × (sum_to f n ≡ sum_to g n))
unfolding sum_to
sum_to-strict a b f g zero h = inr (refl, refl)
sum_to-strict a b f g (suc n) h =
    ⊎_elim
    (λ l. inl (⊎_elim (λ k. omega arith) (λ k. omega arith) (h n (omega arith))))
    (λ e. ⊎_elim (λ k. inl (omega arith)) (λ k. inr (omega arith)) (h n (omega arith)))
    (sum_to-strict a b f g n (λ j l. h j (omega arith)))

-- what the positions from `a` up to `b` add
part : (f g : ℕ → ℕ) (a k : ℕ) → ((j : ℕ) → a ≤ j → j < a + k → f j ≡ g j)
    → sum_to f (a + k) + sum_to g a ≡ sum_to f a + sum_to g (a + k)
part f g a zero h = let e : a + 0 ≡ a = omega arith in rw e
part f g a (suc k) h =
    let e : a + suc k ≡ suc (a + k) = omega arith in
    rw e
    (omega (
      arith,
      sum_to-suc f (a + k),
      sum_to-suc g (a + k),
      part f g a k (λ j l u. h j l (omega arith)),
      h (a + k) (omega arith) (omega arith),
    ))

pub sum_to-between : (f g : ℕ → ℕ) (a b : ℕ) → a ≤ b → ((j : ℕ) → a ≤ j → j < b → f j ≡ g j)
    → sum_to f b + sum_to g a ≡ sum_to f a + sum_to g b
sum_to-between f g a b le h =
    let e : a + (b - a) ≡ b = omega arith in
    rw e at (part f g a (b - a) (λ j l u. h j l (omega arith)))

zeros : (n : ℕ) → sum_to (λ j. 0) n ≡ 0
unfolding sum_to
zeros zero = refl
zeros (suc n) = omega (arith, zeros n)

pub sum_to-flat : (f : ℕ → ℕ) (a b : ℕ) → a ≤ b → ((j : ℕ) → a ≤ j → j < b → f j ≡ 0) → sum_to f b ≡ sum_to f a
sum_to-flat f a b le h = omega (arith, sum_to-between f (λ j. 0) a b le h, zeros a, zeros b)

up : (f : ℕ → ℕ) (a k : ℕ) → sum_to f a ≤ sum_to f (a + k)
up f a zero = let e : a + 0 ≡ a = omega arith in rw e (le_refl _)
up f a (suc k) = let e : a + suc k ≡ suc (a + k) = omega arith in rw e (omega (arith, up f a k, sum_to-suc f (a + k)))

pub sum_to-up : (f : ℕ → ℕ) (a b : ℕ) → a ≤ b → sum_to f a ≤ sum_to f b
sum_to-up f a b le = let e : a + (b - a) ≡ b = omega arith in rw e at (up f a (b - a))

-- one term alone
pub sum_to-one : (f : ℕ → ℕ) (i n : ℕ) → i < n → sum_to (λ j. only (eqb j i) (f j)) n ≡ f i
sum_to-one f i n l =
    let g : ℕ → ℕ = λ j. only (eqb j i) (f j) in
    let own : g i ≡ f i = rw (eq-eqb i i refl) in
    let low : sum_to g i ≡ sum_to g 0 = sum_to-flat g 0 i zero-le (λ j p q. rw (ne_eqb j i (λ e. omega arith))) in
    let high : sum_to g n ≡ sum_to g (suc i) = sum_to-flat g (suc i) n l (λ j p q. rw (ne_eqb j i (λ e. omega arith))) in
    omega (arith, sum_to-none g, sum_to-suc g i)

-- a running sum takes in one term more, or is the whole sum where it has them all
pub sum_to-step : (f : ℕ → ℕ) (s x n : ℕ) → s ≡ sum_to f n → x ≡ f n → s + x ≡ sum_to f (n + 1)
sum_to-step f s x n p q = rw sum_to-more (ap₂ ◌+◌ p q)

pub sum_to-all : (f : ℕ → ℕ) (s m n : ℕ) → s ≡ sum_to f m → m ≡ n → s ≡ sum_to f n
sum_to-all f s m n p q = p ∙ ap (sum_to f) q

-- term by term, over a part
pub part_le : (f g : ℕ → ℕ) (a b : ℕ) → a ≤ b → ((j : ℕ) → j < b → f j ≤ g j) → sum_to f b - sum_to f a ≤ sum_to g b - sum_to g a
part_le f g a b le h =
    let d : ℕ → ℕ = λ j. g j - f j in
    let whole : sum_to g b ≡ sum_to f b + sum_to d b =
    sum_to-eq g (λ j. f j + d j) b (λ j l. omega (arith, h j l)) ∙ sum_to-add f d b in
    let begin : sum_to g a ≡ sum_to f a + sum_to d a =
    sum_to-eq g (λ j. f j + d j) a (λ j l. omega (arith, h j (omega arith))) ∙ sum_to-add f d a in
    omega (arith, sum_to-up d a b le, sum_to-up f a b le)
