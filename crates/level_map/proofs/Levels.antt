-- Lists of levels: how many entries lie before a level, and how many levels are used.
use Prim.Native.Nat.{ℕ, zero, suc, ◌+◌, ◌-◌, ◌≤◌, ◌<◌, zero-le}
use mathlib.Core.Path.{◌≡◌, refl, ap}
use mathlib.Core.Bool.{Bool, true, false}
use mathlib.Core.List.{List, [], ◌∷◌, ◌++◌}
use mathlib.Core.Logic.{◌≢◌, by_cases}
use native.Mathlib.Omega.{arith}
use native.Mathlib.Decide.{dec_lt, dec_le, ℕ_discrete}
use native.Mathlib.Nat.{le_antisymm}
use lib.ListN.{length, get_or, replicate}
use lib.Seq.{ext_get_or}
use lib.Dec.{ltb, eqb}
use borrow.Author.Tests.{lt-ltb}
use Rattle.level_map.specs.Assignments.{level_of, Assignment, one, size_of, levels_used}
use Rattle.level_map.specs.Cuts.{before}
use Rattle.level_map.proofs.Tests.{by-test, one_lt, one_eq, one_some}

-- How many entries have a level above `l`.
abbrev pub above : ℕ → List ℕ → ℕ
above l [] = 0
above l (x ∷ xs) = one (ltb l x) + above l xs

-- The levels are from `lo` to `hi`, and never fall along the list.
abbrev pub Rising : ℕ → ℕ → List ℕ → Type 0
Rising lo hi [] = Unit
Rising lo hi (x ∷ xs) = (lo ≤ x) × (x ≤ hi) × Rising x hi xs

pub before_suc : (l : ℕ) (a : List ℕ) → before (suc l) a ≡ before l a + size_of l a
before_suc l [] = refl
before_suc l (x ∷ xs) = omega (arith, one_lt x (suc l), one_lt x l, one_eq x l, before_suc l xs)

pub above_before : (l : ℕ) (a : List ℕ) → above l a + before (suc l) a ≡ length a
above_before l [] = refl
above_before l (x ∷ xs) = omega (arith, one_lt x (suc l), one_lt l x, above_before l xs)

pub before_zero : (a : List ℕ) → before 0 a ≡ 0
before_zero [] = refl
before_zero (x ∷ xs) = omega (arith, one_lt x 0, before_zero xs)

pub before_length : (l : ℕ) (a : List ℕ) → before l a ≤ length a
before_length l [] = zero-le
before_length l (x ∷ xs) = omega (arith, one_lt x l, before_length l xs)

pub before_append : (l : ℕ) (a b : List ℕ) → before l (a ++ b) ≡ before l a + before l b
before_append l [] b = omega arith
before_append l (x ∷ xs) b = omega (arith, before_append l xs b)

pub before_same : (l x m : ℕ) → l ≤ x → before l (replicate m x) ≡ 0
before_same l x zero h = refl
before_same l x (suc m) h = omega (arith, one_lt x l, before_same l x m h)

pub rising_wider : (lo hi lo' hi' : ℕ) (a : List ℕ) → lo' ≤ lo → hi ≤ hi' → Rising lo hi a → Rising lo' hi' a
rising_wider lo hi lo' hi' [] p q r = tt
rising_wider lo hi lo' hi' (x ∷ xs) p q r = ((omega arith), (omega arith), rising_wider x hi x hi' xs (omega arith) q r.2)

pub rising_append : (lo hi : ℕ) (a b : List ℕ) → lo ≤ hi → Rising lo hi a → Rising hi hi b → Rising lo hi (a ++ b)
rising_append lo hi [] b p r t = rising_wider hi hi lo hi b p (omega arith) t
rising_append lo hi (x ∷ xs) b p r t = (r.0, r.1, rising_append x hi xs b r.1 r.2 t)

pub rising_same : (l m : ℕ) → Rising l l (replicate m l)
rising_same l zero = tt
rising_same l (suc m) = ((omega arith), (omega arith), rising_same l m)

pub before_none : (lo hi l : ℕ) (a : List ℕ) → Rising lo hi a → l ≤ lo → before l a ≡ 0
before_none lo hi l [] r h = refl
before_none lo hi l (x ∷ xs) r h = omega (arith, one_lt x l, before_none x hi l xs r.2 (omega arith))

pub before_all : (lo hi l : ℕ) (a : List ℕ) → Rising lo hi a → hi < l → before l a ≡ length a
before_all lo hi l [] r h = refl
before_all lo hi l (x ∷ xs) r h = omega (arith, one_lt x l, before_all x hi l xs r.2 h)

-- an entry lies before a level exactly if its own level is below
pub before_in : (lo hi l : ℕ) (a : List ℕ) (i : ℕ) → Rising lo hi a → i < before l a → get_or a i 0 < l
before_in lo hi l [] i r h = absurd (omega arith)
before_in lo hi l (x ∷ xs) zero r h =
    by_cases (dec_lt x l) (λ y. y) (λ z. absurd (omega (arith, one_lt x l, before_none x hi l xs r.2 (omega arith))))
before_in lo hi l (x ∷ xs) (suc i) r h =
    by_cases (dec_lt x l)
    (λ y. before_in x hi l xs i r.2 (omega (arith, one_lt x l)))
    (λ z. absurd (omega (arith, one_lt x l, before_none x hi l xs r.2 (omega arith))))

pub before_out : (lo hi l : ℕ) (a : List ℕ) (i : ℕ) → Rising lo hi a → i < length a → before l a ≤ i → l ≤ get_or a i 0
before_out lo hi l [] i r h k = absurd (omega arith)
before_out lo hi l (x ∷ xs) zero r h k = omega (arith, one_lt x l)
before_out lo hi l (x ∷ xs) (suc i) r h k =
    before_out x hi l xs i r.2 (omega arith)
    (by_cases (dec_lt x l)
    (λ y. omega (arith, one_lt x l))
    (λ z. omega (arith, before_none x hi l xs r.2 (omega arith))))

-- an entry lies in the group of its own level, and an entry of a level's group has that level
pub own_low : (lo hi : ℕ) (a : List ℕ) (i : ℕ) → Rising lo hi a → before (get_or a i 0) a ≤ i
own_low lo hi a i r =
    by_cases (dec_le (before (get_or a i 0) a) i) (λ y. y)
    (λ z. absurd (omega (arith, before_in lo hi (get_or a i 0) a i r (omega arith))))

pub own_high : (lo hi : ℕ) (a : List ℕ) (i : ℕ) → Rising lo hi a → i < length a → i < before (suc (get_or a i 0)) a
own_high lo hi a i r h =
    by_cases (dec_lt i (before (suc (get_or a i 0)) a)) (λ y. y)
    (λ z. absurd (omega (arith, before_out lo hi (suc (get_or a i 0)) a i r h (omega arith))))

pub own_level : (lo hi l : ℕ) (a : List ℕ) (i : ℕ) → Rising lo hi a → before l a ≤ i → i < before (suc l) a → get_or a i 0 ≡ l
own_level lo hi l a i r h k =
    omega (arith, before_in lo hi (suc l) a i r k, before_out lo hi l a i r (omega (arith, before_length (suc l) a)) h)

-- two lists of levels with the same entries before each level are equal
pub same_before : (hi hi' : ℕ) (a b : List ℕ) → Rising 1 hi a → Rising 1 hi' b → length a ≡ length b
    → ((l : ℕ) → before l a ≡ before l b) → a ≡ b
same_before hi hi' a b r t n e =
    ext_get_or 0 a b n
    (λ i h.
    le_antisymm
    (before_out 1 hi' (get_or a i 0) b i t (omega arith) (omega (arith, own_low 1 hi a i r, e (get_or a i 0))))
    (before_out 1 hi (get_or b i 0) a i r h (omega (arith, own_low 1 hi' b i t, e (get_or b i 0)))))

-- how many of the levels 1 to l some entry has
abbrev pub used : ℕ → List ℕ → ℕ
used zero a = 0
used (suc l) a = one (ltb 0 (size_of (suc l) a)) + used l a

used_nil : (l : ℕ) → used l [] ≡ 0
used_nil zero = refl
used_nil (suc l) = omega (arith, one_lt 0 0, used_nil l)

pub size_same : (x : ℕ) (xs : List ℕ) → size_of x (x ∷ xs) ≡ suc (size_of x xs)
size_same x xs = omega (arith, one_eq x x)

pub size_other : (l x : ℕ) (xs : List ℕ) → x ≢ l → size_of l (x ∷ xs) ≡ size_of l xs
size_other l x xs h = omega (arith, one_eq x l)

used_past : (l x : ℕ) (xs : List ℕ) → l < x → used l (x ∷ xs) ≡ used l xs
used_past zero x xs h = refl
used_past (suc l) x xs h =
    omega (arith, ap (λ n. one (ltb 0 n)) (size_other (suc l) x xs (omega arith)), used_past l x xs (omega arith))

used_cons : (l x : ℕ) (xs : List ℕ) → 1 ≤ x → x ≤ l → used l (x ∷ xs) ≡ one (eqb (size_of x xs) 0) + used l xs
used_cons zero x xs h k = absurd (omega arith)
used_cons (suc l) x xs h k =
    by_cases (ℕ_discrete x (suc l))
    (λ e.
    rw e
    (omega (
      arith,
      one_lt 0 (size_of (suc l) (suc l ∷ xs)),
      size_same (suc l) xs,
      one_some (size_of (suc l) xs),
      used_past l (suc l) xs (omega arith),
    )))
    (λ z. omega (arith, ap (λ n. one (ltb 0 n)) (size_other (suc l) x xs z), used_cons l x xs h (omega arith)))

pub used_levels : (lo L : ℕ) (a : List ℕ) → 1 ≤ lo → Rising lo L a → used L a ≡ levels_used a
used_levels lo L [] h r = used_nil L
used_levels lo L (x ∷ xs) h r =
    omega (arith, used_cons L x xs (omega arith) r.1, used_levels x L xs (omega arith) r.2)

-- the levels used
pub used_ge : (c l : ℕ) (a : List ℕ) → ((j : ℕ) → 1 ≤ j → j ≤ c → 1 ≤ size_of j a) → l ≤ c → used l a ≡ l
used_ge c zero a f h = refl
used_ge c (suc l) a f h =
    omega (arith, one_lt 0 (size_of (suc l) a), f (suc l) (omega arith) h, used_ge c l a f (omega arith))

pub used_le : (l : ℕ) (a : List ℕ) → used l a ≤ l
used_le zero a = zero-le
used_le (suc l) a = omega (arith, one_lt 0 (size_of (suc l) a), used_le l a)

-- the starts of the groups of a list of levels, least urgent first
abbrev add_start : Bool → ℕ → List ℕ → List ℕ
add_start true x s = x ∷ s
add_start false x s = s

abbrev pub starts : List ℕ → ℕ → List ℕ
starts a zero = []
starts a (suc l) = add_start (ltb 0 (size_of (suc l) a)) (before (suc l) a) (starts a l)

pub length-starts : (a : List ℕ) (l : ℕ) → length (starts a l) ≡ used l a
length-starts a zero = refl
length-starts a (suc l) =
    by-test (ltb 0 (size_of (suc l) a))
    (λ q. rw q (omega (arith, length-starts a l)))
    (λ q. rw q (omega (arith, length-starts a l)))

-- of a map they are the cuts themselves
pub starts_map : (c : ℕ) (a : List ℕ) → ((l : ℕ) → 1 ≤ l → l ≤ c → 1 ≤ size_of l a)
    → (l : ℕ) → l ≤ c → (j : ℕ) → get_or (starts a l) j 0 ≡ before (l - j) a
starts_map c a f zero h j =
    let e : 0 - j ≡ 0 = omega arith in
    rw (e, before_zero a)
starts_map c a f (suc l) h zero =
    let e : suc l - 0 ≡ suc l = omega arith in
    rw (lt-ltb 0 (size_of (suc l) a) (f (suc l) (omega arith) h), e)
starts_map c a f (suc l) h (suc j) =
    let e : suc l - suc j ≡ l - j = omega arith in
    rw (lt-ltb 0 (size_of (suc l) a) (f (suc l) (omega arith) h), e, starts_map c a f l (omega arith) j)

-- an assignment, entry by entry and along the list
rising_of : (lo hi : ℕ) (a : List ℕ) → (0 < length a → lo ≤ level_of a 0) → ((i : ℕ) → i < length a → level_of a i ≤ hi)
    → ((i : ℕ) → suc i < length a → level_of a i ≤ level_of a (suc i)) → Rising lo hi a
rising_of lo hi [] f g h = tt
rising_of lo hi (x ∷ xs) f g h = (
  f (omega arith),
  g 0 (omega arith),
  rising_of x hi xs (λ l. h 0 (omega arith)) (λ i l. g (suc i) (omega arith)) (λ i l. h (suc i) (omega arith)),
)

rising_low : (lo hi : ℕ) (a : List ℕ) → Rising lo hi a → (i : ℕ) → i < length a → lo ≤ level_of a i
rising_low lo hi [] r i h = absurd (omega arith)
rising_low lo hi (x ∷ xs) r zero h = r.0
rising_low lo hi (x ∷ xs) r (suc i) h = omega (arith, rising_low x hi xs r.2 i (omega arith))

rising_high : (lo hi : ℕ) (a : List ℕ) → Rising lo hi a → (i : ℕ) → i < length a → level_of a i ≤ hi
rising_high lo hi [] r i h = absurd (omega arith)
rising_high lo hi (x ∷ xs) r zero h = r.1
rising_high lo hi (x ∷ xs) r (suc i) h = rising_high x hi xs r.2 i (omega arith)

rising_next : (lo hi : ℕ) (a : List ℕ) → Rising lo hi a → (i : ℕ) → suc i < length a → level_of a i ≤ level_of a (suc i)
rising_next lo hi [] r i h = absurd (omega arith)
rising_next lo hi (x ∷ xs) r zero h = rising_low x hi xs r.2 0 (omega arith)
rising_next lo hi (x ∷ xs) r (suc i) h = rising_next x hi xs r.2 i (omega arith)

pub assignment_rising : {n hi : ℕ} {a : List ℕ} → Assignment n hi a → Rising 1 hi a
assignment_rising {n} {hi} {a} s =
    rising_of 1 hi a
    (λ l. s.low 0 (omega (arith, s.each)))
    (λ i l. s.high i (omega (arith, s.each)))
    (λ i l. s.rising i (omega (arith, s.each)))

pub rising_assignment : (n hi : ℕ) (a : List ℕ) → length a ≡ n → Rising 1 hi a → Assignment n hi a
rising_assignment n hi a e r =
    record {
      each = e;
      low = λ i h. rising_low 1 hi a r i (omega arith);
      high = λ i h. rising_high 1 hi a r i (omega arith);
      rising = λ i h. rising_next 1 hi a r i (omega arith);
    }
