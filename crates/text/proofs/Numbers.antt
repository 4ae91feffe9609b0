-- Decimal numbers: the digits one by one; reading gives back the number that was printed; no leading zero; how many digits
-- there are.
use Prim.Native.Nat.{ℕ, zero, suc, max, ◌+◌, ◌-◌, ◌*◌, ◌/◌, ◌%◌, ◌^◌, ◌≤◌, ◌<◌}
use mathlib.Core.Path.{◌≡◌, ◌∙◌, refl, ap, sym}
use mathlib.Core.Logic.{by_cases}
use mathlib.Core.List.{List, [], ◌∷◌, ◌++◌}
use native.Mathlib.Nat.{div-lt_iff_lt-mul, pow-suc}
use native.Mathlib.Decide.{dec_lt}
use native.Mathlib.Omega.{arith}
use lib.ListN.{length, get_or, length-append, get_or-append}
use borrow.Author.Tests.{lt-ltb, le-ltb}
use Rattle.std.specs.Fmt.{decimal as printed}
use Rattle.std.proofs.lemmas.Fmt.{decimal_from_appends, length-decimal-le_succ}
use Rattle.text.specs.Decimal.{digits, decimal, read_on, number}

digits_one : (k n : ℕ) → n < 10 → digits (suc k) n ≡ (48 + n) ∷ []
unfolding digits
digits_one k n h = rw (lt-ltb n 10 h, digits)

digits_more : (k n : ℕ) → 10 ≤ n → digits (suc k) n ≡ digits k (n / 10) ++ (48 + n % 10) ∷ []
unfolding digits
digits_more k n h = rw (le-ltb n 10 h, digits)

-- enough room for the digits is enough
digits_enough : (k m n : ℕ) → n < k → n < m → digits k n ≡ digits m n
digits_enough zero m n h l = absurd (omega arith)
digits_enough (suc k) zero n h l = absurd (omega arith)
digits_enough (suc k) (suc m) n h l =
    by_cases (dec_lt n 10)
    (λ y. digits_one k n y ∙ sym (digits_one m n y))
    (λ z.
    digits_more k n (omega arith)
    ∙ ap (λ ds. ds ++ (48 + n % 10) ∷ []) (digits_enough k m (n / 10) (omega arith) (omega arith))
    ∙ sym (digits_more m n (omega arith)))

-- these are the digits that the library prints
pub decimal_printed : (n : ℕ) → n < 2 ^ 64 → printed n ≡ decimal n
unfolding decimal
decimal_printed n h =
    sym (decimal_from_appends digits (record { one = digits_one; more = digits_more }) (suc n) n h
    (omega (arith, length-decimal-le_succ n h)))

pub decimal_one : (n : ℕ) → n < 10 → decimal n ≡ (48 + n) ∷ []
unfolding decimal
decimal_one n h = digits_one n n h

pub decimal_more : (n : ℕ) → 10 ≤ n → decimal n ≡ decimal (n / 10) ++ (48 + n % 10) ∷ []
unfolding decimal
decimal_more n h =
    digits_more n n h
    ∙ ap (λ ds. ds ++ (48 + n % 10) ∷ []) (digits_enough n (suc (n / 10)) (n / 10) (omega arith) (omega arith))

-- a fact of every number, by its digits
by_digits : (P : ℕ → Type 0) → ((n : ℕ) → n < 10 → P n) → ((n : ℕ) → 10 ≤ n → P (n / 10) → P n) → (k n : ℕ) → n < k → P n
by_digits P one more zero n h = absurd (omega arith)
by_digits P one more (suc k) n h =
    by_cases (dec_lt n 10) (one n) (λ z. more n (omega arith) (by_digits P one more k (n / 10) (omega arith)))

read_on-append : (n : ℕ) (ds es : List ℕ) → read_on n (ds ++ es) ≡ read_on (read_on n ds) es
unfolding read_on
read_on-append n [] es = refl
read_on-append n (d ∷ ds) es = read_on-append (n * 10 + (d - 48)) ds es

read_on-one : (n d : ℕ) → read_on n (d ∷ []) ≡ n * 10 + (d - 48)
unfolding read_on
read_on-one n d = refl

-- A printed number read back is the number.
pub number_decimal : (n : ℕ) → number (decimal n) ≡ n
unfolding number
number_decimal n =
    by_digits (λ m. read_on 0 (decimal m) ≡ m)
    (λ m h. ap (read_on 0) (decimal_one m h) ∙ read_on-one 0 (48 + m) ∙ omega arith)
    (λ m h p.
    ap (read_on 0) (decimal_more m h)
    ∙ read_on-append 0 (decimal (m / 10)) ((48 + m % 10) ∷ [])
    ∙ ap (λ x. read_on x ((48 + m % 10) ∷ [])) p
    ∙ read_on-one (m / 10) (48 + m % 10)
    ∙ omega arith)
    (suc n) n (omega arith)

pub decimal_some : (n : ℕ) → 1 ≤ length (decimal n)
decimal_some n =
    by_cases (dec_lt n 10)
    (λ y. rw (decimal_one n y) (omega arith))
    (λ z. rw (decimal_more n (omega arith)) (omega (arith, length-append (decimal (n / 10)) ((48 + n % 10) ∷ []))))

-- It begins with the digit 0 only where it is 0.
pub no_leading_zero : (n : ℕ) → get_or (decimal n) 0 0 ≡ 48 → n ≡ 0
no_leading_zero n =
    by_digits (λ m. get_or (decimal m) 0 0 ≡ 48 → m ≡ 0)
    (λ m h e. omega (arith, ap (λ ds. get_or ds 0 0) (decimal_one m h)))
    (λ m h p e.
    let q : m / 10 ≡ 0 = p (sym (get_or-append (decimal (m / 10)) ((48 + m % 10) ∷ []) 0 0 (decimal_some (m / 10)))
    ∙ sym (ap (λ ds. get_or ds 0 0) (decimal_more m h)) ∙ e) in
    absurd (omega arith))
    (suc n) n (omega arith)

-- A number below 10 ^ k has no more than k digits.
pub decimal_length : (k n : ℕ) → n < 10 ^ suc k → length (decimal n) ≤ suc k
decimal_length zero n h = rw (decimal_one n (omega arith)) (omega arith)
decimal_length (suc k) n h =
    by_cases (dec_lt n 10)
    (λ y. rw (decimal_one n y) (omega arith))
    (λ z.
    rw (decimal_more n (omega arith))
    (omega (
      arith,
      length-append (decimal (n / 10)) ((48 + n % 10) ∷ []),
      decimal_length k (n / 10) ((div-lt_iff_lt-mul (omega arith)).1 (rw pow-suc at h)),
    )))

ten_some : (k : ℕ) → 0 < 10 ^ k
ten_some zero = omega arith
ten_some (suc k) = rw pow-suc (omega (arith, ten_some k))

-- One that is at least 10 ^ k has more than k digits, and 0 has one.
decimal_least : (k n : ℕ) → 10 ^ k ≤ max n 1 → k < length (decimal n)
decimal_least zero n h = omega (arith, decimal_some n)
decimal_least (suc k) n h =
    let large : 10 ^ k * 10 ≤ max n 1 = rw pow-suc at h in
    let some : 0 < 10 ^ k = ten_some k in
    let l : 10 ≤ n = omega arith in
    rw (decimal_more n l)
    (omega (arith, length-append (decimal (n / 10)) ((48 + n % 10) ∷ []), decimal_least k (n / 10) (omega arith)))

pub decimal_exact : (k n : ℕ) → 10 ^ k ≤ max n 1 → max n 1 < 10 * 10 ^ k → length (decimal n) ≡ k + 1
decimal_exact k n p q =
    let below : n < 10 ^ suc k = rw pow-suc (omega arith) in
    omega (arith, decimal_least k n p, decimal_length k n below)

-- The numbers of a byte, of 16, 32 and 64 bits.
pub decimal_8 : (n : ℕ) → n < 256 → length (decimal n) ≤ 3
decimal_8 n h = decimal_length 2 n (omega arith)

pub decimal_16 : (n : ℕ) → n < 65536 → length (decimal n) ≤ 5
decimal_16 n h = decimal_length 4 n (omega arith)

pub decimal_32 : (n : ℕ) → n < 2 ^ 32 → length (decimal n) ≤ 10
decimal_32 n h = decimal_length 9 n (omega arith)

pub decimal_64 : (n : ℕ) → n < 2 ^ 64 → length (decimal n) ≤ 20
decimal_64 n h = decimal_length 19 n (omega arith)
