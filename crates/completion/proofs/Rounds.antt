-- The rounds of the test, in terms of the iterates of the demand, for any demand w that never falls and any deadline d.
use Prim.Native.Nat.{ℕ, zero, suc, ◌+◌, ◌-◌, ◌≤◌, ◌<◌, zero-le}
use mathlib.Core.Path.{◌≡◌, ◌∙◌, refl, ap, ap₂, sym, subst}
use mathlib.Core.Logic.{⊎_elim, ◌↔◌, by_cases}
use native.Mathlib.Nat.{le_trans, le_refl, le_of_eq}
use native.Mathlib.Decide.{dec_lt}
use native.Mathlib.Omega.{arith}
use Rattle.completion.specs.Test.{Completion, on_time, late, overrun, iterate, test_from, rounds_in}
use Rattle.completion.specs.Rounds.{iterates, Fixed, FixedIn, LateIn}
use Rattle.completion.proofs.Iteration.{le_or_lt, iterate_late, iterate_done, iterate_next, rising}

module _ (w : ℕ → ℕ) where
  iterates_next : (t k : ℕ) → iterates w (w t) k ≡ iterates w t (suc k)
  unfolding iterates
  iterates_next t zero = refl
  iterates_next t (suc k) = ap w (iterates_next t k)

  pub iterates_none : (t : ℕ) → iterates w t 0 ≡ t
  unfolding iterates
  iterates_none t = refl

  pub iterates_suc : (t k : ℕ) → iterates w t (suc k) ≡ w (iterates w t k)
  unfolding iterates
  iterates_suc t k = refl

  -- the first iterate is not fixed, nor those after it
  not_fixed : (t k : ℕ) → t < w t → ((j : ℕ) → j < k → Fixed w (iterates w (w t) j) → ⊥)
      → (j : ℕ) → j < suc k → Fixed w (iterates w t j) → ⊥
  not_fixed t k l h zero p e = omega (arith, iterates_none t, ap w (iterates_none t))
  not_fixed t k l h (suc j) p e = h j (omega arith) (rw (iterates_next t j) e)

  within_next : (t k d : ℕ) → t ≤ d → ((j : ℕ) → j < k → iterates w (w t) j ≤ d) → (j : ℕ) → j < suc k → iterates w t j ≤ d
  within_next t k d l h zero p = omega (arith, iterates_none t)
  within_next t k d l h (suc j) p = rw (iterates_next t j) at (h j (omega arith))

module _ (w : ℕ → ℕ) (d : ℕ) (up : (a b : ℕ) → a ≤ b → w a ≤ w b) where
  -- what the answer says where `n` rounds were made before
  abbrev Said : ℕ → ℕ → Completion → Type 0
  Said t n (on_time x m) = (r : ℕ) × (m ≡ n + r) × FixedIn w t d x r
  Said t n (late m x) = (r : ℕ) × (m ≡ n + r) × LateIn w t d r × (x ≡ overrun w d)

  said_next : (t n : ℕ) (o : Completion) → t ≤ d → t < w t → Said (w t) (n + 1) o → Said t n o
  said_next t n (on_time x m) h l s = (
    suc s.0,
    omega arith,
    record {
      last = suc s.2.last;
      counted = omega (arith, s.2.counted);
      reached = sym (iterates_next w t s.2.last) ∙ s.2.reached;
      fixed = s.2.fixed;
      first = not_fixed w t s.2.last l s.2.first;
      due = s.2.due;
    },
  )
  said_next t n (late m x) h l s = (
    suc s.0,
    omega arith,
    record {
      within = within_next w t s.0 d h s.2.within;
      moving = not_fixed w t s.0 l s.2.moving;
      beyond = rw (iterates_next w t s.0) at s.2.beyond;
    },
    s.3,
  )

  said : (k t n : ℕ) → t ≤ w t → d < t + k → Said t n (iterate w d k t n)
  said zero t n g h =
      rw (iterate_late w d zero t n (omega arith))
      (0, omega arith, record { within = λ j p. absurd (omega arith); moving = λ j p. absurd (omega arith); beyond = omega (arith, iterates_none w t) }, refl)
  said (suc k) t n g h =
      ⊎_elim
      (λ a. ⊎_elim
      (λ e.
      rw (iterate_done w d k t n a e) (
        1,
        refl,
        record {
          last = 0;
          counted = refl;
          reached = iterates_none w t;
          fixed = e;
          first = λ j p. absurd (omega arith);
          due = a;
        },
      ))
      (λ l.
      rw (iterate_next w d k t n a l)
      (said_next t n (iterate w d k (w t) (n + 1)) a l (said k (w t) (n + 1) (up t (w t) g) (omega arith))))
      (rising w d up t g))
      (λ a.
      rw (iterate_late w d (suc k) t n a)
      (0, omega arith, record { within = λ j p. absurd (omega arith); moving = λ j p. absurd (omega arith); beyond = omega (arith, iterates_none w t) }, refl))
      (le_or_lt t d)

  module _ (t : ℕ) (g : t ≤ w t) where
    test_said : Said t 0 (test_from w d t 0)
    unfolding test_from
    test_said = said (d + 1 - t) t 0 g (omega arith)

    -- the iterates never fall: the demand is never below the time while the test goes on
    pub iterates_ahead : (k : ℕ) → iterates w t k ≤ w (iterates w t k)
    iterates_ahead zero = rw (iterates_none w t) g
    iterates_ahead (suc k) = rw (iterates_suc w t k) (up _ _ (iterates_ahead k))

    iterates_rise : (a k : ℕ) → iterates w t a ≤ iterates w t (a + k)
    iterates_rise a zero = let e : a + 0 ≡ a = omega arith in rw e (le_refl _)
    iterates_rise a (suc k) =
        let e : a + suc k ≡ suc (a + k) = omega arith in
        rw (e, iterates_suc w t (a + k)) (le_trans (iterates_rise a k) (iterates_ahead (a + k)))

    iterates_up : (a b : ℕ) → a ≤ b → iterates w t a ≤ iterates w t b
    iterates_up a b l = let e : a + (b - a) ≡ b = omega arith in rw e at (iterates_rise a (b - a))

    -- there is one first fixed iterate, one way to be late, and not both
    one_fixed : (x y m n : ℕ) → FixedIn w t d x m → FixedIn w t d y n → (x ≡ y) × (m ≡ n)
    one_fixed x y m n p q =
        let e : p.last ≡ q.last =
        by_cases (dec_lt p.last q.last)
        (λ l. absurd (q.first p.last l (ap w p.reached ∙ p.fixed ∙ sym p.reached)))
        (λ l. by_cases (dec_lt q.last p.last)
        (λ k. absurd (p.first q.last k (ap w q.reached ∙ q.fixed ∙ sym q.reached)))
        (λ k. omega arith)) in
        (sym p.reached ∙ ap (iterates w t) e ∙ q.reached, omega (arith, p.counted, q.counted))

    one_late : (m n : ℕ) → LateIn w t d m → LateIn w t d n → m ≡ n
    one_late m n p q =
        by_cases (dec_lt m n)
        (λ l. absurd (omega (arith, q.within m l, p.beyond)))
        (λ l. by_cases (dec_lt n m) (λ k. absurd (omega (arith, p.within n k, q.beyond))) (λ k. omega arith))

    not_both : (x m n : ℕ) → FixedIn w t d x m → LateIn w t d n → ⊥
    not_both x m n p q =
        by_cases (dec_lt p.last n)
        (λ l. q.moving p.last l (ap w p.reached ∙ p.fixed ∙ sym p.reached))
        (λ l. omega (arith, iterates_up n p.last (omega arith), p.reached, p.due, q.beyond))

    decides_fixed : (o : Completion) → Said t 0 o → (x m : ℕ) → FixedIn w t d x m → o ≡ on_time x m
    decides_fixed (on_time y n) s x m p =
        let e = one_fixed y x s.0 m s.2 p in
        ap₂ on_time e.0 (omega arith)
    decides_fixed (late n y) s x m p = absurd (not_both x m s.0 p s.2)

    decides_late : (o : Completion) → Said t 0 o → (m : ℕ) → LateIn w t d m → o ≡ late m (overrun w d)
    decides_late (on_time y n) s m p = absurd (not_both y s.0 m s.2 p)
    decides_late (late n y) s m p = ap₂ late (omega (arith, one_late s.0 m s.2 p)) s.3

    pub fixed_in : (x m : ℕ) → test_from w d t 0 ≡ on_time x m ↔ FixedIn w t d x m
    fixed_in x m = (
      λ p. let s = subst (Said t 0) p test_said in let e : m ≡ s.0 = omega arith in rw e s.2,
      decides_fixed (test_from w d t 0) test_said x m,
    )

    pub late_in : (m x : ℕ) → test_from w d t 0 ≡ late m x ↔ (LateIn w t d m × (x ≡ overrun w d))
    late_in m x = (
      λ p. let s = subst (Said t 0) p test_said in let e : m ≡ s.0 = omega arith in (rw e s.2, s.3),
      λ p. decides_late (test_from w d t 0) test_said m p.0 ∙ ap (late m) (sym p.1),
    )

    -- each round that goes on raises the time
    climbs : (k : ℕ) → ((j : ℕ) → j < k → Fixed w (iterates w t j) → ⊥) → t + k ≤ iterates w t k
    climbs zero h = omega (arith, iterates_none w t)
    climbs (suc k) h =
        ⊎_elim
        (λ e. absurd (h k (omega arith) e))
        (λ l. omega (arith, climbs k (λ j p. h j (omega arith)), iterates_suc w t k))
        (rising w d up (iterates w t k) (iterates_ahead k))

    rounds_of : (o : Completion) → Said t 0 o → 1 ≤ t → rounds_in o ≤ d
    rounds_of (on_time x m) s p =
        let f = s.2 in
        omega (arith, climbs f.last f.first, f.reached, f.due, f.counted)
    rounds_of (late zero x) s p = zero-le
    rounds_of (late (suc m) x) s p =
        let f = s.2 in
        let e : s.0 ≡ suc m = omega arith in
        omega (arith, climbs m (λ j q. f.moving j (omega arith)), f.within m (omega arith))

    pub rounds_due : 1 ≤ t → rounds_in (test_from w d t 0) ≤ d
    rounds_due p = rounds_of (test_from w d t 0) test_said p

-- A count q that rises whenever the demand does, and bounds the rounds of a test that starts at the demand of the first tick.
module _ (w : ℕ → ℕ) (d : ℕ) (up : (a b : ℕ) → a ≤ b → w a ≤ w b) (some : 1 ≤ w 1) (q : ℕ → ℕ)
    (q-up : (a b : ℕ) → a ≤ b → q a ≤ q b) (strict : (a b : ℕ) → 1 ≤ a → a ≤ b → w a < w b → q a < q b) where
  begins : w 1 ≤ w (w 1)
  begins = up 1 (w 1) some

  counts : (k : ℕ) → ((j : ℕ) → j < k → Fixed w (iterates w (w 1) j) → ⊥) → k ≤ q (iterates w 1 k)
  counts zero h = zero-le
  counts (suc k) h =
      let a = iterates w 1 k in
      let b = iterates w (w 1) k in
      let n : b ≡ iterates w 1 (suc k) = iterates_next w 1 k in
      let s : b ≡ w a = n ∙ iterates_suc w 1 k in
      let pos : 1 ≤ a = le_trans (le_of_eq (sym (iterates_none w 1))) (iterates_up w d up 1 some 0 k zero-le) in
      ⊎_elim
      (λ e. absurd (h k (omega arith) e))
      (λ l.
      rw (← n)
      (omega (
        arith,
        counts k (λ j p. h j (omega arith)),
        strict a b pos (le_trans (iterates_ahead w d up 1 some k) (le_of_eq (sym s))) (omega arith),
      )))
      (rising w d up b (iterates_ahead w d up (w 1) begins k))

  bound_of : (o : Completion) → Said w d up (w 1) 0 o → rounds_in o ≤ 1 + q d
  bound_of (on_time x m) s =
      let f = s.2 in
      let top : iterates w 1 f.last ≤ d =
      omega (
        arith,
        iterates_up w d up 1 some f.last (suc f.last) (omega arith),
        iterates_next w 1 f.last,
        f.reached,
        f.due,
      ) in
      omega (arith, counts f.last f.first, q-up _ _ top, f.counted)
  bound_of (late zero x) s = zero-le
  bound_of (late (suc m) x) s =
      let f = s.2 in
      let e : s.0 ≡ suc m = omega arith in
      let top : iterates w 1 (suc m) ≤ d = rw (iterates_next w 1 m) at (f.within m (omega arith)) in
      omega (arith, counts (suc m) (λ j p. f.moving j (omega arith)), q-up _ _ top)

  pub rounds_bounded : rounds_in (test_from w d (w 1) 0) ≤ 1 + q d
  rounds_bounded = bound_of (test_from w d (w 1) 0) (test_said w d up (w 1) begins)
