-- The test as an iteration, for any demand w that never falls and any deadline d.
use Prim.Native.Nat.{ℕ, zero, suc, ◌+◌, ◌-◌, ◌≤◌, ◌<◌}
use mathlib.Core.Path.{◌≡◌, ◌∙◌, refl, ap, sym, fun_ext}
use mathlib.Core.Logic.{◌⊎◌, inl, inr, ⊎_elim}
use native.Mathlib.Nat.{le_trans, le_refl, eq-or-lt_of_le}
use native.Mathlib.Decide.{dec_le}
use native.Mathlib.Omega.{arith}
use borrow.Author.Tests.{le-leb, lt-leb, eq-eqb, ne_eqb}
use Rattle.completion.specs.Test.{Completion, on_time, late, overrun, iterate, test_from}
use Rattle.completion.specs.Rounds.{Fixed}

pub le_or_lt : (a b : ℕ) → (a ≤ b) ⊎ (b < a)
le_or_lt a b = elim (dec_le a b) [ yes p ↦ inl p | no p ↦ inr (omega arith) ]

-- one round
module _ (w : ℕ → ℕ) (d : ℕ) where
  pub iterate_late : (k t n : ℕ) → d < t → iterate w d k t n ≡ late n (overrun w d)
  unfolding iterate
  iterate_late zero t n h = refl
  iterate_late (suc k) t n h = rw (lt-leb t d h, iterate)

  pub iterate_done : (k t n : ℕ) → t ≤ d → Fixed w t → iterate w d (suc k) t n ≡ on_time t (n + 1)
  unfolding iterate
  iterate_done k t n h e = rw (le-leb t d h, iterate) (rw (eq-eqb (w t) t e, iterate))

  pub iterate_next : (k t n : ℕ) → t ≤ d → t < w t → iterate w d (suc k) t n ≡ iterate w d k (w t) (n + 1)
  unfolding iterate
  iterate_next k t n h l = rw (le-leb t d h, iterate) (rw (ne_eqb (w t) t (λ e. omega arith), iterate))

-- equal demands give equal answers
pub test_same : (w v : ℕ → ℕ) → ((t : ℕ) → w t ≡ v t) → (d t n : ℕ) → test_from w d t n ≡ test_from v d t n
test_same w v e d t n = ap (λ f. test_from f d t n) (fun_ext e)

module _ (w : ℕ → ℕ) (d : ℕ) (up : (a b : ℕ) → a ≤ b → w a ≤ w b) where
  -- a time at which the demand is at least the time: it ends there or goes on
  pub rising : (t : ℕ) → t ≤ w t → Fixed w t ⊎ (t < w t)
  rising t g = ⊎_elim (λ e. inl (sym e)) (λ l. inr l) (eq-or-lt_of_le g)

  -- any two numbers of rounds that are large enough give the same answer
  iterate_enough : (k m t n : ℕ) → t ≤ w t → d < t + k → d < t + m → iterate w d k t n ≡ iterate w d m t n
  iterate_enough zero m t n g p q = iterate_late w d zero t n (omega arith) ∙ sym (iterate_late w d m t n (omega arith))
  iterate_enough (suc k) zero t n g p q =
      iterate_late w d (suc k) t n (omega arith) ∙ sym (iterate_late w d zero t n (omega arith))
  iterate_enough (suc k) (suc m) t n g p q =
      ⊎_elim
      (λ h. ⊎_elim
      (λ e. iterate_done w d k t n h e ∙ sym (iterate_done w d m t n h e))
      (λ l.
      iterate_next w d k t n h l
      ∙ iterate_enough k m (w t) (n + 1) (up t (w t) g) (omega arith) (omega arith)
      ∙ sym (iterate_next w d m t n h l))
      (rising t g))
      (λ h. iterate_late w d (suc k) t n h ∙ sym (iterate_late w d (suc m) t n h))
      (le_or_lt t d)

  -- the three ways of a round
  pub test_late : (t n : ℕ) → d < t → test_from w d t n ≡ late n (overrun w d)
  unfolding test_from
  test_late t n h = iterate_late w d (d + 1 - t) t n h

  pub test_done : (t n : ℕ) → t ≤ d → Fixed w t → test_from w d t n ≡ on_time t (n + 1)
  unfolding test_from
  test_done t n h e = let k : d + 1 - t ≡ suc (d - t) = omega arith in rw k (iterate_done w d (d - t) t n h e)

  pub test_next : (t n : ℕ) → t ≤ d → t < w t → test_from w d t n ≡ test_from w d (w t) (n + 1)
  unfolding test_from
  test_next t n h l =
      let k : d + 1 - t ≡ suc (d - t) = omega arith in
      rw k
      (iterate_next w d (d - t) t n h l
      ∙ iterate_enough (d - t) (d + 1 - w t) (w t) (n + 1) (up t (w t) (omega arith)) (omega arith) (omega arith))

  -- what the answer says of the times from t on: on time at the least whose demand is at most that time, and late if
  -- every such time is beyond d
  abbrev pub Least : ℕ → Completion → Type 0
  Least t (on_time x m) = Fixed w x × (t ≤ x) × (x ≤ d) × ((y : ℕ) → t ≤ y → w y ≤ y → x ≤ y)
  Least t (late m x) = (y : ℕ) → t ≤ y → w y ≤ y → d < y

  least_before : (t : ℕ) (o : Completion) → t ≤ w t → Least (w t) o → Least t o
  least_before t (on_time x m) g l = (l.0, omega arith, l.2, λ y h p. l.3 y (le_trans (up t y h) p) p)
  least_before t (late m x) g l = λ y h p. l y (le_trans (up t y h) p) p

  iterate_least : (k t n : ℕ) → t ≤ w t → d < t + k → Least t (iterate w d k t n)
  iterate_least zero t n g h = rw (iterate_late w d zero t n (omega arith)) (λ y l p. omega arith)
  iterate_least (suc k) t n g h =
      ⊎_elim
      (λ a. ⊎_elim
      (λ e. rw (iterate_done w d k t n a e) (e, le_refl t, a, λ y l p. l))
      (λ b.
      rw (iterate_next w d k t n a b)
      (least_before t (iterate w d k (w t) (n + 1)) g (iterate_least k (w t) (n + 1) (up t (w t) g) (omega arith))))
      (rising t g))
      (λ a. rw (iterate_late w d (suc k) t n a) (λ y l p. omega arith))
      (le_or_lt t d)

  pub test_least : (t n : ℕ) → t ≤ w t → Least t (test_from w d t n)
  unfolding test_from
  test_least t n g = iterate_least (d + 1 - t) t n g (omega arith)

  -- the same for a loop that has evaluated the demand to x, or found the overrun x, and whose answer is to be o
  module _ (t n : ℕ) (o : Completion) (p : test_from w d t n ≡ o) where
    pub loop_late : (x : ℕ) → d < t → x ≡ overrun w d → late n x ≡ o
    loop_late x h e = rw e (sym (test_late t n h) ∙ p)

    pub loop_done : (x : ℕ) → t ≤ d → x ≡ w t → x ≡ t → on_time t (n + 1) ≡ o
    loop_done x h e l = sym (test_done t n h (sym e ∙ l)) ∙ p

    pub loop_next : (x : ℕ) → t ≤ d → x ≡ w t → t < x → test_from w d x (n + 1) ≡ o
    loop_next x h e l = rw e (sym (test_next t n h (rw (← e) l)) ∙ p)
