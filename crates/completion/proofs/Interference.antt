-- The demand as one sum, with a term for each entry. For any levels it follows that the demand never falls and rises only
-- with a release, and that the test starts at the demand of the first tick.
use Prim.Native.Nat.{ℕ, ◌+◌, ◌-◌, ◌*◌, ◌≤◌, ◌<◌, zero-le, min}
use mathlib.Core.Path.{◌≡◌, ◌∙◌, refl, ap, ap₂, sym}
use mathlib.Core.Bool.{Bool, true, false, ◌&&◌, ◌||◌, not, true≢false}
use mathlib.Core.Logic.{◌⊎◌, inl, inr, ⊎_elim, by_cases}
use mathlib.Core.List.{List}
use native.Mathlib.Nat.{eq-or-lt_of_le}
use native.Mathlib.Decide.{dec_lt, ℕ_discrete}
use native.Mathlib.Omega.{arith}
use lib.ListN.{length}
use lib.Dec.{ltb, leb, eqb}
use borrow.Author.Tests.{lt-ltb, le-ltb, le-leb, lt-leb, eq-eqb, ne_eqb}
use Rattle.task_model.specs.declared.Entry.{Entry}
use Rattle.task_model.specs.Limits.{entry_at, AllHold}
use Rattle.completion.specs.Demand.{releases, sum_to, only, more_urgent, shares_level, higher_level_interference, same_level_interference, demand_with, initial_time_with}
use Rattle.task_model.proofs.Tests.{true_or_false}
use Rattle.completion.proofs.Sums.{sum_to-le, sum_to-eq, sum_to-add, sum_to-strict, sum_to-one}
use Rattle.completion.proofs.Releases.{releases_up, releases_some, higher_level_up, same_level_up, higher_level_first, same_level_first}

-- What the entry at j adds to the demand at t of the entry at i.
abbrev pub share : List Entry → (ℕ → ℕ) → ℕ → ℕ → ℕ → ℕ
share es lv i t j =
    only (more_urgent lv i j) (higher_level_interference (entry_at es j) t) + only (shares_level lv i j) (same_level_interference (entry_at es j) (entry_at es i).calls t)

pub demand_interferences : (b : ℕ) (es : List Entry) (lv : ℕ → ℕ) (i t : ℕ)
    → demand_with b es lv i t ≡ (entry_at es i).wcet + b + sum_to (share es lv i t) (length es)
unfolding demand_with
demand_interferences b es lv i t =
    omega (
      arith,
      sum_to-add (λ j. only (more_urgent lv i j) (higher_level_interference (entry_at es j) t))
          (λ j. only (shares_level lv i j) (same_level_interference (entry_at es j) (entry_at es i).calls t)) (length es),
    )

only_le : (b : Bool) (x y : ℕ) → x ≤ y → only b x ≤ only b y
only_le true x y h = h
only_le false x y h = zero-le

-- the three orders of two levels, with what each test says
by_order : {A : Type 0} (a b : ℕ) → (a < b → A) → (a ≡ b → A) → (b < a → A) → A
by_order a b f g h = by_cases (dec_lt a b) f (λ l. by_cases (ℕ_discrete a b) g (λ e. h (omega arith)))

pub leb_or : (a b : ℕ) → leb a b ≡ (ltb a b || eqb a b)
leb_or a b =
    by_order a b
    (λ l. rw (lt-ltb a b l, le-leb a b (omega arith)))
    (λ e. rw (le-ltb a b (omega arith), eq-eqb a b e, le-leb a b (omega arith)))
    (λ l. rw (le-ltb a b (omega arith), ne_eqb a b (λ e. omega arith), lt-leb a b l))

-- an entry on a level up to the timed one's: more urgent, another one beside it, or itself
split : (a b j i x : ℕ) → (j ≡ i → a ≡ b)
    → only (leb a b) x ≡ only (ltb a b) x + only (eqb a b && not (eqb j i)) x + only (eqb j i) x
split a b j i x own =
    by_order a b
    (λ l.
    rw (le-leb a b (omega arith), lt-ltb a b l, ne_eqb a b (λ e. omega arith), ne_eqb j i (λ e. omega (arith, own e)))
    (omega arith))
    (λ e.
    rw (le-leb a b (omega arith), le-ltb a b (omega arith), eq-eqb a b e)
    (by_cases (ℕ_discrete j i) (λ p. rw (eq-eqb j i p) (omega arith)) (λ p. rw (ne_eqb j i p) (omega arith))))
    (λ l.
    rw (lt-leb a b l, le-ltb a b (omega arith), ne_eqb a b (λ e. omega arith), ne_eqb j i (λ e. omega (arith, own e)))
    refl)

-- an entry that is none of these adds nothing
outside : (a b j i : ℕ) → (j ≡ i → a ≡ b) → (leb a b && not (eqb j i)) ≡ false
    → (ltb a b ≡ false) × ((eqb a b && not (eqb j i)) ≡ false)
outside a b j i own h =
    by_cases (ℕ_discrete j i)
    (λ p. (le-ltb a b (omega (arith, own p)), (rw (eq-eqb j i p, eq-eqb a b (own p)))))
    (λ p.
    let within : a ≤ b → ⊥ = λ l. true≢false (sym (rw (le-leb a b l, ne_eqb j i p)) ∙ h) in
    by_order a b
    (λ l. absurd (within (omega arith)))
    (λ e. absurd (within (omega arith)))
    (λ l. (le-ltb a b (omega arith), (rw (ne_eqb a b (λ e. omega arith))))))

-- The releases of the entry at j after its first, in t ticks, where it is on i's own or a more urgent level.
abbrev pub later : List Entry → (ℕ → ℕ) → ℕ → ℕ → ℕ → ℕ
later es lv i t j = only (leb (lv j) (lv i) && not (eqb j i)) (releases (entry_at es j) t - 1)

module _ (es : List Entry) (all : AllHold es) (lv : ℕ → ℕ) (i : ℕ) (hi : i < length es) where
  periodic : (j : ℕ) → j < length es → 1 ≤ (entry_at es j).period
  periodic j h = omega (arith, (all j h).times)

  -- The demand never falls.
  pub demand_up : (c a b : ℕ) → a ≤ b → demand_with c es lv i a ≤ demand_with c es lv i b
  demand_up c a b l =
      omega (
        arith,
        demand_interferences c es lv i a,
        demand_interferences c es lv i b,
        sum_to-le (share es lv i a) (share es lv i b) (length es)
            (λ j h.
            omega (
              arith,
              only_le (more_urgent lv i j) _ _ (higher_level_up (entry_at es j) (all j h) a b l),
              only_le (shares_level lv i j) _ _ (same_level_up (entry_at es j) (all j h) (entry_at es i).calls a b l),
            )),
      )

  -- It is at least the entry's own run.
  pub demand_some : (b t : ℕ) → 1 ≤ demand_with b es lv i t
  demand_some b t = omega (arith, demand_interferences b es lv i t, (all i hi).times)

  -- The test starts at the demand of the first tick.
  pub initial_first : (b : ℕ) → initial_time_with b es lv i ≡ demand_with b es lv i 1
  unfolding initial_time_with
  initial_first b =
      let n = length es in
      let urgent : ℕ → ℕ = λ j. only (more_urgent lv i j) (entry_at es j).wcet in
      let other : ℕ → ℕ = λ j. only (shares_level lv i j) (entry_at es j).wcet in
      let own : ℕ → ℕ = λ j. only (eqb j i) (entry_at es j).wcet in
      let parts = sum_to-eq (λ j. only (leb (lv j) (lv i)) (entry_at es j).wcet) (λ j. urgent j + other j + own j) n
      (λ j h. split (lv j) (lv i) j i (entry_at es j).wcet (λ e. ap lv e)) in
      let shares = sum_to-eq (share es lv i 1) (λ j. urgent j + other j) n
      (λ j h. ap₂ (λ x y. only (more_urgent lv i j) x + only (shares_level lv i j) y)
      (higher_level_first (entry_at es j) (all j h)) (same_level_first (entry_at es j) (all j h) (entry_at es i).calls)) in
      omega (
        arith,
        demand_interferences b es lv i 1,
        shares,
        parts,
        sum_to-add (λ j. urgent j + other j) own n,
        sum_to-one (λ j. (entry_at es j).wcet) i n hi,
      )

  -- The count of later releases never falls either, and rises where the demand does.
  pub later_up : (a b : ℕ) → a ≤ b → sum_to (later es lv i a) (length es) ≤ sum_to (later es lv i b) (length es)
  later_up a b l =
      sum_to-le _ _ (length es)
      (λ j h. only_le (leb (lv j) (lv i) && not (eqb j i)) _ _ (omega (arith, releases_up (entry_at es j) (periodic j h) a b l)))

  rises : (a b : ℕ) → 1 ≤ a → a ≤ b → (j : ℕ) → j < length es
      → (later es lv i a j < later es lv i b j) ⊎ ((later es lv i a j ≡ later es lv i b j) × (share es lv i a j ≡ share es lv i b j))
  unfolding higher_level_interference same_level_interference
  rises a b p l j h =
      ⊎_elim
      (λ e.
      inr (
        ap (λ x. only (leb (lv j) (lv i) && not (eqb j i)) (x - 1)) e,
        ap
            (λ x. only (more_urgent lv i j) ((entry_at es j).wcet * x) + only (shares_level lv i j) ((entry_at es j).wcet * min x ((entry_at es i).calls + 1)))
            e,
      ))
      (λ (k : releases (entry_at es j) a < releases (entry_at es j) b).
      ⊎_elim
      (λ q. inl (rw q (omega (arith, releases_some (entry_at es j) (periodic j h) a p))))
      (λ q.
      let o = outside (lv j) (lv i) j i (λ e. ap lv e) q in
      inr ((rw q), (rw (o.0, o.1))))
      (true_or_false (leb (lv j) (lv i) && not (eqb j i))))
      (eq-or-lt_of_le (releases_up (entry_at es j) (periodic j h) a b l))

  pub later_strict : (c a b : ℕ) → 1 ≤ a → a ≤ b → demand_with c es lv i a < demand_with c es lv i b
      → sum_to (later es lv i a) (length es) < sum_to (later es lv i b) (length es)
  later_strict c a b p l h =
      ⊎_elim
      (λ k. k)
      (λ k. absurd (omega (arith, demand_interferences c es lv i a, demand_interferences c es lv i b)))
      (sum_to-strict (later es lv i a) (later es lv i b) (share es lv i a) (share es lv i b) (length es) (rises a b p l))
