use Prim.Native.Nat.{ℕ, ◌+◌, ◌-◌, ◌*◌, ◌/◌, ◌%◌, ◌≤◌, ◌<◌, min, max}
use mathlib.Core.Path.{◌≡◌}
use mathlib.Core.List.{List}
use native.Mathlib.Nat.{le_trans, zero-mul, mul-le-mul_right}
use native.Mathlib.Omega.{arith}
use Rattle.node_words.specs.Words.{entry_of}
use Rattle.completion.specs.Demand.{sum_to}
use Rattle.completion.proofs.Sums.{sum_to-le}
use Rattle.completion.proofs.Words.{wcet_of}
use Rattle.on_time.specs.Utilisation.{full_utilisation}
use Rattle.on_time.proofs.Utilisation.{run_most}
use Rattle.on_time.proofs.Early.{utilisation_of, run_of, ceil_least, ceil_enough}
use Rattle.on_time.proofs.completion_bound.Goals as goal

-- work that does not fit into a full utilisation up to d does not fit up to d into what is left of it
past_limit : (u once jitter d t : ℕ) → full_utilisation * d < once + jitter → once + jitter ≤ (full_utilisation - u) * t → d + 1 ≤ t
past_limit u once jitter d t h w =
    let most : (full_utilisation - u) * t ≤ full_utilisation * t = mul-le-mul_right t (omega arith) in
    omega (arith, most, w, h)

-- the sum of jitters that is cut is no more than the whole
cut_most : (c s m : ℕ) → c ≡ min s m → c ≤ s
cut_most c s m p = omega arith

-- a sum of jitters that is below its cut is the whole
whole : (c s m : ℕ) → c ≡ min s m → c < m → s ≡ c
whole c s m p h = omega arith

-- from the quotient on, the work fits into what is left
fits_from : (spare u us runs rs jitter js initial x : ℕ) → spare ≡ full_utilisation - u → u ≡ us → runs ≡ rs → js ≡ jitter → 1 ≤ spare
    → (full_utilisation * (initial - runs) + jitter) / spare + min 1 ((full_utilisation * (initial - runs) + jitter) % spare) ≤ x
    → full_utilisation * (initial - rs) + js ≤ (full_utilisation - us) * x
fits_from spare u us runs rs jitter js initial x p q r w some l =
    rw (← q, ← p, ← r, w) (ceil_enough (full_utilisation * (initial - runs) + jitter) spare x some l)

-- the later of two times is no later than a third
no_later : (q s r t : ℕ) → r ≡ max q s → q ≤ t → s ≤ t → r ≤ t
no_later q s r t p h k = omega arith

-- the runs of the recurring entries are below the initial time
less : (d first runs initial : ℕ) (ws : List ℕ) → runs ≡ sum_to (run_of d ws) first → sum_to (wcet_of ws) first < initial → runs < initial
less d first runs initial ws p q = omega (arith, sum_to-le (run_of d ws) (wcet_of ws) first (λ j k. run_most d (entry_of ws j)))

pub returns-then-spare-eq0-clause-bound : goal.returns-then-spare-eq0-clause-bound
returns-then-spare-eq0-clause-bound c t h w =
    let r = c.recurring_sum-r.ensures in
    let x = c.args.timed.now in
    let none : full_utilisation - sum_to (utilisation_of c.args.limit x.node.words.now) x.first ≡ 0 =
    omega (arith, c.if-spare-eq0.true, c.saturating_sub-spare.ensures, r.0) in
    absurd (omega (arith, less _ _ _ _ _ r.1 c.requires.above, r.1, rw (none, zero-mul t) at w))

pub overflow_sub-once : goal.overflow_sub-once
overflow_sub-once c = omega (arith, less _ _ _ _ _ c.recurring_sum-r.ensures.1 c.requires.above)

pub returns-then-limit-once-clause-bound : goal.returns-then-limit-once-clause-bound
returns-then-limit-once-clause-bound c t h w =
    let r = c.recurring_sum-r.ensures in
    past_limit _ _ _ _ t (omega (arith, c.if-limit-once.true, cut_most _ _ _ r.2, less _ _ _ _ _ r.1 c.requires.above, r.1)) w

pub returns-clause-bound : goal.returns-clause-bound
returns-clause-bound c t h w =
    let r = c.recurring_sum-r.ensures in
    no_later _ _ _ t c.max.ensures
    (rw c.div_ceil-by_utilisation.ensures
    (ceil_least _ _ t (omega (arith, c.if-spare-eq0.false))
    (rw (c.saturating_sub-spare.ensures, r.0, r.1) (le_trans (omega (arith, cut_most _ _ _ r.2)) w))))
    h

pub returns-clause-fits : goal.returns-clause-fits
returns-clause-fits c h =
    let r = c.recurring_sum-r.ensures in
    fits_from _ _ _ _ _ _ _ _ _ c.saturating_sub-spare.ensures r.0 r.1
    (whole _ _ _ r.2 (omega (arith, less _ _ _ _ _ r.1 c.requires.above, c.if-limit-once.false)))
    (omega (arith, c.if-spare-eq0.false)) (omega (arith, c.div_ceil-by_utilisation.ensures, c.max.ensures))
