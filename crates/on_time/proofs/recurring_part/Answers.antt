use Prim.Native.Nat.{ℕ, ◌*◌, ◌≤◌}
use mathlib.Core.Path.{sym}
use native.Mathlib.Nat.{mul-le-mul}
use native.Mathlib.Omega.{arith}
use Rattle.task_model.specs.Limits.{most_ticks}
use Rattle.on_time.specs.Utilisation.{full_utilisation, utilisation}
use Rattle.on_time.proofs.Utilisation.{recurs, recurs_not, utilisation_most}
use Rattle.on_time.proofs.recurring_part.Goals as goal

-- a utilisation is at most 1, and J at most 10^9
product : (u j : ℕ) → u ≤ full_utilisation → j ≤ most_ticks → u * j ≤ full_utilisation * most_ticks
product u j p q = mul-le-mul p q

pub returns-then-limit-e-clause-parts : goal.returns-then-limit-e-clause-parts
returns-then-limit-e-clause-parts c = let r = recurs_not c.args.limit c.args.held.entry c.if-limit-e.true in
    let d = c.default.ensures in
    grind (arith, r.0, r.1, r.2)

pub overflow_mul-result : goal.overflow_mul-result
unfolding utilisation
overflow_mul-result c = let e = c.args.held.entry in
    let h = c.args.held.holds in
    omega (arith, product (utilisation e) e.jitter (utilisation_most e h) (omega (arith, h.times, h.jitter)))

pub returns-clause-small : goal.returns-clause-small
unfolding utilisation
returns-clause-small c =
    let h = c.args.held.holds in
    (omega (arith, utilisation_most c.args.held.entry h), omega (arith, h.times))

pub returns-clause-parts : goal.returns-clause-parts
unfolding utilisation
returns-clause-parts c = let r = recurs c.args.limit c.args.held.entry (omega arith) in
    (sym r.0, sym r.1, sym r.2)
