use Prim.Native.Nat.{ℕ, ◌*◌, ◌+◌, ◌≤◌}
use mathlib.Core.Path.{◌∙◌, sym}
use native.Mathlib.Nat.{mul-le-mul}
use native.Mathlib.Omega.{arith}
use Rattle.task_model.specs.Limits.{most_ticks}
use Rattle.completion.proofs.Releases.{same_level_limit, same_level_all}
use Rattle.completion.proofs.same_level_interference.Goals as goal

product : (x y : ℕ) → x ≤ most_ticks → y ≤ 256 → x * y ≤ most_ticks * 256
product x y p q = mul-le-mul p q

pub overflow_mul-e : goal.overflow_mul-e
overflow_mul-e c = omega (arith, product c.args.held.entry.period c.args.calls (omega arith) (omega arith))

pub overflow_mul-result : goal.overflow_mul-result
overflow_mul-result c = let a = c.args in
    omega (arith, product a.held.entry.wcet (a.calls + 1) (omega arith) (omega arith))

pub returns-then-e-calls : goal.returns-then-e-calls
returns-then-e-calls c = sym (same_level_limit _ c.args.held.holds _ _ c.if-e-calls.true)

pub returns : goal.returns
returns c = c.higher_level_interference.ensures ∙ sym (same_level_all _ c.args.held.holds _ _ c.if-e-calls.false)
