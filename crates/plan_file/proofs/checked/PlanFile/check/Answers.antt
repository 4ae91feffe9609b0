use mathlib.Core.Path.{sym}
use Rattle.std.proofs.lemmas.Result.{err_from_is_err_and}
use Rattle.plan_file.proofs.checked.PlanFile.check.Goals as goal

pub returns-in_err-check_file : goal.returns-in_err-check_file
returns-in_err-check_file c =
    let p = err_from_is_err_and c.from_residual.result c.from_residual.ensures.1 in
    rw (p.1, p.2, ← c.in_err-check_file.ensures.answer)

pub invariant_of-result : goal.invariant_of-result
invariant_of-result c = record { accepted = sym c.in_ok-check_file.ensures.answer }

pub returns : goal.returns
returns c = rw (← c.in_ok-check_file.ensures.answer)
