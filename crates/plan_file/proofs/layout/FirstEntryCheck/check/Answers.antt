use mathlib.Core.Path.{sym}
use native.Mathlib.Omega.{arith}
use Rattle.std.proofs.lemmas.Result.{err_from_is_err_and}
use Rattle.plan_file.proofs.WriterChecks.{first_refuses, first_jitter, first_accepts}
use Rattle.plan_file.proofs.layout.FirstEntryCheck.check.Goals as goal

pub returns-in_err-check_entry : goal.returns-in_err-check_entry
returns-in_err-check_entry c =
    let p = err_from_is_err_and c.from_residual.result c.from_residual.ensures.1 in
    rw (p.1, p.2) (sym (first_refuses _ _ _ _ (sym c.in_err-check_entry.ensures)))

pub returns-then-e-gt0 : goal.returns-then-e-gt0
returns-then-e-gt0 c = sym (first_jitter _ _ _ (sym c.in_ok-check_entry.ensures) (omega (arith, c.if-e-gt0.true)))

pub returns : goal.returns
returns c = sym (first_accepts _ _ _ (sym c.in_ok-check_entry.ensures) (omega (arith, c.if-e-gt0.false)))
