use mathlib.Core.Path.{◌∙◌, refl, sym, ap}
use native.Mathlib.Omega.{arith}
use Rattle.std.proofs.lemmas.Result.{err_from_is_err_and}
use Rattle.task_model.proofs.Loops.{each_here, each_end}
use Rattle.task_model.proofs.entries.check_entries.Goals as goal

pub loop-position-init : goal.loop-position-init
loop-position-init g c = refl

pub returns-in_err-check : goal.returns-in_err-check
returns-in_err-check g c =
    let p = err_from_is_err_and c.from_residual.result c.from_residual.ensures.1 in
    let said = ap (g.C.EntryCheck.says _ _) (sym c.entry.ensures) ∙ sym c.in_err-check.ensures in
    rw (p.1, p.2)
    (sym (each_here _ _ _ (omega (arith, c.loop-position-test.true, c.len-position-end.ensures)) _ said) ∙ c.loop-position.invariant)

pub loop-position-preserved : goal.loop-position-preserved
loop-position-preserved g c =
    let said = ap (g.C.EntryCheck.says _ _) (sym c.entry.ensures) ∙ sym c.in_ok-check.ensures in
    sym (each_here _ _ _ (omega (arith, c.loop-position-test.true, c.len-position-end.ensures)) _ said) ∙ c.loop-position.invariant

pub returns : goal.returns
returns g c =
    sym (each_end _ _ _ (omega (arith, c.loop-position-test.false, c.len-position-end.ensures))) ∙ c.loop-position.invariant
