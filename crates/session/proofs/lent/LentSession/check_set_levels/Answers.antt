use mathlib.Core.Path.{◌∙◌, sym}
use Rattle.std.proofs.lemmas.Result.{err_from_is_err_and}
use Rattle.session.specs.Operations.{lent_check_by, operation_check_by, change_check_by}
use Rattle.session.proofs.Checking.{lent_stops, lent_goes_on}
use Rattle.session.proofs.lent.LentSession.check_set_levels.Goals as goal

pub returns-in_err-check : goal.returns-in_err-check
unfolding lent_check_by
returns-in_err-check c =
    let p = err_from_is_err_and c.from_residual.result c.from_residual.ensures.1 in
    rw (p.1, p.2) (sym (lent_stops _ _ _ (sym c.in_err-check.ensures)))

pub returns : goal.returns
unfolding change_check_by lent_check_by operation_check_by
returns c = c.check_levels.ensures ∙ sym (lent_goes_on _ _ (sym c.in_ok-check.ensures))
