use native.Mathlib.Omega.{arith}
use mathlib.Core.Path.{refl}
use Rattle.std.proofs.lemmas.Result.{err_from_is_err_and}
use Rattle.session.specs.Operations.{opening, lent_check_by, operation_check_by, step_check_by}
use Rattle.session.proofs.InWords.{in_refused, in_accepted, opened_words}
use Rattle.session.proofs.in_words.open.Goals as goal

pub returns-in_err-check_levels : goal.returns-in_err-check_levels
unfolding lent_check_by operation_check_by step_check_by
returns-in_err-check_levels c =
    let p = err_from_is_err_and c.from_residual.result c.from_residual.ensures.1 in
    rw (p.1, p.2) (in_refused (opening _) _ _ c.in_err-check_levels.ensures)

pub returns : goal.returns
unfolding lent_check_by operation_check_by step_check_by
returns c =
    let a = c.args in
    in_accepted (opening a.levels) a.words.now c.in_ok-check_levels.ensures _ refl
    (opened_words a.words.now a.levels (omega arith) _ c.clear_from.ensures)
