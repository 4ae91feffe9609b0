use mathlib.Core.Path.{◌∙◌, sym}
use native.Mathlib.Omega.{arith}
use Rattle.std.proofs.lemmas.Result.{err_from_is_err_and}
use Rattle.refusals.proofs.Outcomes.{then_refused, then_accepted}
use Rattle.session.specs.Operations.{removing}
use Rattle.session.proofs.Checking.{replace_step, change_ready, new_checked}
use Rattle.session.proofs.lent.LentSession.check_replace.Goals as goal

pub returns-in_err-check_remove : goal.returns-in_err-check_remove
returns-in_err-check_remove c =
    let p = err_from_is_err_and c.from_residual.result c.from_residual.ensures.1 in
    rw (p.1, p.2) (sym (replace_step _ _ _ ∙ then_refused _ _ _ (sym c.in_err-check_remove.ensures)))

pub other_has_number-taken-requires : goal.other_has_number-taken-requires
other_has_number-taken-requires c =
    let l = c.args.self.now in
    let ready = change_ready l.words.now l.count l.levels (removing c.args.position) (sym c.in_ok-check_remove.ensures) in
    (omega (arith, ready.within), ready.few)

pub returns : goal.returns
returns c =
    new_checked _ _ _ _ c.other_has_number-taken.ensures c.check_new.ensures
    ∙ sym (replace_step _ _ _ ∙ then_accepted _ _ (sym c.in_ok-check_remove.ensures))
