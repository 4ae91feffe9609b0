use mathlib.Core.Path.{refl}
use Rattle.std.proofs.lemmas.Result.{err_from_is_err_and}
use Rattle.session.specs.Operations.{removing, changed}
use Rattle.session.proofs.InWords.{asked, in_refused, splice_ready, splice_follows}
use Rattle.session.proofs.in_words.remove.Goals as goal

pub returns-in_err-check_remove : goal.returns-in_err-check_remove
returns-in_err-check_remove c =
    let p = err_from_is_err_and c.from_residual.result c.from_residual.ensures.1 in
    rw (p.1, p.2) (in_refused _ _ _ (asked (removing c.args.position) c.lent.ensures c.in_err-check_remove.ensures))

pub splice-requires : goal.splice-requires
unfolding changed
splice-requires c = splice_ready c.args.words.now (removing c.args.position) (asked _ c.lent.ensures c.in_ok-check_remove.ensures) tt refl

pub returns : goal.returns
unfolding changed
returns c = splice_follows c.args.words.now (removing c.args.position) (asked _ c.lent.ensures c.in_ok-check_remove.ensures) tt refl refl c.splice.ensures
