use mathlib.Core.Path.{refl}
use borrow.Author.Rules.{rules}
use Rattle.std.proofs.lemmas.Result.{err_from_is_err_and}
use Rattle.session.specs.Operations.{inserting, changed}
use Rattle.session.proofs.InWords.{asked, in_refused, splice_ready, splice_follows}
use Rattle.session.proofs.in_words.insert.Goals as goal

pub returns-in_err-check_insert : goal.returns-in_err-check_insert
returns-in_err-check_insert c =
    let p = err_from_is_err_and c.from_residual.result c.from_residual.ensures.1 in
    rw (p.1, p.2) (in_refused _ _ _ (asked (inserting c.args.position c.args.e) c.lent.ensures c.in_err-check_insert.ensures))

pub splice-requires : goal.splice-requires
unfolding changed
splice-requires c = splice_ready c.args.words.now (inserting c.args.position c.args.e) (asked _ c.lent.ensures c.in_ok-check_insert.ensures) (search rules) refl

pub returns : goal.returns
unfolding changed
returns c = splice_follows c.args.words.now (inserting c.args.position c.args.e) (asked _ c.lent.ensures c.in_ok-check_insert.ensures) (search rules) refl refl c.splice.ensures
