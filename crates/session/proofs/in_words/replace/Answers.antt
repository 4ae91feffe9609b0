use mathlib.Core.Path.{refl}
use borrow.Author.Rules.{rules}
use Rattle.std.proofs.lemmas.Result.{err_from_is_err_and}
use Rattle.session.specs.Operations.{replacing, changed}
use Rattle.session.proofs.InWords.{asked, in_refused, splice_ready, splice_follows}
use Rattle.session.proofs.in_words.replace.Goals as goal

pub returns-in_err-check_replace : goal.returns-in_err-check_replace
returns-in_err-check_replace c =
    let p = err_from_is_err_and c.from_residual.result c.from_residual.ensures.1 in
    rw (p.1, p.2) (in_refused _ _ _ (asked (replacing c.args.position c.args.e) c.lent.ensures c.in_err-check_replace.ensures))

pub splice-requires : goal.splice-requires
unfolding changed
splice-requires c = splice_ready c.args.words.now (replacing c.args.position c.args.e) (asked _ c.lent.ensures c.in_ok-check_replace.ensures) (search rules) refl

pub returns : goal.returns
unfolding changed
returns c = splice_follows c.args.words.now (replacing c.args.position c.args.e) (asked _ c.lent.ensures c.in_ok-check_replace.ensures) (search rules) refl refl c.splice.ensures
