use borrow.Author.Rules.{rules}
use Rattle.session.proofs.InWords.{Sized, both_copied}
use Rattle.session.proofs.SessionWordsFromSession.from.Goals as goal

pub returns : goal.returns
returns c =
    let sized : Sized c.args.s = record { node = search rules; store = search rules } in
    both_copied c.args.s sized _ _ c.copy_from_slice.ensures.after c.copy_from_slice-2.ensures.after
