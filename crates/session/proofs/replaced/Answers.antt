use borrow.Author.Rules.{rules}
use Rattle.session.proofs.InWords.{by_value}
use Rattle.session.proofs.replaced.Goals as goal

pub returns : goal.returns
returns c =
    let e = c.by.ensures in
    by_value _ _ e.same e.left.1.shows (search rules) e.left.1.leaves e.left.2
