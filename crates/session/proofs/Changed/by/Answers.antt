use borrow.Author.Rules.{rules}
use Rattle.session.proofs.InWords.{session_back}
use Rattle.session.proofs.Changed.by.Goals as goal

pub returns-clause-same : goal.returns-clause-same
returns-clause-same g c = session_back c.args.s (search rules)
