use borrow.Author.Rules.{rules}
use Rattle.node_words.specs.Words.{entry_from}
use Rattle.node_words.proofs.entry_with.Goals as goal

pub returns : goal.returns
unfolding entry_from
returns c = search rules
