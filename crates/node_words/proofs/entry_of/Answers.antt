use Rattle.node_words.specs.Words.{entry_from}
use Rattle.node_words.proofs.entry_of.Goals as goal

pub returns : goal.returns
unfolding entry_from
returns c = c.entry_with.ensures
