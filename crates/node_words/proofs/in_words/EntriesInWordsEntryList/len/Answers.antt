use mathlib.Core.Path.{sym}
use Rattle.node_words.proofs.Entries.{length-entries}
use Rattle.node_words.proofs.in_words.EntriesInWordsEntryList.len.Goals as goal

pub returns : goal.returns
returns c = let l = c.args.self.now in sym (length-entries l.words.now l.first l.count)
