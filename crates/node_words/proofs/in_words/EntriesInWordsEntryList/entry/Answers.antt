use native.Mathlib.Omega.{arith}
use mathlib.Core.Path.{◌∙◌, sym}
use Rattle.node_words.proofs.Entries.{length-entries, entry_in_lem}
use Rattle.node_words.proofs.in_words.EntriesInWordsEntryList.entry.Goals as goal

pub overflow_add-self : goal.overflow_add-self
overflow_add-self c = let l = c.args.self.now in omega (arith, c.requires, l.inside, length-entries l.words.now l.first l.count)

pub overflow_mul-self : goal.overflow_mul-self
overflow_mul-self c = let l = c.args.self.now in omega (arith, c.requires, l.inside, length-entries l.words.now l.first l.count)

pub entry_of-requires : goal.entry_of-requires
entry_of-requires c = let l = c.args.self.now in omega (arith, c.requires, l.inside, length-entries l.words.now l.first l.count)

pub returns : goal.returns
returns c =
    let l = c.args.self.now in
    c.entry_of.ensures
    ∙ sym (entry_in_lem l.words.now l.first l.count _ (omega (arith, c.requires, length-entries l.words.now l.first l.count)))
