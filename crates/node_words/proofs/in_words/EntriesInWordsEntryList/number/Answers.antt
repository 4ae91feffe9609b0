use native.Mathlib.Omega.{arith}
use Rattle.node_words.specs.Words.{entry_from}
use Rattle.node_words.proofs.Entries.{length-entries, number_in}
use Rattle.node_words.proofs.in_words.EntriesInWordsEntryList.number.Goals as goal

pub overflow_add-result : goal.overflow_add-result
overflow_add-result c = let l = c.args.self.now in omega (arith, c.requires, l.inside, length-entries l.words.now l.first l.count)

pub overflow_mul-result : goal.overflow_mul-result
overflow_mul-result c = let l = c.args.self.now in omega (arith, c.requires, l.inside, length-entries l.words.now l.first l.count)

pub offset_bounds-self-self : goal.offset_bounds-self-self
offset_bounds-self-self c = let l = c.args.self.now in omega (arith, c.requires, l.inside, length-entries l.words.now l.first l.count)

pub bounds-self-self : goal.bounds-self-self
bounds-self-self c = let l = c.args.self.now in omega (arith, c.requires, l.inside, length-entries l.words.now l.first l.count)

pub returns : goal.returns
unfolding entry_from
returns c =
    let l = c.args.self.now in
    number_in l.words.now l.first l.count _ (omega (arith, c.requires, length-entries l.words.now l.first l.count))
