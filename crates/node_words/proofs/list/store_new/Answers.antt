use mathlib.Core.List.{append-nil}
use Rattle.node_words.specs.Words.{entry_words, words_of}
use Rattle.node_words.proofs.list.store_new.Goals as goal

pub returns-in-Some : goal.returns-in-Some
unfolding words_of
returns-in-Some c = rw (c.in-Some.is, append-nil (entry_words c.in-Some.e)) c.store_entry.ensures

pub returns-in_default : goal.returns-in_default
unfolding words_of
returns-in_default c = rw c.in_default.is
