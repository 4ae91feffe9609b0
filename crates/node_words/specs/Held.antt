-- The entries of a node that are all within the limits.
use Rattle.std.specs.Prelude.{List}
use Rattle.task_model.specs.declared.Entry.{Entry}
use Rattle.node_words.specs.Words.{entries_of}
use Rattle.node_words.specs.declared.held.HeldEntries.{HeldEntries}

-- They, in listed order.
abbrev pub held_entries : HeldEntries → List Entry
held_entries h = entries_of h.words.now h.count
