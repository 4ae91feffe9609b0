use Rattle.node_words.proofs.Entries.{all_at}
use Rattle.node_words.proofs.held.HeldEntries.entry.Goals as goal

pub invariant_of-result : goal.invariant_of-result
invariant_of-result c = let a = c.args.self.now in rw c.entry_at.ensures (record { holds = all_at a.words.now a.count a.held _ c.requires })
