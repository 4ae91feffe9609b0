use Rattle.std.proofs.Common.{◌∙◌, sym}
use Rattle.completion.proofs.TimedLaws.{timed_own}
use Rattle.completion.proofs.timed.TimedEntry.entry.Goals as goal

pub returns : goal.returns
returns c = c.entry.ensures ∙ sym (timed_own c.args.self.now)
