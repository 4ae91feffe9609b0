use Rattle.std.proofs.Common.{◌+◌, ◌∙◌, sym, ap}
use Rattle.completion.proofs.TimedLaws.{timed_initial}
use Rattle.completion.proofs.timed.TimedEntry.initial_time.Goals as goal

pub returns : goal.returns
returns c = ap (λ s. c.args.blocking + s) c.wcet_sum.ensures.value ∙ sym (timed_initial c.args.self.now c.args.blocking)
