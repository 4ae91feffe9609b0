use Rattle.completion.proofs.TimedLaws.{timed_parts}
use Rattle.completion.proofs.timed.TimedEntry.demand_at.Goals as goal

pub returns : goal.returns
returns c = timed_parts c.args.self.now _ _ _ _ _ _ c.entry.ensures c.higher_level_sum.ensures.value c.same_level_sum.ensures.value
    c.same_level_sum-2.ensures.value
