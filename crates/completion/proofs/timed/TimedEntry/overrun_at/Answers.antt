use Rattle.std.proofs.Common.{◌-◌, ap}
use Rattle.completion.specs.Test.{overrun}
use Rattle.completion.proofs.timed.TimedEntry.overrun_at.Goals as goal

pub returns : goal.returns
unfolding overrun
returns c = ap (λ x. x - c.args.limit) c.demand_at.ensures
