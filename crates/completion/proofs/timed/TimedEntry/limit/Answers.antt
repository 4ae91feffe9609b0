use Rattle.std.proofs.Common.{◌≡◌, ◌∙◌, ap, arith}
use Rattle.completion.specs.Test.{limit}
use Rattle.completion.specs.Timed.{timed_limit}
use Rattle.completion.proofs.TimedLaws.{limit_some, limit_few}
use Rattle.completion.proofs.timed.TimedEntry.limit.Goals as goal

pub returns : goal.returns
returns c =
    let x = c.args.self.now in
    let value : c.limit_of.result ≡ timed_limit x = c.limit_of.ensures ∙ ap limit c.entry.ensures in
    record { value = value; some = omega (arith, value, limit_some x); few = omega (arith, value, limit_few x) }
