use Rattle.std.proofs.Common.{◌≡◌, arith, rules}
use Rattle.completion.specs.Demand.{same_level_interference}
use Rattle.completion.proofs.Releases.{higher_level_most, same_level_most}
use Rattle.completion.proofs.entry_sums.same_level_sum.Goals as goal

pub sum_over-requires-clause-small : goal.sum_over-requires-clause-small
sum_over-requires-clause-small c =
    λ held x p.
    let part : x ≡ same_level_interference held.entry c.args.calls c.args.t = search rules in
    omega (arith, part, same_level_most held.entry held.holds c.args.calls c.args.t, higher_level_most held.entry held.holds c.args.t (omega arith))

pub returns-clause-value : goal.returns-clause-value
returns-clause-value c = c.sum_over.ensures.value (λ e. same_level_interference e c.args.calls c.args.t) (λ held x p. search rules)
