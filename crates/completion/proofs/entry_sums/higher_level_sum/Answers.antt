use Rattle.std.proofs.Common.{◌≡◌, arith, rules}
use Rattle.node_words.specs.Words.{entry_of}
use Rattle.completion.specs.Demand.{higher_level_interference}
use Rattle.completion.proofs.Releases.{higher_level_most}
use Rattle.completion.proofs.Sums.{sum_to-none}
use Rattle.completion.proofs.entry_sums.higher_level_sum.Goals as goal

pub sum_over-requires-clause-small : goal.sum_over-requires-clause-small
sum_over-requires-clause-small c =
    λ held x p.
    let part : x ≡ higher_level_interference held.entry c.args.t = search rules in
    omega (arith, part, higher_level_most held.entry held.holds c.args.t (omega arith))

pub returns-clause-value : goal.returns-clause-value
returns-clause-value c =
    let whole = c.sum_over.ensures.value (λ e. higher_level_interference e c.args.t) (λ held x p. search rules) in
    omega (arith, whole, sum_to-none (λ j. higher_level_interference (entry_of c.args.node.now.words.now j) c.args.t))
