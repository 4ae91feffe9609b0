use Rattle.std.proofs.Common.{arith, rules}
use Rattle.node_words.specs.Words.{entry_of}
use Rattle.completion.proofs.Sums.{sum_to-none}
use Rattle.completion.proofs.entry_sums.wcet_sum.Goals as goal

pub returns-clause-value : goal.returns-clause-value
returns-clause-value c =
    let whole = c.sum_over.ensures.value (λ e. e.wcet) (λ held x p. search rules) in
    omega (arith, whole, sum_to-none (λ j. (entry_of c.args.node.now.words.now j).wcet))
