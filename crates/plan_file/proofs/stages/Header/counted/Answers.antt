use mathlib.Core.Path.{◌≡◌, ◌∙◌}
use native.Mathlib.Omega.{arith}
use borrow.Author.Rules.{rules}
use Rattle.plan_file.specs.Check.{count_test, zeros_test}
use Rattle.plan_file.proofs.Tests.{zeros_tested}
use Rattle.plan_file.proofs.stages.Header.counted.Goals as goal

pub returns-then-self-le-MOST_NODES : goal.returns-then-self-le-MOST_NODES
unfolding count_test
returns-then-self-le-MOST_NODES c =
    let f = c.args.self.now.file.now in
    let zeros : c.eq.result ≡ zeros_test f = c.eq.ensures ∙ zeros_tested f (omega arith) in
    search rules

pub returns-else-self-le-MOST_NODES : goal.returns-else-self-le-MOST_NODES
unfolding count_test
returns-else-self-le-MOST_NODES c = search rules
