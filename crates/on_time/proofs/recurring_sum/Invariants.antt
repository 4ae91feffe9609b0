use Rattle.std.proofs.Common.{◌≡◌, ◌*◌, ◌≤◌, min}
use Rattle.task_model.specs.Limits.{most_ticks}
use Rattle.node_words.specs.Words.{entry_of}
use Rattle.completion.specs.Demand.{sum_to}
use Rattle.on_time.specs.Utilisation.{full_utilisation, recurring_utilisation, recurring_wcet, recurring_jitter}
use Rattle.on_time.proofs.recurring_sum.Given as goal

abbrev pub invariant-loop-position : goal.invariant-loop-position
invariant-loop-position l = record {
  little : l.sum.utilisation ≤ full_utilisation * l.position;
  short : l.sum.runs ≤ most_ticks * l.position;
  utilisation : l.sum.utilisation ≡ sum_to (λ k. recurring_utilisation l.limit (entry_of l.node.words.now k)) l.position;
  runs : l.sum.runs ≡ sum_to (λ k. recurring_wcet l.limit (entry_of l.node.words.now k)) l.position;
  jitter : l.sum.jitter ≡ min (sum_to (λ k. recurring_jitter l.limit (entry_of l.node.words.now k)) l.position) (full_utilisation * l.limit);
}
