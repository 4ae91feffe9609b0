use Rattle.std.proofs.Common.{◌≡◌, ℕ, ◌≤◌, ◌^◌, ◌+◌, ◌*◌}
use Rattle.task_model.specs.declared.Entry.{Entry}
use Rattle.node_words.specs.declared.held.HeldEntry.{HeldEntry}
use Rattle.node_words.specs.Words.{entry_of}
use Rattle.completion.specs.Demand.{sum_to}
use Rattle.completion.proofs.entry_sums.sum_over.Given as goal

-- the parts so far are below 2^32 each, and their sum is that of any function that says what the parts are
abbrev pub invariant-loop-position : goal.invariant-loop-position
invariant-loop-position g l = record {
  fits : l.sum + l.position ≤ 2 ^ 32 * l.position;
  summed : (f : Entry → ℕ) → ((held : HeldEntry) (x : ℕ) → goal.F-post g l.part held x → x ≡ f held.entry)
      → l.sum + sum_to (λ j. f (entry_of l.node.words.now j)) l.begin ≡ sum_to (λ j. f (entry_of l.node.words.now j)) l.position;
}
