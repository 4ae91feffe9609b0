use mathlib.Core.Path.{◌∙◌, ap}
use native.Mathlib.Omega.{arith}
use Rattle.task_model.specs.Checks.{has_number}
use Rattle.node_words.proofs.Entries.{length-entries}
use Rattle.node_words.proofs.Words.{entries_take}
use Rattle.node_words.proofs.numbers.has_number.Goals as goal

pub has_number-requires : goal.has_number-requires
has_number-requires c = let a = c.args in omega (arith, length-entries a.words.now a.first a.count)

pub returns : goal.returns
returns c = c.has_number.ensures ∙ ap (has_number _) (entries_take _ _ _ _ (omega arith))
