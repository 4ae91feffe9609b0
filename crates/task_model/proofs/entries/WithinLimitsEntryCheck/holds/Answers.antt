use mathlib.Core.Path.{◌∙◌, sym}
use Rattle.task_model.proofs.Theorems.{entry_tested, entry_accepted}
use Rattle.task_model.proofs.entries.WithinLimitsEntryCheck.holds.Goals as goal

pub returns : goal.returns
returns c = (
  λ p row position. (entry_accepted row position _).1 ((entry_tested _).0 (sym c.entry_holds.ensures ∙ p)),
  λ a. c.entry_holds.ensures ∙ (entry_tested _).1 ((entry_accepted 0 0 _).0 (a 0 0)),
)
