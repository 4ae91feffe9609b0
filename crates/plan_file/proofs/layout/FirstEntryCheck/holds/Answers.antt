use mathlib.Core.Path.{◌∙◌, sym}
use borrow.Author.Tests.{eqb-true, eq-eqb}
use Rattle.task_model.proofs.Theorems.{entry_tested}
use Rattle.task_model.proofs.Loops.{says_no, said_no}
use Rattle.plan_file.specs.declared.Edition.TheVariants.{First}
use Rattle.plan_file.proofs.WriterChecks.{written_accepted}
use Rattle.plan_file.proofs.layout.FirstEntryCheck.holds.Goals as goal

pub returns-then-entry_holds : goal.returns-then-entry_holds
returns-then-entry_holds c = (
  λ p row position. (written_accepted First row position c.args.e).1 ((entry_tested _).0 (sym c.entry_holds.ensures ∙ c.if-entry_holds.true), eqb-true _ _ p),
  λ a. eq-eqb _ _ ((written_accepted First 0 0 c.args.e).0 (a 0 0)).1,
)

pub returns-else-entry_holds : goal.returns-else-entry_holds
returns-else-entry_holds c =
    let no = sym c.entry_holds.ensures ∙ c.if-entry_holds.false in
    rw c.if-entry_holds.false (says_no (λ a. said_no (entry_tested c.args.e) no ((written_accepted First 0 0 c.args.e).0 (a 0 0)).0))
