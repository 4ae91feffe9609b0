use borrow.Author.Tests.{eqb-true, eq-eqb}
use Rattle.plan_file.specs.declared.Edition.TheVariants.{First}
use Rattle.converter.proofs.Lost.{kept_exactly}
use Rattle.converter.proofs.losses.NothingLostEntryCheck.holds.Goals as goal

pub returns : goal.returns
returns c = (
  λ p row position. (kept_exactly First row position c.args.e).1 (eqb-true _ _ p),
  λ a. eq-eqb _ _ ((kept_exactly First 0 0 c.args.e).0 (a 0 0)),
)
