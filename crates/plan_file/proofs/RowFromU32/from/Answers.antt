use borrow.Author.Rules.{rules}
use Rattle.plan_file.specs.Plan.{row_of}
use Rattle.plan_file.proofs.RowFromU32.from.Goals as goal

pub returns : goal.returns
unfolding row_of
returns c = search rules
