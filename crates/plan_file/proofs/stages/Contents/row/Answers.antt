use mathlib.Core.Path.{◌∙◌, ap}
use Rattle.plan_file.specs.Plan.{row_of}
use Rattle.plan_file.proofs.stages.Contents.row.Goals as goal

pub returns : goal.returns
returns c = c.from.ensures ∙ ap row_of (rw c.row_start.ensures at c.word_at.ensures)
