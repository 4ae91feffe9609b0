use mathlib.Core.Path.{◌∙◌}
use Rattle.plan_file.proofs.Numbering.{jitter_second}
use Rattle.plan_file.proofs.layout.SecondLayout.jitter.Goals as goal

pub returns : goal.returns
returns c = c.word_at.ensures ∙ jitter_second _ _
