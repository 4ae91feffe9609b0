use Rattle.plan_file.proofs.Numbering.{jitter_first}
use Rattle.plan_file.proofs.layout.FirstLayout.jitter.Goals as goal

pub returns : goal.returns
returns c = jitter_first _ _
