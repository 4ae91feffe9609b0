use mathlib.Core.Path.{refl}
use Rattle.task_model.specs.Checks.{jitter_test}
use Rattle.task_model.proofs.jitter_holds.Goals as goal

pub returns : goal.returns
unfolding jitter_test
returns c = refl
