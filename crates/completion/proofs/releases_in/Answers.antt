use mathlib.Core.Path.{refl, sym}
use native.Mathlib.Omega.{arith}
use Rattle.completion.specs.Demand.{ceil_div, releases}
use Rattle.completion.proofs.Releases.{releases_one}
use Rattle.completion.proofs.releases_in.Goals as goal

pub returns-then-span-e : goal.returns-then-span-e
returns-then-span-e c = sym (releases_one _ (omega arith) _ (omega arith) c.if-span-e.true)

pub returns : goal.returns
unfolding ceil_div releases
returns c = refl
