use mathlib.Core.Path.{sym}
use native.Mathlib.Omega.{arith}
use Rattle.plan_file.specs.declared.Edition.TheVariants.{First}
use Rattle.converter.proofs.Lost.{kept_exactly, lost}
use Rattle.converter.proofs.losses.NothingLostEntryCheck.check.Goals as goal

pub returns-then-e-gt0 : goal.returns-then-e-gt0
returns-then-e-gt0 c = sym (lost _ _ _ (omega (arith, c.if-e-gt0.true)))

pub returns : goal.returns
returns c = sym ((kept_exactly First _ _ c.args.e).1 (omega (arith, c.if-e-gt0.false)))
