use native.Mathlib.Omega.{arith}
use Rattle.std.proofs.lemmas.Slice.Eq.{starts_is}
use Rattle.std.proofs.lemmas.Bool.Decides.{Decides-eqb}
use Rattle.plan_file.proofs.Tests.{starts_tested}
use Rattle.plan_file.proofs.stages.Header.opens.Goals as goal

pub returns : goal.returns
returns c =
    let f = c.args.self.now.file.now in
    starts_tested c.args.edition f _ _ (omega arith) (rw c.opening.ensures at (starts_is Decides-eqb f c.opening.result _ c.starts_with.ensures.value))
