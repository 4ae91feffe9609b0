use native.Mathlib.Omega.{arith}
use Rattle.plan_file.proofs.Numbering.{number_bytes}
use Rattle.plan_file.proofs.layout.number_at.Goals as goal

pub returns : goal.returns
returns g c = omega (arith, c.from_le_bytes.ensures, number_bytes g.E.Layout.edition c.args.file.now (λ i. (c.type_inv.file i).fits) c.args.k)
