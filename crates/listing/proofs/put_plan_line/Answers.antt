use native.Mathlib.Omega.{arith}
use Rattle.text.proofs.Numbers.{decimal_8}
use Rattle.text.proofs.Writing.{wrote_then}
use Rattle.listing.specs.Lines.{plan_line}
use Rattle.listing.proofs.Lines.{upto_by}
use Rattle.listing.proofs.put_plan_line.Goals as goal

pub returns : goal.returns
unfolding plan_line
returns c =
    let d1 = decimal_8 c.args.nodes c.ranges.nodes.fits in
    upto_by (wrote_then c.put_field.ensures (omega arith) c.put_bytes.ensures) (omega arith)
