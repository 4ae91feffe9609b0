use native.Mathlib.Omega.{arith}
use Rattle.text.proofs.Numbers.{decimal_16, decimal_8}
use Rattle.text.proofs.Writing.{wrote_then}
use Rattle.listing.specs.Lines.{node_line}
use Rattle.listing.proofs.Lines.{upto_by}
use Rattle.listing.proofs.put_node_line.Goals as goal

pub returns : goal.returns
unfolding node_line
returns c =
    let d1 = decimal_16 c.args.number c.ranges.number.fits in
    let d2 = decimal_8 c.args.used c.ranges.used.fits in
    let d3 = decimal_8 c.args.levels c.ranges.levels.fits in
    upto_by (wrote_then (wrote_then (wrote_then c.put_field.ensures (omega arith) c.put_field-2.ensures) (omega arith) c.put_field-3.ensures) (omega arith) c.put_bytes.ensures) (omega arith)
