use native.Mathlib.Omega.{arith}
use Rattle.text.proofs.Numbers.{decimal_16}
use Rattle.text.proofs.Writing.{wrote_then}
use Rattle.listing.specs.Lines.{no_map_line}
use Rattle.listing.proofs.Lines.{upto_by}
use Rattle.listing.proofs.put_no_map_line.Goals as goal

pub returns : goal.returns
unfolding no_map_line
returns c =
    let d1 = decimal_16 c.args.number c.ranges.number.fits in
    upto_by (wrote_then c.put_field.ensures (omega arith) c.put_bytes.ensures) (omega arith)
