use mathlib.Core.Path.{ap}
use native.Mathlib.Omega.{arith}
use borrow.Author.Rules.{rules}
use Rattle.text.proofs.Numbers.{decimal_8, decimal_64}
use Rattle.text.proofs.Writing.{wrote_then}
use Rattle.listing.specs.Lines.{refused_line}
use Rattle.listing.proofs.Lines.{upto_by, upto_same}
use Rattle.listing.proofs.put_refused_line.Goals as goal

pub returns : goal.returns
unfolding refused_line
returns c =
    let n = c.from-number.result in
    let d1 = decimal_8 n.number (search rules) in
    let d2 = decimal_64 n.row (search rules) in
    let d3 = decimal_64 n.entry (search rules) in
    let w = wrote_then (wrote_then (wrote_then c.put_field.ensures (omega arith) c.put_field-2.ensures) (omega arith) c.put_field-3.ensures) (omega arith)
    c.put_bytes.ensures in
    let u = upto_same (ap refused_line c.from-number.ensures) (upto_by {most = 64} w (omega arith)) in
    record {
      buffer = grind (arith, u.wrote.same, u.wrote.buffer);
      size = omega (arith, u.wrote.after);
      short = u.short;
    }
