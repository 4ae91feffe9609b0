use native.Mathlib.Omega.{arith}
use Rattle.listing.proofs.Lines.{upto_same, upto_append}
use Rattle.listing.proofs.Texts.{listing_lines}
use Rattle.listing.proofs.put_plan.Goals as goal

pub returns : goal.returns
returns c =
    let u =
    upto_same (listing_lines _ _ c.args.plan.now.accepted c.nodes-nodes.ensures.value)
    (upto_append c.put_plan_line.ensures (omega arith) c.put_nodes.ensures) in
    record {
      buffer = grind (arith, u.wrote.same, u.wrote.buffer);
      size = omega (arith, u.wrote.after);
      short = omega (arith, u.short);
    }
