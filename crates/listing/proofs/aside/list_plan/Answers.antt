use mathlib.Core.Path.{ap, sym}
use native.Mathlib.Omega.{arith}
use lib.ListN.{length}
use Rattle.refusals.proofs.Outcomes.{giving_refuses, giving_gives}
use Rattle.listing.proofs.Texts.{listing_refused, text_same}
use Rattle.listing.proofs.aside.list_plan.Goals as goal

pub returns-in-Ok : goal.returns-in-Ok
returns-in-Ok c =
    let told = giving_gives _ _ _ c.in-Ok.ensures in
    rw told.1 at c.list_checked.ensures

pub returns-in-Err : goal.returns-in-Err
returns-in-Err c =
    let e = listing_refused c.args.file.now _ (giving_refuses _ _ _ c.in-Err.ensures) in
    let r = c.list_refusal.ensures in
    record {
      text = text_same (sym e) r.text;
      short = omega (arith, r.short, ap length e);
    }
