use mathlib.Core.Path.{◌∙◌, ap, sym}
use native.Mathlib.Omega.{arith}
use Rattle.refusals.specs.Answers.{gives}
use Rattle.text.proofs.Writing.{written_front}
use Rattle.listing.specs.Listing.{listing}
use Rattle.listing.proofs.Texts.{few_nodes, text_fits}
use Rattle.listing.proofs.aside.list_checked.Goals as goal

pub returns-then-nodes-out : goal.returns-then-nodes-out
returns-then-nodes-out c =
    let u = c.put_plan.ensures in
    record {
      text = record {
        answer = ap gives u.size ∙ sym (text_fits (listing _) _ (omega (arith, u.short)));
        there = u.buffer ∙ written_front _ (listing _);
      };
      short = omega (arith, u.short, few_nodes _ c.args.plan.now.accepted);
    }
