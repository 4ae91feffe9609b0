use mathlib.Core.Path.{◌∙◌, ap, sym}
use native.Mathlib.Omega.{arith}
use lib.ListN.{length}
use Rattle.text.proofs.Writing.{shown_front}
use Rattle.listing.proofs.Texts.{few_nodes, text_same}
use Rattle.listing.proofs.aside.list_through.Goals as goal

pub slice_bounds-copy_text-end-2 : goal.slice_bounds-copy_text-end-2
slice_bounds-copy_text-end-2 c =
    let p = c.put_plan-n.ensures in
    p.size ∙ sym (ap length (shown_front _ p.size p.buffer))

pub returns : goal.returns
returns c =
    let p = c.put_plan-n.ensures in
    record {
      text = text_same (shown_front _ p.size p.buffer) c.copy_text.ensures;
      short = omega (arith, p.short, few_nodes _ c.args.plan.now.accepted);
    }
