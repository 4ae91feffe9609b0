use mathlib.Core.Path.{◌∙◌, ap, sym}
use lib.ListN.{length}
use Rattle.text.proofs.Writing.{shown_front}
use Rattle.listing.proofs.Texts.{text_same}
use Rattle.listing.proofs.aside.list_refusal.Goals as goal

pub slice_bounds-copy_text-end : goal.slice_bounds-copy_text-end
slice_bounds-copy_text-end c =
    let p = c.put_refused_line-n.ensures in
    p.size ∙ sym (ap length (shown_front _ p.size p.buffer))

pub returns : goal.returns
returns c =
    let p = c.put_refused_line-n.ensures in
    record {
      text = text_same (shown_front _ p.size p.buffer) c.copy_text.ensures;
      short = p.short;
    }
