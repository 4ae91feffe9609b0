use mathlib.Core.Path.{◌∙◌, refl, sym}
use native.Mathlib.Omega.{arith}
use Rattle.text.proofs.Writing.{written_part, written_front}
use Rattle.listing.proofs.Texts.{text_fits, text_short}
use Rattle.listing.proofs.aside.copy_text.Goals as goal

pub returns-then-out-text : goal.returns-then-out-text
returns-then-out-text c = record {
  answer = sym (text_short _ _ (omega arith));
  there = refl;
}

pub returns : goal.returns
returns c =
    record {
      answer = sym (text_fits _ _ (omega arith));
      there =
          written_part _ 0 _ _ _ c.copy_from_slice.ensures.after (omega arith) ∙ written_front c.args.out.now c.args.text.now;
    }
