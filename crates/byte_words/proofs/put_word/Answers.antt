use mathlib.Core.Path.{◌∙◌}
use native.Mathlib.Omega.{arith}
use Rattle.byte_words.proofs.Words.{length-low, low_four}
use Rattle.byte_words.proofs.Buffers.{over_part}
use Rattle.byte_words.proofs.put_word.Goals as goal

pub returns : goal.returns
returns c = over_part _ _ _ _ _ (c.copy_from_slice.ensures.after ∙ c.to_le_bytes.ensures ∙ low_four _) (omega (arith, length-low 4 c.args.word))
