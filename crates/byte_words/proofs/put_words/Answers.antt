use mathlib.Core.Path.{◌∙◌, sym, ap}
use native.Mathlib.Omega.{arith}
use lib.Seq.{take_all}
use Rattle.byte_words.specs.Buffers.{over}
use Rattle.byte_words.specs.Bytes.{bytes_of}
use Rattle.byte_words.proofs.Words.{bytes_more, bytes_length}
use Rattle.byte_words.proofs.Buffers.{over_nothing, over_more}
use Rattle.byte_words.proofs.put_words.Goals as goal

pub loop-i-init : goal.loop-i-init
unfolding bytes_of
loop-i-init c = sym (over_nothing _ _)

pub loop-i-preserved : goal.loop-i-preserved
loop-i-preserved c =
    c.put_word.ensures
    ∙ rw c.loop-i.invariant
    (over_more _ _ _ _ (bytes_length c.args.words.now c.loop-i.i (omega arith))
    ∙ ap (over _ _) (bytes_more c.args.words.now c.loop-i.i (omega arith)))

pub returns : goal.returns
returns c = c.loop-i.invariant ∙ ap (λ ws. over c.args.bytes.now 0 (bytes_of ws)) (take_all c.loop-i.i c.args.words.now (omega arith))
