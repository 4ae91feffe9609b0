use mathlib.Core.Path.{◌≡◌}
use lib.ListN.{length}
use Rattle.byte_words.specs.Bytes.{words_from}
use Rattle.byte_words.specs.Buffers.{over}
use Rattle.byte_words.proofs.copy_words.Given as goal

abbrev pub invariant-loop-i : goal.invariant-loop-i
invariant-loop-i l = (length l.words ≡ length l.initial.words) × (l.words ≡ over l.initial.words 0 (words_from l.bytes 0 l.i))
