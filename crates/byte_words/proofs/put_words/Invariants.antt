use mathlib.Core.Path.{◌≡◌}
use lib.ListN.{take}
use Rattle.byte_words.specs.Buffers.{over}
use Rattle.byte_words.specs.Bytes.{bytes_of}
use Rattle.byte_words.proofs.put_words.Given as goal

abbrev pub invariant-loop-i : goal.invariant-loop-i
invariant-loop-i l = l.bytes ≡ over l.initial.bytes 0 (bytes_of (take l.i l.words))
