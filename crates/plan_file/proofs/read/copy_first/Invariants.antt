use mathlib.Core.Path.{◌≡◌}
use lib.ListN.{length}
use Rattle.node_words.specs.Words.{words_of}
use Rattle.byte_words.specs.Buffers.{over}
use Rattle.plan_file.specs.declared.Edition.TheVariants.{First}
use Rattle.plan_file.specs.Decoding.{entries_at}
use Rattle.plan_file.proofs.read.copy_first.Given as goal

abbrev pub invariant-loop-i : goal.invariant-loop-i
invariant-loop-i l = (length l.words ≡ length l.initial.words) × (l.words ≡ over l.initial.words 0 (words_of (entries_at First l.bytes 0 l.i)))
