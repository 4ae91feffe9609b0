use mathlib.Core.Path.{◌≡◌}
use lib.ListN.{length}
use Rattle.node_words.specs.Words.{entries_of}
use Rattle.byte_words.specs.Buffers.{over}
use Rattle.plan_file.specs.declared.Edition.TheVariants.{First}
use Rattle.plan_file.specs.Encoding.{bodies_bytes}
use Rattle.plan_file.proofs.store.put_first.Given as goal

abbrev pub invariant-loop-i : goal.invariant-loop-i
invariant-loop-i l = (length l.bytes ≡ length l.initial.bytes) × (l.bytes ≡ over l.initial.bytes 0 (bodies_bytes First (entries_of l.words l.i)))
