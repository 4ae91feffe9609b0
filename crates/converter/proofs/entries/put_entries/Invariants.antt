use mathlib.Core.Path.{◌≡◌}
use lib.ListN.{length}
use Rattle.byte_words.specs.Buffers.{over}
use Rattle.plan_file.specs.Encoding.{bodies_bytes}
use Rattle.plan_file.specs.Decoding.{entries_at}
use Rattle.converter.proofs.entries.put_entries.Given as goal

abbrev pub invariant-loop-i : goal.invariant-loop-i
invariant-loop-i g l =
    (length l.out ≡ length l.initial.out)
    × (l.out ≡ over l.initial.out l.start (bodies_bytes g.T.Layout.edition (entries_at g.F.Layout.edition l.file l.start l.i)))
