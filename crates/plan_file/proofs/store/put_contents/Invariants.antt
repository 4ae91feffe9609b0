use Prim.Native.Nat.{◌+◌, ◌*◌, ◌≤◌}
use mathlib.Core.List.{map}
use mathlib.Core.Path.{◌≡◌}
use lib.ListN.{length, take}
use Rattle.plan_file.specs.declared.Edition.TheVariants.{Second}
use Rattle.plan_file.specs.Encoding.{bodies_start, contents_bytes, entry_length}
use Rattle.plan_file.specs.Plan.{entry_count, row_of}
use Rattle.byte_words.specs.Buffers.{over}
use Rattle.plan_file.proofs.store.put_contents.Given as goal

abbrev pub invariant-loop-row : goal.invariant-loop-row
invariant-loop-row l = (length l.file ≡ length l.initial.file)
    × (l.offset ≡ bodies_start (length l.rows) + entry_count (take l.row (map row_of l.rows)) * l.size)
    × (l.offset ≤ bodies_start (length l.rows) + l.row * 255 * entry_length Second)
    × (l.file ≡ over l.initial.file 8 (contents_bytes l.size (bodies_start (length l.rows)) (take l.row (map row_of l.rows))))
