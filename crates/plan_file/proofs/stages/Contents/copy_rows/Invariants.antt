use mathlib.Core.List.{map}
use mathlib.Core.Path.{◌≡◌}
use lib.ListN.{length}
use Rattle.plan_file.specs.Decoding.{rows_from}
use Rattle.plan_file.specs.Plan.{row_word}
use Rattle.byte_words.specs.Buffers.{over}
use Rattle.plan_file.proofs.stages.Contents.copy_rows.Given as goal

abbrev pub invariant-loop-row : goal.invariant-loop-row
invariant-loop-row l =
    (length l.word-items ≡ length l.initial.word-items)
    × (l.word-items ≡ over l.initial.word-items 0 (map row_word (rows_from l.self.file.now 0 l.row)))
