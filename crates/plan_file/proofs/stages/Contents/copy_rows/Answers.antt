use mathlib.Core.Path.{◌≡◌, ◌∙◌, refl, sym, ap}
use mathlib.Core.List.{map, ◌++◌}
use native.Mathlib.Omega.{arith}
use lib.ListN.{length, take, drop, length-set}
use lib.Seq.{length-take-le}
use Rattle.plan_file.specs.Decoding.{rows_from}
use Rattle.plan_file.specs.Plan.{row_word}
use Rattle.plan_file.specs.Contents.{rows_of}
use Rattle.plan_file.proofs.Contents.{row_words_run, row_kept, length-row_words}
use Rattle.byte_words.proofs.Runs.{copied}
use Rattle.byte_words.proofs.Buffers.{over_nothing, over_start, over_whole}
use Rattle.plan_file.proofs.stages.Contents.copy_rows.Goals as goal

pub loop-row-init : goal.loop-row-init
unfolding rows_from
loop-row-init c = (refl, sym (over_nothing _ 0))

pub loop-row-preserved : goal.loop-row-preserved
loop-row-preserved c = (
  simp length-set c.loop-row.invariant.0,
  copied (row_words_run _) _ _ _ _ _ c.loop-row.invariant.1 (row_kept _ _ _ (rw c.row_start.ensures at c.word_at.ensures) (omega arith)) (omega arith),
)

pub returns : goal.returns
returns c =
    let self = c.args.self.now in
    let rows = c.args.rows.now in
    let copied_words = map row_word (rows_of self) in
    let part : length (take self.nodes rows) ≡ self.nodes = length-take-le self.nodes rows c.requires in
    let long : length copied_words ≡ self.nodes = length-row_words self.file.now self.nodes in
    let e : c.loop-row.row ≡ self.nodes = omega (arith, part) in
    let whole : c.loop-row.word-items ≡ copied_words = (rw e at c.loop-row.invariant.1) ∙ over_whole _ copied_words (long ∙ sym part) in
    ap (λ l. l ++ drop self.nodes rows) whole ∙ sym (over_start rows copied_words ∙ ap (λ n. copied_words ++ drop n rows) long)
