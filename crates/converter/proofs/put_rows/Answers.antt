use Prim.Native.Nat.{ℕ}
use mathlib.Core.Path.{◌≡◌, ◌∙◌, sym, ap}
use mathlib.Core.List.{List, map}
use native.Mathlib.Omega.{arith}
use lib.ListN.{length, take}
use lib.Seq.{take_at}
use Rattle.byte_words.specs.Buffers.{over}
use Rattle.byte_words.proofs.Buffers.{over_start}
use Rattle.plan_file.specs.Plan.{row_word}
use Rattle.plan_file.specs.Encoding.{header_length}
use Rattle.plan_file.specs.Decoding.{rows_from}
use Rattle.plan_file.proofs.Contents.{length-row_words}
use Rattle.converter.proofs.Stored.{contents_stored}
use Rattle.converter.proofs.put_rows.Goals as goal

-- the rows that were copied to the start of a buffer `d` are read again
module _ (f d rows : List ℕ) (nodes : ℕ) (copied : rows ≡ over d 0 (map row_word (rows_from f 0 nodes))) where
  row_words : take nodes rows ≡ map row_word (rows_from f 0 nodes)
  row_words = ap (take nodes) (copied ∙ over_start _ _) ∙ take_at _ _ nodes (length-row_words f nodes)

  many : length (take nodes rows) ≡ nodes
  many = ap length row_words ∙ length-row_words f nodes

pub slice_bounds-put_contents-end : goal.slice_bounds-put_contents-end
slice_bounds-put_contents-end c = sym (many _ _ _ _ c.copy_rows.ensures)

pub put_contents-requires : goal.put_contents-requires
put_contents-requires c = rw (many _ _ _ _ c.copy_rows.ensures) (omega arith, omega arith)

pub returns : goal.returns
returns c = c.put_contents.ensures ∙ ap (over _ header_length) (contents_stored _ _ c.args.contents.now.nodes _ (row_words _ _ _ _ c.copy_rows.ensures))
