use mathlib.Core.Path.{◌∙◌, refl, sym, ap}
use native.Mathlib.Omega.{arith}
use Rattle.byte_words.specs.Bytes.{low}
use Rattle.byte_words.specs.Buffers.{over}
use Rattle.plan_file.proofs.Words.{row_bytes_lem}
use Rattle.byte_words.proofs.Buffers.{over_next}
use Rattle.plan_file.proofs.store.put_row.Goals as goal

pub returns : goal.returns
unfolding low
returns c = c.put_word-2.ensures
    ∙ rw c.put_word.ensures
    (over_next _ _ 4 (low 4 _) (low 4 _) refl (omega arith) ∙ ap (over _ _) (sym (row_bytes_lem _ _)))
