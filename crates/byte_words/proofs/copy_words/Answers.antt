use mathlib.Core.Path.{◌≡◌, ◌∙◌, refl, sym, ap}
use native.Mathlib.Omega.{arith}
use native.Mathlib.Nat.{zero-add}
use lib.ListN.{length, length-set}
use Rattle.byte_words.specs.Bytes.{word_at, words_from}
use Rattle.byte_words.proofs.Words.{words_run}
use Rattle.byte_words.proofs.Runs.{copied, run_length}
use Rattle.byte_words.proofs.Buffers.{over_nothing, over_whole}
use Rattle.byte_words.proofs.copy_words.Goals as goal

pub loop-i-init : goal.loop-i-init
unfolding words_from
loop-i-init c = (refl, sym (over_nothing _ 0))

pub loop-i-preserved : goal.loop-i-preserved
loop-i-preserved c = (
  simp length-set c.loop-i.invariant.0,
  copied (words_run _) _ _ _ _ _ c.loop-i.invariant.1 (c.word_at.ensures ∙ ap (word_at _) (sym (zero-add _))) (omega arith),
)

pub returns : goal.returns
returns c =
    let e : c.loop-i.i ≡ length c.args.words.now = omega arith in
    rw (← e) (c.loop-i.invariant.1 ∙ over_whole _ _ (run_length (words_run _) 0 _ ∙ e))
