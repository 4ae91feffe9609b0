use Prim.Native.Nat.{◌/◌}
use mathlib.Core.Path.{◌≡◌, ◌∙◌, refl, sym, ap}
use native.Mathlib.Omega.{arith}
use native.Mathlib.Nat.{zero-add}
use lib.ListN.{length}
use Rattle.node_words.specs.Words.{entry_size, words_of}
use Rattle.byte_words.proofs.Buffers.{over_nothing}
use Rattle.plan_file.specs.declared.Edition.TheVariants.{First}
use Rattle.plan_file.specs.Decoding.{entry_in, entries_at}
use Rattle.plan_file.proofs.Memory.{entry_copied}
use Rattle.plan_file.proofs.read.copy_first.Goals as goal

pub loop-i-init : goal.loop-i-init
unfolding entries_at words_of
loop-i-init c = (refl, sym (over_nothing _ 0))

pub loop-i-preserved : goal.loop-i-preserved
loop-i-preserved c = (
  omega (arith, c.store_entry.auto.words),
  c.store_entry.ensures
      ∙ entry_copied First _ _ _ _ _ _ c.loop-i.invariant.1 c.loop-i.invariant.0 (c.entry_at-e.ensures ∙ ap (entry_in First _) (sym (zero-add _))) (omega arith),
)

pub returns : goal.returns
returns c = let e : c.loop-i.i ≡ length c.args.words.now / entry_size = omega arith in rw (← e) c.loop-i.invariant.1
