use Prim.Native.Nat.{◌*◌, ◌/◌}
use mathlib.Core.Path.{◌≡◌, ◌∙◌, sym, ap}
use native.Mathlib.Omega.{arith}
use lib.ListN.{length}
use Rattle.node_words.specs.Words.{entry_size}
use Rattle.byte_words.specs.Bytes.{words_from}
use Rattle.byte_words.proofs.Buffers.{over_whole}
use Rattle.plan_file.specs.declared.Edition.TheVariants.{First}
use Rattle.plan_file.specs.Encoding.{entry_length}
use Rattle.plan_file.proofs.Memory.{words_of_entries, words_whole}
use Rattle.plan_file.proofs.read.copy_entries.Goals as goal

pub copy_first-requires : goal.copy_first-requires
copy_first-requires c = omega (arith, c.requires.1, ap (λ ed. length c.args.words.now / entry_size * entry_length ed) c.in-First.is)

pub copy_words-requires : goal.copy_words-requires
copy_words-requires c = omega (arith, c.requires.0, c.requires.1, ap (λ ed. length c.args.words.now / entry_size * entry_length ed) c.in-Second.is)

pub returns-in-First : goal.returns-in-First
returns-in-First c = rw c.in-First.is (c.copy_first.ensures ∙ over_whole _ _ (words_whole First _ _ _ c.requires.0))

pub returns-in-Second : goal.returns-in-Second
returns-in-Second c =
    let whole : length c.args.words.now ≡ length c.args.words.now / entry_size * entry_size = omega (arith, c.requires.0) in
    rw c.in-Second.is
    (c.copy_words.ensures
    ∙ ap (words_from c.args.bytes.now 0) whole
    ∙ sym (words_of_entries _ (λ i. (c.shared_slice_known-1.given i).fits) _ _))
