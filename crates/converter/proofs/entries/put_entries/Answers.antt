use Prim.Native.Nat.{◌+◌, ◌*◌}
use mathlib.Core.Path.{◌≡◌, ◌∙◌, refl, sym}
use native.Mathlib.Omega.{arith}
use borrow.Rule.Slice.PartMut.{same_len_mid}
use Rattle.byte_words.proofs.Buffers.{over_nothing, over_behind}
use Rattle.plan_file.specs.declared.Edition.{Edition}
use Rattle.plan_file.specs.Encoding.{entry_length, bodies_bytes}
use Rattle.plan_file.specs.Decoding.{file_words, entries_at}
use Rattle.converter.proofs.Stored.{entry_stored, read_words}
use Rattle.converter.proofs.entries.put_entries.Goals as goal

pub loop-i-init : goal.loop-i-init
unfolding bodies_bytes entries_at
loop-i-init g c = (refl, sym (over_nothing _ _))

pub loop-i-preserved : goal.loop-i-preserved
loop-i-preserved g c =
    let from : Edition = g.F.Layout.edition in
    let to : Edition = g.T.Layout.edition in
    let in_size : c.ENTRY_BYTES.result ≡ entry_length from = c.ENTRY_BYTES.ensures ∙ g.met.F.Layout.entry_bytes in
    let out_size : c.ENTRY_BYTES-in-loop-i.result ≡ entry_length to = c.ENTRY_BYTES-in-loop-i.ensures ∙ g.met.T.Layout.entry_bytes in
    let count : c.FILE_WORDS.result ≡ file_words to = c.FILE_WORDS.ensures ∙ g.met.T.Layout.entry_words in
    let words = read_words from _ _ _ _ _ _ _ _ c.word_at.ensures c.word_at-in-loop-i.ensures c.word_at-in-loop-i-2.ensures
    c.word_at-in-loop-i-3.ensures c.word_at-in-loop-i-4.ensures c.jitter.ensures in (
      same_len_mid _ _ _ _ c.put_words.auto.bytes ∙ c.loop-i.invariant.0,
      over_behind c.loop-i.out (c.args.start + c.loop-i.i * c.ENTRY_BYTES-in-loop-i.result) _ _ c.put_words.ensures
          ∙ rw (count, words, in_size, out_size)
          (entry_stored from to c.args.file.now c.args.start c.loop-i.i c.args.out.now _ _ c.loop-i.invariant.1 (omega arith) refl),
    )

pub returns : goal.returns
returns g c = let e : c.loop-i.i ≡ c.args.count = omega arith in rw (← e) c.loop-i.invariant.1
