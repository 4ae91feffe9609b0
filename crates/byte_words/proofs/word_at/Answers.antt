use Prim.Native.Nat.{◌+◌, ◌-◌}
use mathlib.Core.Path.{◌≡◌, ◌∙◌, ap}
use native.Mathlib.Omega.{arith}
use lib.ListN.{take, drop}
use Rattle.byte_words.specs.Bytes.{word_at}
use Rattle.byte_words.proofs.Words.{word_taken}
use Rattle.byte_words.proofs.word_at.Goals as goal

pub returns : goal.returns
unfolding word_at
returns c =
    let k = c.args.k in
    let file = c.args.file.now in
    let four : k + 4 - k ≡ 4 = omega arith in
    let part = (rw c.unwrap.ensures at c.as_array.ensures.cases).same in
    c.from_le_bytes.ensures
    ∙ ap (λ l. word_at l 0) (part ∙ ap (λ n. take n (drop k file)) four)
    ∙ word_taken file k
