use Prim.Native.Nat.{◌*◌, ◌/◌}
use mathlib.Core.Path.{◌∙◌, sym, ap}
use native.Mathlib.Omega.{arith}
use lib.ListN.{length}
use lib.Seq.{take_all}
use Rattle.node_words.specs.Words.{entry_size}
use Rattle.byte_words.specs.Bytes.{bytes_of}
use Rattle.byte_words.specs.Buffers.{over}
use Rattle.plan_file.specs.Encoding.{entry_length}
use Rattle.plan_file.proofs.Words.{bodies_bytes_lem}
use Rattle.plan_file.proofs.store.put_entries.Goals as goal

pub put_first-requires : goal.put_first-requires
put_first-requires c = omega (arith, c.requires.1, ap (λ ed. length c.args.words.now / entry_size * entry_length ed) c.in-First.is)

pub put_words-requires : goal.put_words-requires
put_words-requires c = omega (arith, c.requires.0, c.requires.1, ap (λ ed. length c.args.words.now / entry_size * entry_length ed) c.in-Second.is)

pub returns-in-First : goal.returns-in-First
returns-in-First c = rw c.in-First.is c.put_first.ensures

pub returns-in-Second : goal.returns-in-Second
returns-in-Second c =
    let ws = c.args.words.now in
    rw c.in-Second.is
    (c.put_words.ensures
    ∙ ap (over _ _)
    (ap bytes_of (sym (take_all (length ws / entry_size * entry_size) ws (omega (arith, c.requires.0))))
    ∙ sym (bodies_bytes_lem (length ws / entry_size) ws (omega arith))))
