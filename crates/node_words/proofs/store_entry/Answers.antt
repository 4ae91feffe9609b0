use Prim.Native.Nat.{◌+◌, ◌*◌}
use mathlib.Core.Path.{◌≡◌}
use borrow.Author.Rules.{rules}
use native.Mathlib.Omega.{arith}
use lib.ListN.{length-set}
use Rattle.node_words.proofs.Words.{stored_all}
use Rattle.node_words.proofs.store_entry.Goals as goal

pub bounds-words-k-2 : goal.bounds-words-k-2
bounds-words-k-2 c = simp length-set (omega arith)

pub bounds-words-k-3 : goal.bounds-words-k-3
bounds-words-k-3 c = simp length-set (omega arith)

pub bounds-words-k-4 : goal.bounds-words-k-4
bounds-words-k-4 c = simp length-set (omega arith)

pub bounds-words-k-5 : goal.bounds-words-k-5
bounds-words-k-5 c = simp length-set (omega arith)

pub bounds-words-k-6 : goal.bounds-words-k-6
bounds-words-k-6 c = simp length-set (omega arith)

pub shape_of-words : goal.shape_of-words
shape_of-words c = simp length-set

pub returns : goal.returns
returns c =
    let e = c.args.e in
    let head : c.from_le_bytes.result ≡ e.number + e.kind * 65536 + e.calls * 16777216 = search rules in
    rw head (stored_all _ _ _)
