use mathlib.Core.Path.{ap}
use mathlib.Core.List.{List}
use Prim.Native.Nat.{ℕ}
use native.Mathlib.Omega.{arith}
use Rattle.session.specs.InWords.{session_in}
use Rattle.session.proofs.InWords.{store_lent}
use Rattle.session.proofs.in_words.SessionWordsHoldsSession.lent.Goals as goal

pub returns : goal.returns
returns c =
    let w = c.args.self.now in
    let node = rw c.unwrap.ensures at c.as_array.ensures.cases in
    let store = rw c.unwrap-2.ensures at c.as_array-2.ensures.cases in
    rw (node.same, store.same) (ap (λ (st : List ℕ). record (session_in w) { store = st }) (store_lent w (omega arith)))
