-- What C's functions promise makes them calls in a row, as the session's theorems speak of (`calls_remember`): each on the session
-- that is read from the bytes that the one before it left.
use Prim.Native.Nat.{ℕ, ◌<◌}
use mathlib.Core.Path.{◌≡◌, ◌∙◌, sym, ap}
use mathlib.Core.List.{List}
use native.Mathlib.Nat.{mod-lt}
use native.Mathlib.Omega.{arith}
use lib.ListN.{get_or}
use Rattle.node_words.specs.Words.{entry_from}
use Rattle.session.specs.State.{node_in}
use Rattle.session.specs.Operations.{Query, Operation, asking, step_check}
use Rattle.session.specs.Steps.{Called}
use Rattle.session.specs.InWords.{session_in}
use Rattle.session.proofs.InWords.{words_session}
use Rattle.session.proofs.Calls.{called_by}
use Rattle.planner_c.specs.Returned.{Returned}
use Rattle.planner_c.specs.Changes.{Changes}

pub change_called : (o : Operation) → ((q : Query) → o ≡ asking q → ⊥) → (w : List ℕ) (r : Returned) (after : List ℕ) → Changes o w r after
    → Called o (session_in w) (step_check o (node_in (session_in w))) (session_in after)
change_called o out w r after c =
    record { answer = sym (called_by o (session_in w) out); session = ap session_in c.words ∙ words_session o w }

-- An entry that C lends has a number of 16 bits, so inserting it, or replacing another by it, is an operation that a program can
-- ask for (`Callable`).
pub lent_number : (ws : List ℕ) (k : ℕ) → (entry_from ws k).number < 65536
unfolding entry_from
lent_number ws k = mod-lt (get_or ws k 0) (omega arith)
