-- What a change to a lent session returns, and the words that it leaves.
use Rattle.std.specs.Prelude.{ℕ, ◌≡◌, List}
use Rattle.session.specs.State.{node_in}
use Rattle.session.specs.Operations.{Operation, step_check}
use Rattle.session.specs.InWords.{session_in, words_after}
use Rattle.planner_c.specs.Returned.{Returned, checked}

-- The operation o on the session in the words w returns r and leaves the words `after`: those of the changed session, or w
-- if o is refused.
pub record Changes (o : Operation) (w : List ℕ) (r : Returned) (after : List ℕ) : Type 0 where
  pub answer : r ≡ checked (step_check o (node_in (session_in w)))
  pub words : after ≡ words_after o w
