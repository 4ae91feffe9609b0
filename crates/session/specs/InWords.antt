-- A session that is lent as an array of words: the level count, the entry count, the words of a node, and the store.
use Rattle.std.specs.Prelude.{ℕ, ◌+◌, List, [], ◌∷◌, ◌++◌, ◌≡◌, get_or, take, drop, Result}
use Rattle.refusals.specs.declared.Refusal.{Refusal}
use Rattle.refusals.specs.Refusals.{Outcome, accepted, refused, outcome}
use Rattle.node_words.specs.Words.{node_size}
use Rattle.map_store.specs.Store.{store_size}
use Rattle.session.specs.declared.Session.{Session}
use Rattle.session.specs.State.{node_in}
use Rattle.session.specs.Operations.{Rules, rules, Operation, step_check, step_check_by}
use Rattle.session.specs.Steps.{session_after_by}

-- Where the words of the node begin, and where the store does.
abbrev pub node_at : ℕ
node_at = 2

abbrev pub store_at : ℕ
store_at = 2 + node_size

-- How many words a session has.
abbrev pub session_size : ℕ
session_size = 2 + node_size + store_size

-- The session that words hold.
abbrev pub session_in : List ℕ → Session
session_in w = record { levels = get_or w 0 0; count = get_or w 1 0; words = take node_size (drop node_at w); store = drop store_at w }

-- The words of a session.
abbrev pub words_in : Session → List ℕ
words_in s = s.levels ∷ s.count ∷ (s.words ++ s.store)

-- The words after a change: those of the changed session if it is accepted, and the old words if it is refused.
abbrev pub words_left : Outcome → Session → List ℕ → List ℕ
words_left accepted made w = words_in made
words_left (refused r) made w = w

-- The words after an operation.
unfoldable pub words_after_by : Rules → Operation → List ℕ → List ℕ
words_after_by by o w = words_left (step_check_by by o (node_in (session_in w))) (session_after_by by o (session_in w)) w

-- The same by the rules of a session.
abbrev pub words_after : Operation → List ℕ → List ℕ
words_after o w = words_after_by rules o w

-- The words after a sequence of operations.
unfoldable pub words_after_all : List Operation → List ℕ → List ℕ
words_after_all [] w = w
words_after_all (o ∷ os) w = words_after_all os (words_after o w)

-- The operation o on the session in the words w answers a and leaves the words `after`.
pub record FollowsIn (o : Operation) (w : List ℕ) (a : Result Unit Refusal) (after : List ℕ) : Type 0 where
  pub answer : outcome a ≡ step_check o (node_in (session_in w))
  pub words : after ≡ words_after o w
