-- What an operation answers, and the session that it leaves.
use Rattle.std.specs.Prelude.{ℕ, ◌≡◌, List, [], ◌∷◌, Result}
use Rattle.refusals.specs.declared.Refusal.{Refusal}
use Rattle.refusals.specs.Refusals.{Outcome, accepted, refused, outcome}
use Rattle.session.specs.declared.Session.{Session}
use Rattle.map_store.specs.Store.{store_under, store_at_levels}
use Rattle.session.specs.State.{node_in, session_with, session_under}
use Rattle.session.specs.Operations.{
  Rules,
  rules,
  Change,
  inserting,
  removing,
  replacing,
  setting_levels,
  Operation,
  opening,
  changing,
  asking,
  empty_node,
  changed,
  step_check,
  step_check_by,
}
use Rattle.session.specs.Asking.{call_check}

-- The store after an accepted change. Where entries change it is worked out afresh, whatever it was. Setting the level count
-- keeps a store that has a map on the new count; else it works it out afresh if the count rises, and else clears it.
abbrev pub store_after_by : Rules → Change → Session → List ℕ
store_after_by by (inserting position e) s = store_under by.test (changed (inserting position e) (node_in s))
store_after_by by (removing position) s = store_under by.test (changed (removing position) (node_in s))
store_after_by by (replacing position e) s = store_under by.test (changed (replacing position e) (node_in s))
store_after_by by (setting_levels levels) s = store_at_levels by.test s.levels (changed (setting_levels levels) (node_in s)) s.store

-- The session after an accepted operation: the session of an empty node, the changed node with the store after the change, or,
-- after a query, the same session.
abbrev pub session_made_by : Rules → Operation → Session → Session
session_made_by by (opening levels) s = session_under by.test (empty_node levels)
session_made_by by (changing c) s = session_with (store_after_by by c s) (changed c (node_in s))
session_made_by by (asking q) s = s

-- The same by the rules of a session.
abbrev pub session_made : Operation → Session → Session
session_made o s = session_made_by rules o s

-- The session after an operation. A refused operation leaves it as it was, and so does a query, whatever it answers.
unfoldable pub session_after_by : Rules → Operation → Session → Session
session_after_by by o s =
    elim (step_check_by by o (node_in s)) [
      | accepted ↦ session_made_by by o s
      | refused r ↦ s
    ]

-- The same by the rules of a session.
abbrev pub session_after : Operation → Session → Session
session_after o s = session_after_by rules o s

-- The session after a sequence of operations.
unfoldable pub session_after_all : List Operation → Session → Session
session_after_all [] s = s
session_after_all (o ∷ os) s = session_after_all os (session_after o s)

-- The answers of a sequence of operations.
unfoldable pub answers_of : List Operation → Session → List Outcome
answers_of [] s = []
answers_of (o ∷ os) s = call_check o s ∷ answers_of os (session_after o s)

-- The operation o, opening or a change, answers a on the session s and leaves the session t.
pub record Follows (o : Operation) (s : Session) (a : Result Unit Refusal) (t : Session) : Type 0 where
  pub answer : outcome a ≡ step_check o (node_in s)
  pub session : t ≡ session_after o s

-- A call of the operation o on the session s answers x and leaves the session t. A query is lent the session by `&`: it leaves s.
pub record Called (o : Operation) (s : Session) (x : Outcome) (t : Session) : Type 0 where
  pub answer : x ≡ call_check o s
  pub session : t ≡ session_after o s

-- Calls in a row, each on the session that the one before it left: they answer xs, and the last one leaves t.
abbrev pub CalledAll : List Operation → Session → List Outcome → Session → Type 0
CalledAll [] s xs t = (xs ≡ []) × (t ≡ s)
CalledAll (o ∷ os) s xs t =
    (x : Outcome) × (ys : List Outcome) × (between : Session)
    × (xs ≡ x ∷ ys) × Called o s x between × CalledAll os between ys t
