-- The checks of a call before entry numbers were checked, and operations that bring no number twice. By `step_differ` the
-- present checks are these wherever no number occurs twice; by `step_fewer` they accept nothing else.
use Rattle.std.specs.Prelude.{ℕ, ◌<◌, ◌≡◌, List, [], ◌∷◌, length, leb, ltb}
use Rattle.refusals.specs.Refusals.{at, Outcome, accepted, refused, ◌and_then◌, must_hold}
use Rattle.task_model.specs.declared.Entry.{Entry}
use Rattle.task_model.specs.Limits.{most_entries, Node, entry_at, NumbersDiffer}
use Rattle.task_model.specs.WithoutNumbers.{loose_node_by}
use Rattle.session.specs.Operations.{
  Rules,
  rules,
  Change,
  inserting,
  removing,
  replacing,
  setting_levels,
  Operation,
  opening,
  changing,
  asking,
  levels_check,
  query_check_by,
}
use Rattle.session.specs.declared.Session.{Session}
use Rattle.session.specs.State.{node_in}
use Rattle.session.specs.Asking.{ask_check}
use Rattle.session.specs.Steps.{session_made_by}

-- The checks of a change. Insert: 12, 13, then the entry's fields. Remove: 12. Replace: 12, then the entry's fields. Setting
-- levels: 4.
unfoldable pub loose_change_by : Rules → Change → Node → Outcome
loose_change_by by (inserting position e) n =
    must_hold (leb position (length n.entries)) (at 12 0 0)
    and_then must_hold (ltb (length n.entries) most_entries) (at 13 0 0)
    and_then by.check 0 position e
loose_change_by by (removing position) n = must_hold (ltb position (length n.entries)) (at 12 0 0)
loose_change_by by (replacing position e) n =
    must_hold (ltb position (length n.entries)) (at 12 0 0) and_then by.check 0 position e
loose_change_by by (setting_levels levels) n = levels_check levels

-- The checks of an operation. Opening: 4. Queries are checked as they are now.
unfoldable pub loose_operation_by : Rules → Operation → Node → Outcome
loose_operation_by by (opening levels) n = levels_check levels
loose_operation_by by (changing c) n = loose_change_by by c n
loose_operation_by by (asking q) n = query_check_by by q n

-- The checks of the session that is lent: 4, then each entry, with its position.
unfoldable pub loose_lent_by : Rules → Operation → Node → Outcome
loose_lent_by by (opening levels) n = accepted
loose_lent_by by (changing c) n = loose_node_by by.check 0 n
loose_lent_by by (asking q) n = loose_node_by by.check 0 n

-- All checks of a call: first those of the lent session, then those of the operation.
unfoldable pub loose_step_by : Rules → Operation → Node → Outcome
loose_step_by by o n = loose_lent_by by o n and_then loose_operation_by by o n

-- The session after an operation. A refused operation leaves it as it was.
unfoldable pub loose_after_by : Rules → Operation → Session → Session
loose_after_by by o s =
    elim (loose_step_by by o (node_in s)) [
      | accepted ↦ session_made_by by o s
      | refused r ↦ s
    ]

-- A change brings no number that an entry of the list has; the entry that is replaced does not count.
abbrev pub NewNumber : Change → List Entry → Type 0
NewNumber (inserting position e) es = (i : ℕ) → i < length es → (entry_at es i).number ≡ e.number → ⊥
NewNumber (removing position) es = Unit
NewNumber (replacing position e) es = (i : ℕ) → i < length es → (i ≡ position → ⊥) → (entry_at es i).number ≡ e.number → ⊥
NewNumber (setting_levels levels) es = Unit

-- No number occurs twice, neither in the lent session nor by the change. Opening does not look at what is lent.
abbrev pub NumbersOnce : Operation → Node → Type 0
NumbersOnce (opening levels) n = Unit
NumbersOnce (changing c) n = NumbersDiffer n.entries × NewNumber c n.entries
NumbersOnce (asking q) n = NumbersDiffer n.entries

-- All checks of a call on a session. A query is answered from the store, as it is now.
unfoldable pub loose_call : Operation → Session → Outcome
loose_call (opening levels) s = loose_step_by rules (opening levels) (node_in s)
loose_call (changing c) s = loose_step_by rules (changing c) (node_in s)
loose_call (asking q) s = loose_node_by rules.check 0 (node_in s) and_then ask_check q s

-- The session after a sequence of operations, and their answers.
unfoldable pub loose_after_all : List Operation → Session → Session
loose_after_all [] s = s
loose_after_all (o ∷ os) s = loose_after_all os (loose_after_by rules o s)

unfoldable pub loose_answers_of : List Operation → Session → List Outcome
loose_answers_of [] s = []
loose_answers_of (o ∷ os) s = loose_call o s ∷ loose_answers_of os (loose_after_by rules o s)

-- In a sequence of operations no number ever occurs twice.
abbrev pub AllOnce : List Operation → Session → Type 0
AllOnce [] s = Unit
AllOnce (o ∷ os) s = NumbersOnce o (node_in s) × AllOnce os (loose_after_by rules o s)
