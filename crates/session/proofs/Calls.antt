-- Calls in a row, each on the session that the one before it left.
use Prim.Native.Nat.{ℕ, ◌≤◌}
use mathlib.Core.Path.{◌≡◌, ◌∙◌, refl, sym, ap, ap₂, subst}
use mathlib.Core.Logic.{⊎_elim}
use mathlib.Core.List.{List, [], ◌∷◌}
use Rattle.std.specs.Prelude.{Result}
use Rattle.refusals.specs.declared.Refusal.{Refusal}
use Rattle.refusals.specs.Refusals.{Outcome, accepted, outcome}
use Rattle.refusals.proofs.Outcomes.{either}
use Rattle.task_model.specs.Limits.{most_levels}
use Rattle.session.specs.declared.Session.{Session}
use Rattle.session.specs.State.{node_in, Sound}
use Rattle.session.specs.Operations.{Query, Operation, opening, changing, asking, AllCallable, empty_node, answers_all, step_check}
use Rattle.session.specs.Asking.{call_check}
use Rattle.session.specs.Mapping.{Remembers}
use Rattle.session.specs.Steps.{session_after_all, answers_of, Follows, Called, CalledAll}
use Rattle.session.specs.InWords.{session_in, FollowsIn}
use Rattle.session.proofs.Checking.{after_refused, after_accepted}
use Rattle.session.proofs.InWords.{words_session}
use Rattle.session.proofs.Theorems.{answers_follow, made_sound, sound_remembers}

-- opening and changes answer by their own checks, and do not look at the store
pub called_by : (o : Operation) (s : Session) → ((q : Query) → o ≡ asking q → ⊥) → call_check o s ≡ step_check o (node_in s)
unfolding call_check
called_by (opening levels) s out = refl
called_by (changing c) s out = refl
called_by (asking q) s out = absurd (out q refl)

-- Opening and changes are such calls by what they promise, of a session that is lent by reference,
module _ (o : Operation) (out : (q : Query) → o ≡ asking q → ⊥) where
  pub change_called : (s : Session) (a : Result Unit Refusal) (t : Session) → Follows o s a t → Called o s (outcome a) t
  change_called s a t f = record { answer = f.answer ∙ sym (called_by o s out); session = f.session }

  -- and of words, where the session is the one that is read from the bytes that the call leaves.
  pub change_called_in : (w : List ℕ) (a : Result Unit Refusal) (after : List ℕ) → FollowsIn o w a after
      → Called o (session_in w) (outcome a) (session_in after)
  change_called_in w a after f =
      record { answer = f.answer ∙ sym (called_by o (session_in w) out); session = ap session_in f.words ∙ words_session o w }

-- A query is such a call that leaves the session, whatever it answers.
pub query_called : (q : Query) (s : Session) → Called (asking q) s (call_check (asking q) s) s
query_called q s =
    record {
      answer = refl;
      session = sym
          (⊎_elim
          (λ p. after_accepted (asking q) s p)
          (λ p. after_refused (asking q) s p.0 p.1)
          (either (step_check (asking q) (node_in s))));
    }

-- Calls in a row leave the session after the row of operations, and answer as those do.
pub calls_follow : (os : List Operation) (s : Session) (xs : List Outcome) (t : Session) → CalledAll os s xs t
    → (t ≡ session_after_all os s) × (xs ≡ answers_of os s)
unfolding session_after_all answers_of
calls_follow [] s xs t c = (c.1, c.0)
calls_follow (o ∷ os) s xs t (x, ys, between, p, call, later) =
    let h = calls_follow os between ys t later in (
      h.0 ∙ ap (session_after_all os) call.session,
      p ∙ ap₂ ◌∷◌ call.answer (h.1 ∙ ap (answers_of os) call.session),
    )

-- So from the opening on, whatever the memory held before and whatever the calls answer,
module _ (levels : ℕ) (low : 1 ≤ levels) (few : levels ≤ most_levels) (os : List Operation) (call : AllCallable os) (s t : Session) (xs : List Outcome)
    (c : CalledAll (opening levels ∷ os) s xs t) where
  -- the session that the calls leave is sound,
  pub calls_sound : Sound t
  calls_sound = subst Sound (sym (calls_follow (opening levels ∷ os) s xs t c).0) (made_sound levels low few os call s)

  -- its store holds what is worked out afresh from its entries and its level count,
  pub calls_remember : Remembers t
  calls_remember = sound_remembers t calls_sound

  -- and the calls have answered as the definition does that works everything out from the list of entries each time.
  pub calls_answer : xs ≡ accepted ∷ answers_all os (empty_node levels)
  calls_answer = (calls_follow (opening levels ∷ os) s xs t c).1 ∙ answers_follow levels low few os call s
