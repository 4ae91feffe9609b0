-- Laws of asking a session: its answer for a session that the first check refuses, and for one that it accepts; and what is
-- worked out afresh from a node.
use Prim.Native.Nat.{ℕ, ◌≤◌}
use mathlib.Core.Path.{◌≡◌, ◌∙◌, refl, sym, ap}
use mathlib.Core.List.{List}
use native.Mathlib.Omega.{arith}
use lib.ListN.{length}
use Rattle.refusals.specs.Refusals.{Numbered, accepted, refused, numbered}
use Rattle.refusals.specs.declared.Refusal.{Refusal}
use Rattle.std.specs.Prelude.{Result, Err}
use Rattle.refusals.specs.Answers.{Answer, answered, refuses, left}
use Rattle.task_model.specs.Limits.{most_entries, Node, NodeHolds}
use Rattle.task_model.specs.Checks.{node_check}
use Rattle.task_model.proofs.Theorems.{node_accepted}
use Rattle.node_words.proofs.Entries.{length-entries}
use Rattle.completion.specs.Test.{completion_test}
use Rattle.level_map.specs.Answer.{map_of, held_answer, held_answer_under, NodeBestMapOrNone}
use Rattle.level_map.proofs.Theorems.{best_map_or_none}
use Rattle.map_store.specs.Store.{store_of, stored_levels}
use Rattle.map_store.specs.Asking.{map_asked, time_asked, fresh_time}
use Rattle.map_store.proofs.Theorems as stored
use Rattle.session.specs.declared.Session.{Session}
use Rattle.session.specs.State.{node_in, session_with, Sound}
use Rattle.session.specs.Operations.{asking, mapping, map_timing, query_check_by, operation_check_by, lent_check_by}
use Rattle.session.specs.Asking.{ask_check, call_check, map_given, map_time_given}
use Rattle.session.specs.Mapping.{map_answer, map_answer_by, map_time_answer, map_time_answer_by, Maps}
use Rattle.session.proofs.Checking.{lent_goes_on}

-- a session that may not be lent is refused, whatever its store holds
module _ (s : Session) (r : Numbered) (p : node_check 0 (node_in s) ≡ refused r) where
  pub forged_map : (room : ℕ) → map_given s room ≡ refuses r
  unfolding map_given call_check
  forged_map room = rw p

  pub forged_time : (i : ℕ) → map_time_given s i ≡ refuses r
  unfolding map_time_given call_check
  forged_time i = rw p

-- one that may is answered from its store
module _ (s : Session) (p : node_check 0 (node_in s) ≡ accepted) where
  pub asked_map : (room : ℕ) → map_given s room ≡ map_asked s.store s.levels s.count room
  unfolding map_given call_check ask_check map_asked
  asked_map room = rw p

  pub asked_time : (i : ℕ) → map_time_given s i ≡ time_asked s.store s.levels s.count i
  unfolding map_time_given call_check ask_check time_asked
  asked_time i = rw p

-- worked out afresh from a node that passes its checks
module _ (n : Node) (p : node_check 0 n ≡ accepted) where
  pub own_answer : (room : ℕ) → map_answer n room ≡ held_answer n room
  unfolding map_answer_by held_answer_under lent_check_by operation_check_by query_check_by
  own_answer room = rw (lent_goes_on (asking (mapping room)) n p)

  pub own_time : (i : ℕ) → map_time_answer n i ≡ fresh_time completion_test n i
  unfolding map_time_answer_by fresh_time lent_check_by operation_check_by query_check_by
  own_time i = rw (lent_goes_on (asking (map_timing i)) n p)

  pub own_best : (buffer : List ℕ) → NodeBestMapOrNone n buffer (held_answer n (length buffer)) (left (held_answer n (length buffer)) (map_of n) buffer)
  own_best buffer = best_map_or_none n ((node_accepted 0 n).0 p).within.each buffer

-- A sound session is answered as its node is, worked out afresh.
module _ (s : Session) (h : Sound s) where
  lent : node_check 0 (node_in s) ≡ accepted
  lent = (node_accepted 0 (node_in s)).1 h.valid

  -- what its store and its count are
  module _ {A : Type 0} (ask : List ℕ → ℕ → ℕ → A) where
    pub of_node : ask s.store s.levels s.count ≡ ask (store_of (node_in s)) (node_in s).levels (length (node_in s).entries)
    unfolding session_with
    of_node = ap (λ (t : Session). ask t.store s.levels t.count) h.determined

  pub sound_map : (room : ℕ) → map_given s room ≡ held_answer (node_in s) room
  sound_map room =
      asked_map s lent room
      ∙ of_node (λ st l c. map_asked st l c room)
      ∙ stored.map_answer_lem (node_in s) h.valid.within room

  pub sound_time : (i : ℕ) → map_time_given s i ≡ fresh_time completion_test (node_in s) i
  sound_time i =
      asked_time s lent i
      ∙ of_node (λ st l c. time_asked st l c i)
      ∙ stored.time_answer_lem (node_in s) h.valid.within i

  pub sound_left : (room : ℕ) (buffer : List ℕ)
      → left (held_answer (node_in s) room) (stored_levels s.store s.count) buffer ≡ left (held_answer (node_in s) room) (map_of (node_in s)) buffer
  sound_left room buffer =
      of_node (λ st l c. left (held_answer (node_in s) room) (stored_levels st c) buffer)
      ∙ stored.map_written (node_in s) h.valid.within room buffer

  pub sound_best : (buffer : List ℕ) (a : Answer ℕ) (after : List ℕ) → a ≡ map_given s (length buffer)
      → after ≡ left a (stored_levels s.store s.count) buffer → NodeBestMapOrNone (node_in s) buffer a after
  sound_best buffer a after p q =
      let e = p ∙ sound_map (length buffer) in
      rw (q, e, sound_left (length buffer) buffer) (own_best (node_in s) lent buffer)

-- what mapping does, from what it answers and writes
pub maps : (s : Session) (buffer : List ℕ) (a : Result ℕ Refusal) (after : List ℕ) → answered a ≡ map_given s (length buffer)
    → after ≡ left (answered a) (stored_levels s.store s.count) buffer → Maps s buffer a after
maps s buffer a after p q = record { answers = p; written = q; best = λ h. sound_best s h buffer (answered a) after p q }

-- a session that may not be lent is refused, and the buffer kept; one that may is asked for its map
module _ (s : Session) (buffer : List ℕ) where
  pub maps_forged : (r : Refusal) → node_check 0 (node_in s) ≡ refused (numbered r) → Maps s buffer (Err r) buffer
  maps_forged r p = maps s buffer (Err r) buffer (sym (forged_map s (numbered r) p (length buffer))) refl

  pub maps_held : node_check 0 (node_in s) ≡ accepted → (a : Result ℕ Refusal) (after : List ℕ)
      → answered a ≡ map_asked s.store s.levels s.count (length buffer)
      → after ≡ left (answered a) (stored_levels s.store s.count) buffer → Maps s buffer a after
  maps_held p a after e q = maps s buffer a after (e ∙ sym (asked_map s p (length buffer))) q

-- what is known of a session that the check of what it holds accepts
module _ (s : Session) (p : accepted ≡ node_check 0 (node_in s)) where
  pub found_within : NodeHolds (node_in s)
  found_within = ((node_accepted 0 _).0 (sym p)).within

  pub found_few : s.count ≤ most_entries
  found_few = omega (arith, found_within.few_entries, length-entries s.words 0 s.count)
