-- Sequences of operations on the session of a node: one step, and then all of them.
use Prim.Native.Nat.{ℕ, ◌+◌, ◌≤◌, ◌<◌}
use mathlib.Core.Path.{◌≡◌, ◌∙◌, refl, sym, ap, ap₂}
use mathlib.Core.Logic.{⊎_elim}
use mathlib.Core.List.{List, [], ◌∷◌}
use native.Mathlib.Omega.{arith}
use lib.ListN.{length}
use Rattle.task_model.specs.declared.Entry.{Entry}
use Rattle.refusals.specs.Refusals.{Numbered, accepted, refused, ◌and_then◌}
use Rattle.task_model.specs.Limits.{most_levels, most_entries, Node, EntryHolds, NodeHolds, NumbersDiffer, NodeValid}
use Rattle.refusals.proofs.Outcomes.{either}
use Rattle.task_model.proofs.Theorems.{node_accepted}
use Rattle.completion.specs.Test.{completion_test}
use Rattle.map_store.specs.Store.{store_of, store_at_levels}
use Rattle.map_store.proofs.Theorems as stored
use Rattle.map_store.proofs.AtLevels.{levels_set}
use Rattle.session.specs.State.{node_in, session_with, session_of}
use Rattle.session.specs.Asking.{ask_check, call_check}
use Rattle.task_model.specs.Checks.{node_check}
use Rattle.session.specs.Operations.{
  rules,
  Query,
  mapping,
  timing,
  map_timing,
  query_check_by,
  step_check_by,
  Change,
  Operation,
  opening,
  changing,
  asking,
  inserting,
  removing,
  replacing,
  setting_levels,
  CallableChange,
  Callable,
  AllCallable,
  change_check_by,
  operation_check,
  operation_check_by,
  empty_node,
  changed,
  made,
  node_after,
  node_after_by,
  node_after_all,
  node_after_all_by,
  answers_all,
  answers_all_by,
  lent_check,
  lent_check_by,
  step_check,
}
use Rattle.session.specs.Steps.{session_made, session_after, session_after_all, answers_of}
use Rattle.node_words.proofs.Lists.{Each, each_of, of_each}
use Rattle.session.proofs.Changing.{size_changed, each_changed}
use Rattle.session.proofs.Reading.{Kept, read_back}
use Rattle.session.proofs.Numbers.{differ_inserted, differ_removed, differ_replaced}
use Rattle.session.proofs.Checking.{position_of, gone_of, new_of, counted, lent_goes_on, levels_accepted, insert_accepted, remove_accepted, replace_accepted, after_refused, after_accepted}

-- a number of 16 bits
abbrev Short : Entry → Type 0
Short e = e.number < 65536

pub kept_empty : (levels : ℕ) → 1 ≤ levels → levels ≤ most_levels → Kept (empty_node levels)
kept_empty levels l h =
    record {
      valid =
          record {
            within = record { some_levels = l; few_levels = h; few_entries = omega arith; each = λ j h. absurd (omega arith) };
            numbers = λ j h. absurd (omega arith);
          };
      short = λ j h. absurd (omega arith);
    }

-- an accepted change keeps a node within the limits,
module _ (n : Node) (w : NodeHolds n) where
  all_hold : Each EntryHolds n.entries
  all_hold = each_of EntryHolds n.entries w.each

  -- its count of entries, and the limits of those that are new
  new_held : (c : Change) → operation_check (changing c) n ≡ accepted
      → (position_of c + gone_of c ≤ length n.entries) × (counted c (length n.entries) ≤ most_entries) × Each EntryHolds (new_of c)
  unfolding operation_check_by change_check_by
  new_held (inserting p e) a = let h = insert_accepted n p e a in (omega arith, omega arith, (h.2, tt))
  new_held (removing p) a = (omega (arith, remove_accepted n p a), omega (arith, w.few_entries), tt)
  new_held (replacing p e) a = let h = replace_accepted n p e a in (omega arith, omega (arith, w.few_entries), (h.1, tt))
  new_held (setting_levels levels) a = (omega arith, omega (arith, w.few_entries), tt)

  levels_held : (c : Change) → operation_check (changing c) n ≡ accepted → (1 ≤ (changed c n).levels) × ((changed c n).levels ≤ most_levels)
  unfolding changed operation_check_by change_check_by
  levels_held (inserting p e) a = (w.some_levels, w.few_levels)
  levels_held (removing p) a = (w.some_levels, w.few_levels)
  levels_held (replacing p e) a = (w.some_levels, w.few_levels)
  levels_held (setting_levels levels) a = levels_accepted levels a

  pub holds_changed : (c : Change) → operation_check (changing c) n ≡ accepted → NodeHolds (changed c n)
  holds_changed c a =
      let l = levels_held c a in
      let h = new_held c a in
      record {
        some_levels = l.0;
        few_levels = l.1;
        few_entries = omega (arith, size_changed c n h.0, h.1);
        each = of_each EntryHolds _ (each_changed EntryHolds c n h.2 all_hold);
      }

-- and its numbers different and of 16 bits; and so does any accepted operation
module _ (n : Node) (k : Kept n) where
  all_short : Each Short n.entries
  all_short = each_of Short n.entries k.short

  differ : NumbersDiffer n.entries
  differ = k.valid.numbers

  differ_changed : (c : Change) → operation_check (changing c) n ≡ accepted → NumbersDiffer (changed c n).entries
  unfolding changed operation_check_by change_check_by
  differ_changed (inserting p e) a = differ_inserted p e n.entries differ (insert_accepted n p e a).3
  differ_changed (removing p) a = differ_removed p n.entries differ
  differ_changed (replacing p e) a = differ_replaced p e n.entries differ (replace_accepted n p e a).2
  differ_changed (setting_levels levels) a = differ

  new_short : (c : Change) → CallableChange c → Each Short (new_of c)
  new_short (inserting p e) h = (h, tt)
  new_short (removing p) h = tt
  new_short (replacing p e) h = (h, tt)
  new_short (setting_levels levels) h = tt

  pub kept_changed : (c : Change) → CallableChange c → operation_check (changing c) n ≡ accepted → Kept (changed c n)
  kept_changed c h a =
      record {
        valid = record { within = holds_changed n k.valid.within c a; numbers = differ_changed c a };
        short = of_each Short _ (each_changed Short c n (new_short c h) all_short);
      }

  pub kept_made : (o : Operation) → Callable o → operation_check o n ≡ accepted → Kept (made o n)
  unfolding operation_check_by
  kept_made (opening levels) c a = let h = levels_accepted levels a in kept_empty levels h.0 h.1
  kept_made (changing x) c a = kept_changed x c a
  kept_made (asking q) c a = k

module _ (o : Operation) (n : Node) where
  pub node_changed : operation_check o n ≡ accepted → node_after o n ≡ made o n
  unfolding node_after_by
  node_changed p = rw (p, node_after_by)

  pub node_kept : (r : Numbered) → operation_check o n ≡ refused r → node_after o n ≡ n
  unfolding node_after_by
  node_kept r p = rw (p, node_after_by)

-- what a session that is lent holds passes the checks of a node, so that its own checks decide
pub lent_within : (o : Operation) (n : Node) → NodeValid n → lent_check o n ≡ accepted
unfolding lent_check_by
lent_within (opening levels) n h = refl
lent_within (changing c) n h = (node_accepted 0 n).1 h
lent_within (asking q) n h = (node_accepted 0 n).1 h

pub own_checks : (o : Operation) (n : Node) → NodeValid n → step_check o n ≡ operation_check o n
own_checks o n h = lent_goes_on o n (lent_within o n h)

-- what an operation makes of the session of a node is the session of what it makes of the node
made_session : (o : Operation) (n : Node) → Kept n → session_made o (session_of n) ≡ session_of (made o n)
unfolding changed session_with
made_session (opening levels) n k = refl
made_session (changing (inserting p e)) n k = ap (λ m. session_of (changed (inserting p e) m)) (read_back n k)
made_session (changing (removing p)) n k = ap (λ m. session_of (changed (removing p) m)) (read_back n k)
made_session (changing (replacing p e)) n k = ap (λ m. session_of (changed (replacing p e) m)) (read_back n k)
made_session (changing (setting_levels l)) n k =
    ap (λ m. session_with (store_at_levels completion_test n.levels (changed (setting_levels l) m) (store_of n)) (changed (setting_levels l) m)) (read_back n k)
    ∙ ap (λ st. session_with st (changed (setting_levels l) n)) (levels_set n k.valid.within l)
made_session (asking q) n k = refl

-- what is asked of the session of a node is what is worked out from the node
module _ (n : Node) (k : Kept n) where
  pub ask_right : (q : Query) → ask_check q (session_of n) ≡ query_check_by rules q n
  unfolding ask_check session_with query_check_by
  ask_right (mapping room) = stored.map_check_lem n k.valid.within room
  ask_right (timing first last i) = ap (query_check_by rules (timing first last i)) (read_back n k)
  ask_right (map_timing i) = stored.time_check_lem n k.valid.within i

  pub call_right : (o : Operation) → call_check o (session_of n) ≡ step_check o n
  unfolding call_check step_check_by lent_check_by operation_check_by
  call_right (opening levels) = ap (step_check (opening levels)) (read_back n k)
  call_right (changing c) = ap (step_check (changing c)) (read_back n k)
  call_right (asking q) = ap₂ (λ a b. a and_then b) (ap (node_check 0) (read_back n k)) (ask_right q)

-- one step
module _ (o : Operation) (n : Node) (k : Kept n) where
  answer : step_check o (node_in (session_of n)) ≡ operation_check o n
  answer = ap (step_check o) (read_back n k) ∙ own_checks o n k.valid

  call_answer : call_check o (session_of n) ≡ operation_check o n
  call_answer = call_right n k o ∙ own_checks o n k.valid

  step_session : session_after o (session_of n) ≡ session_of (node_after o n)
  step_session =
      ⊎_elim
      (λ p.
      after_accepted o (session_of n) (answer ∙ p)
      ∙ made_session o n k
      ∙ ap session_of (sym (node_changed o n p)))
      (λ p. after_refused o (session_of n) p.0 (answer ∙ p.1) ∙ ap session_of (sym (node_kept o n p.0 p.1)))
      (either (operation_check o n))

  step_kept : Callable o → Kept (node_after o n)
  step_kept c =
      ⊎_elim
      (λ p. rw (node_changed o n p) (kept_made n k o c p))
      (λ p. rw (node_kept o n p.0 p.1) k)
      (either (operation_check o n))

-- all of them
pub rows_session : (os : List Operation) (n : Node) → Kept n → AllCallable os
    → session_after_all os (session_of n) ≡ session_of (node_after_all os n)
unfolding session_after_all node_after_all_by
rows_session [] n k c = refl
rows_session (o ∷ os) n k c =
    ap (session_after_all os) (step_session o n k) ∙ rows_session os (node_after o n) (step_kept o n k c.0) c.1

pub rows_answers : (os : List Operation) (n : Node) → Kept n → AllCallable os → answers_of os (session_of n) ≡ answers_all os n
unfolding answers_of answers_all_by
rows_answers [] n k c = refl
rows_answers (o ∷ os) n k c =
    ap (λ a. a ∷ answers_of os (session_after o (session_of n))) (call_answer o n k)
    ∙ ap (λ xs. operation_check o n ∷ xs)
    (ap (answers_of os) (step_session o n k) ∙ rows_answers os (node_after o n) (step_kept o n k c.0) c.1)

pub rows_kept : (os : List Operation) (n : Node) → Kept n → AllCallable os → Kept (node_after_all os n)
unfolding node_after_all_by
rows_kept [] n k c = k
rows_kept (o ∷ os) n k c = rows_kept os (node_after o n) (step_kept o n k c.0) c.1
