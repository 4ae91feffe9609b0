-- How the checks of a call relate to those before entry numbers were checked.
use mathlib.Core.Path.{◌≡◌, ◌∙◌, refl, sym, ap, ap₂}
use mathlib.Core.Bool.{true≢false}
use mathlib.Core.Logic.{◌↔◌}
use mathlib.Core.List.{List, [], ◌∷◌}
use lib.ListN.{length}
use lib.Dec.{leb, ltb}
use Rattle.refusals.specs.Refusals.{at, Outcome, accepted, refused, ◌and_then◌, must_hold}
use Rattle.refusals.proofs.Outcomes.{then_assoc, then_nothing, both_accepted}
use Rattle.task_model.specs.Limits.{most_entries, Node}
use Rattle.task_model.proofs.Tests.{decided}
use Rattle.task_model.proofs.Numbers.{number_none, none_there}
use Rattle.task_model.proofs.WithoutNumbers.{node_differ, node_fewer}
use Rattle.node_words.specs.Lists.{remove_at}
use Rattle.session.specs.Operations.{
  Rules,
  rules,
  Change,
  inserting,
  removing,
  replacing,
  setting_levels,
  Operation,
  opening,
  changing,
  asking,
  others_check,
  change_check_by,
  operation_check_by,
  lent_check_by,
  step_check_by,
}
use Rattle.session.specs.declared.Session.{Session}
use Rattle.session.specs.State.{node_in}
use Rattle.session.specs.Asking.{ask_check, call_check}
use Rattle.session.specs.Steps.{session_made_by, session_after_by, session_after_all, answers_of}
use Rattle.session.specs.WithoutNumbers.{loose_change_by, loose_operation_by, loose_lent_by, loose_step_by, loose_after_by, loose_call, NewNumber, NumbersOnce, loose_after_all, loose_answers_of, AllOnce}
use Rattle.session.proofs.Numbers.{other_exactly}
use Rattle.session.proofs.Checking.{others_free, others_new}

-- what a change checks of numbers
abbrev number_part : Change → Node → Outcome
number_part (inserting p e) n = others_check p e n.entries
number_part (removing p) n = accepted
number_part (replacing p e) n = others_check p e (remove_at p n.entries)
number_part (setting_levels levels) n = accepted

part_free : (c : Change) (n : Node) → NewNumber c n.entries → number_part c n ≡ accepted
part_free (inserting p e) n new = others_free p e n.entries (number_none e.number n.entries new)
part_free (removing p) n new = refl
part_free (replacing p e) n new =
    others_free p e (remove_at p n.entries)
    (decided _ (other_exactly e.number p n.entries).0 (λ t. new t.0 t.1 t.2 t.3))
part_free (setting_levels levels) n new = refl

part_new : (c : Change) (n : Node) → number_part c n ≡ accepted → NewNumber c n.entries
part_new (inserting p e) n a = none_there e.number n.entries (others_new p e n.entries a)
part_new (removing p) n a = tt
part_new (replacing p e) n a =
    λ i h other same.
    true≢false (sym ((other_exactly e.number p n.entries).1 (i, h, other, same)) ∙ others_new p e (remove_at p n.entries) a)
part_new (setting_levels levels) n a = tt

module _ (by : Rules) (n : Node) where
  -- a change is checked as it was, and then for its number
  change_loose : (c : Change) → change_check_by by c n ≡ loose_change_by by c n and_then number_part c n
  unfolding change_check_by loose_change_by
  change_loose (inserting p e) =
      sym
      (then_assoc (must_hold (leb p (length n.entries)) (at 12 0 0)) _ _
      ∙ ap (λ o. must_hold (leb p (length n.entries)) (at 12 0 0) and_then o)
      (then_assoc (must_hold (ltb (length n.entries) most_entries) (at 13 0 0)) _ _))
  change_loose (removing p) = sym (then_nothing _)
  change_loose (replacing p e) = sym (then_assoc (must_hold (ltb p (length n.entries)) (at 12 0 0)) _ _)
  change_loose (setting_levels levels) = sym (then_nothing _)

  operation_differ : (o : Operation) → NumbersOnce o n → operation_check_by by o n ≡ loose_operation_by by o n
  unfolding operation_check_by loose_operation_by
  operation_differ (opening levels) once = refl
  operation_differ (changing c) once =
      change_loose c ∙ ap (λ o. loose_change_by by c n and_then o) (part_free c n once.1) ∙ then_nothing (loose_change_by by c n)
  operation_differ (asking q) once = refl

  lent_differ : (o : Operation) → NumbersOnce o n → lent_check_by by o n ≡ loose_lent_by by o n
  unfolding lent_check_by loose_lent_by
  lent_differ (opening levels) once = refl
  lent_differ (changing c) once = node_differ by.check 0 n once.0
  lent_differ (asking q) once = node_differ by.check 0 n once

  -- Where no number occurs twice, a call is checked as it was,
  pub step_differ : (o : Operation) → NumbersOnce o n → step_check_by by o n ≡ loose_step_by by o n
  unfolding step_check_by loose_step_by
  step_differ o once = ap₂ (λ a b. a and_then b) (lent_differ o once) (operation_differ o once)

  numbers_once : (o : Operation) → (lent_check_by by o n ≡ accepted) × (operation_check_by by o n ≡ accepted) → NumbersOnce o n
  unfolding lent_check_by operation_check_by
  numbers_once (opening levels) a = tt
  numbers_once (changing c) a =
      (((node_fewer by.check 0 n).0 a.0).1, part_new c n (both_accepted (loose_change_by by c n) _ (sym (change_loose c) ∙ a.1)).1)
  numbers_once (asking q) a = ((node_fewer by.check 0 n).0 a.0).1

  -- and a call is accepted exactly if it was and no number occurs twice.
  pub step_fewer : (o : Operation) → step_check_by by o n ≡ accepted ↔ ((loose_step_by by o n ≡ accepted) × NumbersOnce o n)
  unfolding step_check_by
  step_fewer o = (
    λ a. let once = numbers_once o (both_accepted _ _ a) in (sym (step_differ o once) ∙ a, once),
    λ h. step_differ o h.1 ∙ h.0,
  )

-- So an operation on a lent session leaves what it left before, where no number occurs twice.
pub session_differ : (by : Rules) (o : Operation) (s : Session) → NumbersOnce o (node_in s) → session_after_by by o s ≡ loose_after_by by o s
unfolding session_after_by loose_after_by
session_differ by o s once = ap (λ x. elim x [ accepted ↦ session_made_by by o s | refused r ↦ s ]) (step_differ by (node_in s) o once)

-- It answers as it did too,
pub call_differ : (o : Operation) (s : Session) → NumbersOnce o (node_in s) → call_check o s ≡ loose_call o s
unfolding call_check loose_call
call_differ (opening levels) s once = step_differ rules (node_in s) (opening levels) once
call_differ (changing c) s once = step_differ rules (node_in s) (changing c) once
call_differ (asking q) s once = ap (λ a. a and_then ask_check q s) (node_differ rules.check 0 (node_in s) once)

-- and so do the answers and the contents of any sequence of operations.
pub sequence_differ : (os : List Operation) (s : Session) → AllOnce os s
    → (answers_of os s ≡ loose_answers_of os s) × (session_after_all os s ≡ loose_after_all os s)
unfolding answers_of loose_answers_of session_after_all loose_after_all
sequence_differ [] s once = (refl, refl)
sequence_differ (o ∷ os) s once =
    let e = session_differ rules o s once.0 in
    let t = sequence_differ os (loose_after_by rules o s) once.1 in (
      ap₂ (λ a rest. a ∷ rest) (call_differ o s once.0) (ap (answers_of os) e ∙ t.0),
      ap (session_after_all os) e ∙ t.1,
    )
