-- Where every J is 0, a session answers as it did before entries had a jitter, and holds the same.
use Prim.Native.Nat.{ℕ}
use mathlib.Core.Path.{◌≡◌, ◌∙◌, refl, ap, ap₂}
use mathlib.Core.Logic.{⊎_elim}
use mathlib.Core.List.{List, [], ◌∷◌}
use native.Mathlib.Omega.{arith}
use lib.ListN.{length}
use lib.Dec.{leb, ltb}
use Rattle.refusals.specs.Refusals.{at, accepted, refused, ◌and_then◌, must_hold}
use Rattle.refusals.specs.Answers.{giving}
use Rattle.refusals.proofs.Outcomes.{either}
use Rattle.task_model.specs.declared.Entry.{Entry}
use Rattle.task_model.specs.Limits.{most_entries, Node}
use Rattle.task_model.specs.WithoutJitter.{Punctual}
use Rattle.task_model.proofs.WithoutJitter.{entry_punctual, node_punctual}
use Rattle.node_words.specs.Lists.{remove_at}
use Rattle.node_words.proofs.Lists.{Each, each_of, of_each}
use Rattle.session.proofs.Checking.{new_of}
use Rattle.session.proofs.Changing.{each_changed}
use Rattle.completion.specs.Group.{group_level}
use Rattle.completion.proofs.WithoutJitter.{test_punctual}
use Rattle.level_map.specs.Assignments.{level_of, levels_used}
use Rattle.level_map.proofs.WithoutJitter.{levels_punctual, held_check_punctual}
use Rattle.session.specs.Operations.{
  rules,
  Change,
  inserting,
  removing,
  replacing,
  setting_levels,
  mapping,
  timing,
  map_timing,
  Operation,
  opening,
  changing,
  asking,
  others_check,
  change_check_by,
  query_check_by,
  operation_check,
  operation_check_by,
  empty_node,
  changed,
  made,
  node_after,
  node_after_by,
  node_after_all,
  node_after_all_by,
  answers_all,
  answers_all_by,
  lent_check,
  lent_check_by,
  step_check,
  step_check_by,
}
use Rattle.session.proofs.Sequences.{node_changed, node_kept}
use Rattle.session.specs.Mapping.{map_answer, map_answer_by, map_time_answer, map_time_answer_by}
use Rattle.session.specs.Timing.{time_answer, time_answer_by}
use Rattle.session.specs.declared.Session.{Session}
use Rattle.completion.specs.Test.{time_in}
use Rattle.completion.specs.WithoutJitter.{punctual_test}
use Rattle.map_store.proofs.WithoutJitter.{store_punctual, at_levels_punctual, fresh_check_punctual}
use Rattle.session.specs.State.{node_in, session_with}
use Rattle.session.specs.Steps.{store_after_by, session_made, session_made_by, session_after, session_after_by}
use Rattle.session.specs.InWords.{session_in, words_left, words_after, words_after_by}
use Rattle.session.specs.WithoutJitter.{punctual_rules, PunctualChange, PunctualOperation, AllPunctual}

abbrev NoJitter : Entry → Type 0
NoJitter e = e.jitter ≡ 0

module _ (n : Node) where
  change_punctual : (c : Change) → PunctualChange c → change_check_by rules c n ≡ change_check_by punctual_rules c n
  unfolding change_check_by
  change_punctual (inserting position e) z =
      ap
      (λ o.
      must_hold (leb position (length n.entries)) (at 12 0 0)
      and_then must_hold (ltb (length n.entries) most_entries) (at 13 0 0)
      and_then o
      and_then others_check position e n.entries)
      (entry_punctual e z 0 position)
  change_punctual (removing position) z = refl
  change_punctual (replacing position e) z =
      ap
      (λ o.
      must_hold (ltb position (length n.entries)) (at 12 0 0)
      and_then o
      and_then others_check position e (remove_at position n.entries))
      (entry_punctual e z 0 position)
  change_punctual (setting_levels levels) z = refl

  module _ (punctual : Punctual n.entries) where
    operation_punctual : (o : Operation) → PunctualOperation o → operation_check o n ≡ operation_check_by punctual_rules o n
    unfolding operation_check_by query_check_by
    operation_punctual (opening levels) z = refl
    operation_punctual (changing c) z = change_punctual c z
    operation_punctual (asking (mapping room)) z = held_check_punctual n punctual room
    operation_punctual (asking (timing first last i)) z = refl
    operation_punctual (asking (map_timing i)) z = fresh_check_punctual n punctual i

    lent_punctual : (o : Operation) → lent_check o n ≡ lent_check_by punctual_rules o n
    unfolding lent_check_by
    lent_punctual (opening levels) = refl
    lent_punctual (changing c) = node_punctual n punctual 0
    lent_punctual (asking q) = node_punctual n punctual 0

    -- The checks of a call are those without J.
    pub step_punctual : (o : Operation) → PunctualOperation o → step_check o n ≡ step_check_by punctual_rules o n
    unfolding step_check_by
    step_punctual o z = ap₂ (λ a b. a and_then b) (lent_punctual o) (operation_punctual o z)

    -- Timing answers as without J.
    pub time_punctual : (first last i : ℕ) → time_answer n first last i ≡ time_answer_by punctual_rules n first last i
    unfolding time_answer_by
    time_punctual first last i =
        ap₂ giving (step_punctual (asking (timing first last i)) tt) (test_punctual n.entries punctual (group_level first last) i)

    -- So does mapping.
    pub map_answer_punctual : (room : ℕ) → map_answer n room ≡ map_answer_by punctual_rules n room
    unfolding map_answer_by
    map_answer_punctual room =
        ap₂ giving (step_punctual (asking (mapping room)) tt) (ap levels_used (levels_punctual n punctual))

    -- And so does timing under the map.
    pub map_time_punctual : (i : ℕ) → map_time_answer n i ≡ map_time_answer_by punctual_rules n i
    unfolding map_time_answer_by
    map_time_punctual i =
        ap₂ giving (step_punctual (asking (map_timing i)) tt)
        (ap time_in (test_punctual n.entries punctual _ i)
        ∙ ap (λ m. time_in (punctual_test n.entries (level_of m) i)) (levels_punctual n punctual))

    -- An operation leaves the same node,
    pub after_punctual : (o : Operation) → PunctualOperation o → node_after o n ≡ node_after_by punctual_rules o n
    unfolding node_after_by
    after_punctual o z = ap (λ x. elim x [ accepted ↦ made o n | refused r ↦ n ]) (operation_punctual o z)

    new_punctual : (c : Change) → PunctualChange c → Each NoJitter (new_of c)
    new_punctual (inserting position e) z = (z, tt)
    new_punctual (removing position) z = tt
    new_punctual (replacing position e) z = (z, tt)
    new_punctual (setting_levels levels) z = tt

    changed_punctual : (c : Change) → PunctualChange c → Punctual (changed c n).entries
    changed_punctual c z =
        of_each NoJitter _ (each_changed NoJitter c n (new_punctual c z) (each_of NoJitter n.entries punctual))

    made_punctual : (o : Operation) → PunctualOperation o → Punctual (made o n).entries
    made_punctual (opening levels) z = λ j h. absurd (omega arith)
    made_punctual (changing c) z = changed_punctual c z
    made_punctual (asking q) z = punctual

    -- in which every J is 0 again,
    pub stays_punctual : (o : Operation) → PunctualOperation o → Punctual (node_after o n).entries
    stays_punctual o z =
        ⊎_elim
        (λ p. rw (node_changed o n p) (made_punctual o z))
        (λ p. rw (node_kept o n p.0 p.1) punctual)
        (either (operation_check o n))

-- and so a sequence of operations leaves the same node, with the same answers.
pub sequence_punctual : (os : List Operation) → AllPunctual os → (n : Node) → Punctual n.entries
    → (node_after_all os n ≡ node_after_all_by punctual_rules os n) × (answers_all os n ≡ answers_all_by punctual_rules os n)
unfolding node_after_all_by answers_all_by
sequence_punctual [] z n h = (refl, refl)
sequence_punctual (o ∷ os) z n h =
    let later = sequence_punctual os z.1 (node_after o n) (stays_punctual n h o z.0) in
    let same = after_punctual n h o z.0 in (
      later.0 ∙ ap (node_after_all_by punctual_rules os) same,
      ap₂ ◌∷◌ (operation_punctual n h o z.0) (later.1 ∙ ap (answers_all_by punctual_rules os) same),
    )

-- what an accepted operation makes
module _ (s : Session) (h : Punctual (node_in s).entries) where
  store_after : (c : Change) → PunctualChange c → store_after_by rules c s ≡ store_after_by punctual_rules c s
  store_after (inserting position e) z = store_punctual _ (changed_punctual (node_in s) h (inserting position e) z)
  store_after (removing position) z = store_punctual _ (changed_punctual (node_in s) h (removing position) z)
  store_after (replacing position e) z = store_punctual _ (changed_punctual (node_in s) h (replacing position e) z)
  store_after (setting_levels levels) z =
      at_levels_punctual _ (changed_punctual (node_in s) h (setting_levels levels) z) s.levels s.store

  made_same : (o : Operation) → PunctualOperation o → session_made o s ≡ session_made_by punctual_rules o s
  made_same (opening levels) z = ap (λ l. session_with l (empty_node levels)) (store_punctual (empty_node levels) (λ j l. absurd (omega arith)))
  made_same (changing c) z = ap (λ l. session_with l (changed c (node_in s))) (store_after c z)
  made_same (asking q) z = refl

-- An operation on a lent session, whatever made it, leaves the session that it left before entries had a jitter, with the
-- store under the test without J.
pub session_punctual : (o : Operation) → PunctualOperation o → (s : Session) → Punctual (node_in s).entries
    → session_after o s ≡ session_after_by punctual_rules o s
unfolding session_after_by
session_punctual o z s h =
    ap₂ (λ x made. elim x [ accepted ↦ made | refused r ↦ s ]) (step_punctual (node_in s) h o z) (made_same s h o z)

-- And so do the words that hold one.
pub words_punctual : (o : Operation) → PunctualOperation o → (w : List ℕ) → Punctual (node_in (session_in w)).entries
    → words_after o w ≡ words_after_by punctual_rules o w
unfolding words_after_by
words_punctual o z w h =
    ap₂ (λ x made. words_left x made w) (step_punctual (node_in (session_in w)) h o z) (session_punctual o z (session_in w) h)
