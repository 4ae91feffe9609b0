-- Laws of the limits and the checks: from a test's result to facts about numbers, and from a check's outcome to limits.
use Prim.Native.Nat.{ℕ, suc, ◌-◌, ◌≤◌, ◌<◌}
use mathlib.Core.Path.{◌≡◌, ◌∙◌, sym}
use mathlib.Core.Bool.{true, false}
use mathlib.Core.Logic.{⊎_elim}
use mathlib.Core.List.{List, ◌∷◌}
use lib.ListN.{length}
use native.Mathlib.Omega.{arith}
use lib.Dec.{ltb}
use borrow.Author.Tests.{leb-true, ltb-true, ltb-false, le-leb, lt-leb, ne_eqb}
use Rattle.task_model.proofs.Tests.{and_true, true_or_false, decided}
use Rattle.task_model.specs.declared.Entry.{Entry}
use Rattle.refusals.specs.Refusals.{Numbered, at, Outcome, accepted, refused}
use Rattle.refusals.proofs.Outcomes.{then_refused, then_accepted, both_accepted}
use Rattle.task_model.specs.Limits.{most_ticks, most_levels, most_entries, Node, TimesHold, JitterHolds}
use Rattle.task_model.specs.Checks.{kind_test, times_test, jitter_test, entry_check, entries_by, numbers_check, body_by, size_test, node_check_by, node_check, body_check}

-- 7
module _ (kind calls : ℕ) where
  pub task_calls : kind ≡ 1 → calls ≤ 15 → kind_test kind calls ≡ true
  unfolding kind_test
  task_calls k h = rw (k, le-leb calls 15 h)

  pub task_over : kind ≡ 1 → 15 < calls → kind_test kind calls ≡ false
  unfolding kind_test
  task_over k h = rw (k, lt-leb calls 15 h)

  pub section_alone : kind ≡ 2 → calls ≡ 0 → kind_test kind calls ≡ true
  unfolding kind_test
  section_alone k h = rw (k, h)

  pub section_calls : kind ≡ 2 → (calls ≡ 0 → ⊥) → kind_test kind calls ≡ false
  unfolding kind_test
  section_calls k h = rw (k, ne_eqb calls 0 h)

  pub no_kind : (kind ≡ 1 → ⊥) → (kind ≡ 2 → ⊥) → kind_test kind calls ≡ false
  unfolding kind_test
  no_kind h k = rw (ne_eqb kind 1 h, ne_eqb kind 2 k)

  -- the test by the first count of calls that a kind does not allow
  pub task_end : kind ≡ 1 → ltb calls 16 ≡ kind_test kind calls
  task_end k =
      ⊎_elim (λ l. let c = ltb-true calls 16 l in l ∙ sym (task_calls k (omega arith)))
      (λ l. let c = ltb-false calls 16 l in l ∙ sym (task_over k (omega arith)))
      (true_or_false (ltb calls 16))

  pub section_end : kind ≡ 2 → ltb calls 1 ≡ kind_test kind calls
  section_end k =
      ⊎_elim (λ l. let c = ltb-true calls 1 l in l ∙ sym (section_alone k (omega arith)))
      (λ l. let c = ltb-false calls 1 l in l ∙ sym (section_calls k (λ z. omega arith)))
      (true_or_false (ltb calls 1))

  pub other_end : (kind ≡ 1 → ⊥) → (kind ≡ 2 → ⊥) → ltb calls 0 ≡ kind_test kind calls
  other_end h k =
      ⊎_elim (λ l. let c = ltb-true calls 0 l in absurd (omega arith)) (λ l. l ∙ sym (no_kind h k)) (true_or_false (ltb calls 0))

-- 8
module _ (e : Entry) where
  pub times_true : TimesHold e → times_test e ≡ true
  unfolding times_test
  times_true h =
      rw (
        le-leb 1 e.wcet h.runs,
        le-leb e.wcet e.deadline h.due,
        le-leb e.deadline e.period h.periodic,
        le-leb e.period most_ticks h.longest,
        le-leb e.blocking most_ticks h.blocked,
      )

  pub times_hold : times_test e ≡ true → TimesHold e
  unfolding times_test
  times_hold p =
      let p1 = and_true _ _ p in
      let p2 = and_true _ _ p1.0 in
      let p3 = and_true _ _ p2.0 in
      let p4 = and_true _ _ p3.0 in
      record {
        runs = leb-true _ _ p4.0;
        due = leb-true _ _ p4.1;
        periodic = leb-true _ _ p3.1;
        longest = leb-true _ _ p2.1;
        blocked = leb-true _ _ p1.1;
      }

  pub times_false : (TimesHold e → ⊥) → times_test e ≡ false
  times_false n = decided (times_test e) times_hold n

-- 14
module _ (e : Entry) where
  pub jitter_true : JitterHolds e → jitter_test e ≡ true
  unfolding jitter_test
  jitter_true h = le-leb e.jitter (e.deadline - e.wcet) h

  pub jitter_hold : jitter_test e ≡ true → JitterHolds e
  unfolding jitter_test
  jitter_hold p = leb-true _ _ p

  pub jitter_false : (JitterHolds e → ⊥) → jitter_test e ≡ false
  jitter_false n = decided (jitter_test e) jitter_hold n

pub sizes_true : (levels count : ℕ) → 1 ≤ levels → levels ≤ most_levels → count ≤ most_entries → size_test levels count ≡ true
unfolding size_test
sizes_true levels count h1 h2 h3 = rw (le-leb 1 levels h1, le-leb levels most_levels h2, le-leb count most_entries h3)

pub sizes_hold : {levels count : ℕ} → size_test levels count ≡ true → (1 ≤ levels) × (levels ≤ most_levels) × (count ≤ most_entries)
unfolding size_test
sizes_hold p =
    let p1 = and_true _ _ p in
    let p2 = and_true _ _ p1.0 in
    (leb-true _ _ p2.0, leb-true _ _ p2.1, leb-true _ _ p1.1)

-- 7, then 8, then 14
module _ (row position : ℕ) (e : Entry) where
  pub check_kind : kind_test e.kind e.calls ≡ false → entry_check row position e ≡ refused (at 7 row position)
  unfolding entry_check
  check_kind p = rw p

  pub check_times : kind_test e.kind e.calls ≡ true → times_test e ≡ false
      → entry_check row position e ≡ refused (at 8 row position)
  unfolding entry_check
  check_times p q = rw (p, q)

  pub check_jitter : kind_test e.kind e.calls ≡ true → times_test e ≡ true → jitter_test e ≡ false
      → entry_check row position e ≡ refused (at 14 row position)
  unfolding entry_check
  check_jitter p q r = rw (p, q, r)

  pub check_accepts : kind_test e.kind e.calls ≡ true → times_test e ≡ true → jitter_test e ≡ true
      → entry_check row position e ≡ accepted
  unfolding entry_check
  check_accepts p q r = rw (p, q, r)

-- entry by entry, for any check of one entry
module _ (check : ℕ → Entry → Outcome) (position : ℕ) (e : Entry) (es : List Entry) where
  pub entries_next : check position e ≡ accepted → entries_by check position (e ∷ es) ≡ entries_by check (suc position) es
  unfolding entries_by
  entries_next p = rw p

  pub entries_stop : (r : Numbered) → check position e ≡ refused r → entries_by check position (e ∷ es) ≡ refused r
  unfolding entries_by
  entries_stop r p = rw p

-- the entries at a row, by any check of one entry, and then their numbers
module _ (check : ℕ → ℕ → Entry → Outcome) (row : ℕ) (es : List Entry) where
  pub body_entries : (r : Numbered) → entries_by (check row) 0 es ≡ refused r → body_by check row es ≡ refused r
  unfolding body_by
  body_entries r p = then_refused _ _ r p

  pub body_numbers : entries_by (check row) 0 es ≡ accepted → body_by check row es ≡ numbers_check row es
  unfolding body_by
  body_numbers p = then_accepted _ _ p

  pub body_both : body_by check row es ≡ accepted → (entries_by (check row) 0 es ≡ accepted) × (numbers_check row es ≡ accepted)
  unfolding body_by
  body_both p = both_accepted _ _ p

-- 4, then the entries
module _ (row : ℕ) (n : Node) where
  pub node_sizes : ((1 ≤ n.levels) → (n.levels ≤ most_levels) → (length n.entries ≤ most_entries) → ⊥) → node_check row n ≡ refused (at 4 row 0)
  unfolding node_check_by
  node_sizes out =
      rw (decided (size_test n.levels (length n.entries)) sizes_hold (λ h. out h.0 h.1 h.2))

  pub node_entries : 1 ≤ n.levels → n.levels ≤ most_levels → length n.entries ≤ most_entries
      → node_check row n ≡ body_check row n.entries
  unfolding node_check_by
  node_entries h1 h2 h3 = rw (sizes_true n.levels (length n.entries) h1 h2 h3)
