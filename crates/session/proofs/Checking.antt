-- Laws of checks in sequence, and of the session that a call leaves after them.
use Prim.Native.Nat.{ℕ, ◌+◌, ◌-◌, ◌≤◌, ◌<◌}
use mathlib.Core.Path.{◌≡◌, ◌∙◌, sym, ap}
use mathlib.Core.Bool.{Bool, true, false, not, ◌&&◌}
use mathlib.Core.List.{List, [], ◌∷◌}
use native.Mathlib.Omega.{arith}
use lib.ListN.{length}
use lib.Dec.{leb, ltb}
use borrow.Author.Tests.{le-leb, lt-leb, lt-ltb, le-ltb, leb-true, ltb-true, not-true}
use Rattle.task_model.specs.declared.Entry.{Entry}
use Rattle.refusals.specs.Refusals.{Numbered, Outcome, at, accepted, refused, ◌and_then◌, must_hold}
use Rattle.task_model.specs.Limits.{most_levels, most_entries, Node, EntryHolds, AllHold}
use Rattle.task_model.specs.Checks.{entry_check, has_number, node_check}
use Rattle.node_words.specs.Words.{node_of}
use Rattle.node_words.specs.Lists.{remove_at}
use Rattle.task_model.proofs.Tests.{and_true, decided}
use Rattle.node_words.proofs.Entries.{length-entries}
use Rattle.task_model.proofs.Theorems.{entry_accepted, node_accepted}
use Rattle.completion.specs.Group.{group_level}
use Rattle.completion.specs.Test.{completion_test}
use Rattle.refusals.proofs.Outcomes.{then_refused, then_accepted, then_assoc, both_accepted, must_hold-refuses, demanded}
use Rattle.session.specs.declared.Session.{Session}
use Rattle.session.specs.State.{node_in}
use Rattle.session.specs.Operations.{
  changing,
  asking,
  Change,
  Operation,
  inserting,
  removing,
  replacing,
  setting_levels,
  timing,
  levels_check,
  others_check,
  change_check_by,
  query_check_by,
  operation_check,
  operation_check_by,
  lent_check,
  lent_check_by,
  step_check,
  step_check_by,
}
use Rattle.refusals.specs.Answers.{gives, refuses}
use Rattle.session.specs.Timing.{time_answer, time_answer_by}
use Rattle.session.specs.Steps.{session_made, session_after, session_after_by}

-- 1 to 64 levels
pub levels_low : (levels : ℕ) → levels < 1 → levels_check levels ≡ refused (at 4 0 0)
unfolding levels_check
levels_low levels h = rw (lt-leb 1 levels h)

pub levels_high : (levels : ℕ) → 1 ≤ levels → most_levels < levels → levels_check levels ≡ refused (at 4 0 0)
unfolding levels_check
levels_high levels l h = rw (le-leb 1 levels l, lt-leb levels most_levels h)

pub levels_within : (levels : ℕ) → 1 ≤ levels → levels ≤ most_levels → levels_check levels ≡ accepted
unfolding levels_check
levels_within levels l h = rw (le-leb 1 levels l, le-leb levels most_levels h)

pub levels_accepted : (levels : ℕ) → levels_check levels ≡ accepted → (1 ≤ levels) × (levels ≤ most_levels)
unfolding levels_check
levels_accepted levels a =
    let q = and_true _ _ (demanded _ _ a) in
    (leb-true _ _ q.0, leb-true _ _ q.1)

-- a session that is lent, and then the operation's own checks
module _ (o : Operation) (n : Node) where
  pub lent_stops : (r : Numbered) → lent_check o n ≡ refused r → step_check o n ≡ refused r
  unfolding step_check_by
  lent_stops r p = then_refused _ _ r p

  pub lent_goes_on : lent_check o n ≡ accepted → step_check o n ≡ operation_check o n
  unfolding step_check_by
  lent_goes_on p = then_accepted _ _ p

  pub step_accepted : step_check o n ≡ accepted → (lent_check o n ≡ accepted) × (operation_check o n ≡ accepted)
  unfolding step_check_by
  step_accepted p = both_accepted _ _ p

-- a new entry among others: its fields, and then its number
module _ (p : ℕ) (e : Entry) (others : List Entry) where
  abbrev pub new_check : Outcome
  new_check = entry_check 0 p e and_then others_check p e others

  pub others_free : has_number e.number others ≡ false → others_check p e others ≡ accepted
  unfolding others_check
  others_free q = rw q

  pub others_new : others_check p e others ≡ accepted → has_number e.number others ≡ false
  unfolding others_check
  others_new a = not-true _ (demanded _ _ a)

  pub new_taken : entry_check 0 p e ≡ accepted → has_number e.number others ≡ true → new_check ≡ refused (at 16 0 p)
  unfolding others_check
  new_taken a q = rw (a, q)

  pub new_accepted : new_check ≡ accepted → EntryHolds e × (has_number e.number others ≡ false)
  new_accepted a = let q = both_accepted _ _ a in ((entry_accepted 0 p e).0 q.0, others_new q.1)

  -- the same, of whether the others have the number
  pub new_checked : {o : Outcome} (taken : Bool) → taken ≡ has_number e.number others
      → o ≡ (entry_check 0 p e and_then must_hold (not taken) (at 16 0 p)) → o ≡ new_check
  unfolding others_check
  new_checked taken q h = h ∙ ap (λ (x : Bool). entry_check 0 p e and_then must_hold (not x) (at 16 0 p)) q

-- each operation's checks
module _ (n : Node) (p : ℕ) where
  module _ (e : Entry) where
    pub insert_outside_lem : length n.entries < p → operation_check (changing (inserting p e)) n ≡ refused (at 12 0 0)
    unfolding operation_check_by change_check_by query_check_by
    insert_outside_lem h = rw (lt-leb p (length n.entries) h)

    pub insert_full : p ≤ length n.entries → most_entries ≤ length n.entries → operation_check (changing (inserting p e)) n ≡ refused (at 13 0 0)
    unfolding operation_check_by change_check_by query_check_by
    insert_full h l = rw (le-leb p (length n.entries) h, le-ltb (length n.entries) most_entries l)

    pub insert_entry : p ≤ length n.entries → length n.entries < most_entries
        → operation_check (changing (inserting p e)) n ≡ new_check p e n.entries
    unfolding operation_check_by change_check_by query_check_by
    insert_entry h l = rw (le-leb p (length n.entries) h, lt-ltb (length n.entries) most_entries l)

    pub insert_accepted : operation_check (changing (inserting p e)) n ≡ accepted
        → (p ≤ length n.entries) × (length n.entries < most_entries) × EntryHolds e × (has_number e.number n.entries ≡ false)
    unfolding operation_check_by change_check_by query_check_by
    insert_accepted a =
        let q = both_accepted _ _ a in
        let t = both_accepted _ _ q.1 in
        let m = new_accepted p e n.entries t.1 in
        (leb-true _ _ (demanded _ _ q.0), ltb-true _ _ (demanded _ _ t.0), m.0, m.1)

    pub replace_entry : p < length n.entries → operation_check (changing (replacing p e)) n ≡ new_check p e (remove_at p n.entries)
    unfolding operation_check_by change_check_by query_check_by
    replace_entry h = rw (lt-ltb p (length n.entries) h)

    pub replace_accepted : operation_check (changing (replacing p e)) n ≡ accepted
        → (p < length n.entries) × EntryHolds e × (has_number e.number (remove_at p n.entries) ≡ false)
    unfolding operation_check_by change_check_by query_check_by
    replace_accepted a =
        let q = both_accepted _ _ a in
        let m = new_accepted p e (remove_at p n.entries) q.1 in
        (ltb-true _ _ (demanded _ _ q.0), m.0, m.1)

    -- replacing checks what removing does, and then the entry
    pub replace_step : step_check (changing (replacing p e)) n
        ≡ (step_check (changing (removing p)) n and_then new_check p e (remove_at p n.entries))
    unfolding step_check_by lent_check_by operation_check_by change_check_by
    replace_step = sym (then_assoc (node_check 0 n) _ _)

  pub remove_outside : length n.entries ≤ p → operation_check (changing (removing p)) n ≡ refused (at 12 0 0)
  unfolding operation_check_by change_check_by query_check_by
  remove_outside h = rw (le-ltb p (length n.entries) h)

  pub remove_inside : p < length n.entries → operation_check (changing (removing p)) n ≡ accepted
  unfolding operation_check_by change_check_by query_check_by
  remove_inside h = rw (lt-ltb p (length n.entries) h)

  pub remove_accepted : operation_check (changing (removing p)) n ≡ accepted → p < length n.entries
  unfolding operation_check_by change_check_by query_check_by
  remove_accepted a = ltb-true _ _ (demanded _ _ a)

module _ (n : Node) (first last i : ℕ) where
  pub time_inside : first ≤ i → i ≤ last → last < length n.entries → operation_check (asking (timing first last i)) n ≡ accepted
  unfolding operation_check_by change_check_by query_check_by
  time_inside h l m = rw (le-leb first i h, le-leb i last l, lt-ltb last (length n.entries) m)

  time_bounds : leb first i && leb i last && ltb last (length n.entries) ≡ true
      → (first ≤ i) × (i ≤ last) × (last < length n.entries)
  time_bounds p =
      let q = and_true _ _ p in
      let t = and_true _ _ q.0 in
      (leb-true _ _ t.0, leb-true _ _ t.1, ltb-true _ _ q.1)

  pub time_else : ((first ≤ i) → (i ≤ last) → (last < length n.entries) → ⊥)
      → operation_check (asking (timing first last i)) n ≡ refused (at 12 0 0)
  unfolding operation_check_by change_check_by query_check_by
  time_else out = must_hold-refuses _ _ (decided _ time_bounds (λ h. out h.0 h.1 h.2))

  pub time_accepted : operation_check (asking (timing first last i)) n ≡ accepted
      → (first ≤ i) × (i ≤ last) × (last < length n.entries)
  unfolding operation_check_by change_check_by query_check_by
  time_accepted a = time_bounds (demanded _ _ a)

-- what a call leaves
module _ (o : Operation) (s : Session) where
  pub after_refused : (r : Numbered) → step_check o (node_in s) ≡ refused r → session_after o s ≡ s
  unfolding session_after_by
  after_refused r p = rw (p, session_after_by)

  pub after_accepted : step_check o (node_in s) ≡ accepted → session_after o s ≡ session_made o s
  unfolding session_after_by
  after_accepted p = rw (p, session_after_by)

-- timing
module _ (n : Node) (first last i : ℕ) where
  pub time_refused : (r : Numbered) → step_check (asking (timing first last i)) n ≡ refused r → time_answer n first last i ≡ refuses r
  unfolding time_answer_by
  time_refused r p = rw p

  pub time_given : step_check (asking (timing first last i)) n ≡ accepted
      → time_answer n first last i ≡ gives (completion_test n.entries (group_level first last) i)
  unfolding time_answer_by
  time_given p = rw p

-- a change puts new entries in place of those from a position on that go
abbrev pub position_of : Change → ℕ
position_of (inserting p e) = p
position_of (removing p) = p
position_of (replacing p e) = p
position_of (setting_levels l) = 0

abbrev pub gone_of : Change → ℕ
gone_of (inserting p e) = 0
gone_of (removing p) = 1
gone_of (replacing p e) = 1
gone_of (setting_levels l) = 0

abbrev pub new_of : Change → List Entry
new_of (inserting p e) = e ∷ []
new_of (removing p) = []
new_of (replacing p e) = e ∷ []
new_of (setting_levels l) = []

-- how many entries it leaves of `count`
abbrev pub counted : Change → ℕ → ℕ
counted c count = count - gone_of c + length (new_of c)

-- what an accepted change may go by, on a list of `count` entries
pub record Ready (c : Change) (count : ℕ) : Type 0 where
  pub within : position_of c + gone_of c ≤ count
  pub few : count ≤ most_entries
  pub room : counted c count ≤ most_entries

module _ (ws : List ℕ) (count levels : ℕ) where
  abbrev n : Node
  n = node_of ws count levels

  sized : length n.entries ≡ count
  sized = length-entries ws 0 count

  few : node_check 0 n ≡ accepted → count ≤ most_entries
  few p = omega (arith, ((node_accepted 0 n).0 p).within.few_entries, sized)

  pub change_ready : (c : Change) → step_check (changing c) n ≡ accepted → Ready c count
  unfolding lent_check_by
  change_ready (inserting p e) a =
      let q = insert_accepted n p e (step_accepted _ n a).1 in
      record { within = omega (arith, sized); few = omega (arith, sized); room = omega (arith, sized) }
  change_ready (removing p) a =
      let q = step_accepted _ n a in
      record { within = omega (arith, sized, remove_accepted n p q.1); few = few q.0; room = omega (arith, few q.0) }
  change_ready (replacing p e) a =
      let q = step_accepted _ n a in
      let h = (replace_accepted n p e q.1).0 in
      record { within = omega (arith, sized); few = few q.0; room = omega (arith, sized, few q.0) }
  change_ready (setting_levels l) a =
      let q = step_accepted _ n a in
      record { within = omega arith; few = few q.0; room = omega (arith, few q.0) }

  pub time_ready : (first last i : ℕ) → step_check (asking (timing first last i)) n ≡ accepted
      → AllHold n.entries × ((first ≤ i) × (i ≤ last) × (last < count) × (count ≤ most_entries))
  unfolding lent_check_by
  time_ready first last i a =
      let q = step_accepted (asking (timing first last i)) n a in
      let t = time_accepted n first last i q.1 in
      (((node_accepted 0 n).0 q.0).within.each, (t.0, t.1, omega (arith, sized), few q.0))
