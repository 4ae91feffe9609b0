-- When 16 is given: a session that is lent with a repeat, and an entry whose number another entry has.
use Prim.Native.Nat.{ℕ, ◌≤◌, ◌<◌}
use mathlib.Core.Path.{◌≡◌, ◌∙◌, refl, sym, ap}
use mathlib.Core.Bool.{Bool, true, false, not, ◌&&◌}
use mathlib.Core.Logic.{◌⊎◌, inl, inr, ⊎_elim, ◌↔◌}
use mathlib.Core.List.{List}
use native.Mathlib.Omega.{arith}
use lib.ListN.{length}
use lib.Dec.{leb, ltb}
use borrow.Author.Tests.{leb-true, ltb-true, not-false}
use Rattle.refusals.specs.Refusals.{Numbered, at, Outcome, accepted, refused, ◌and_then◌, must_hold}
use Rattle.refusals.proofs.Outcomes.{either, not_both, then_nothing, then_accepted, then_refused, Never, never_must, never_then, after_never, demanded}
use Rattle.task_model.specs.declared.Entry.{Entry}
use Rattle.task_model.specs.Limits.{most_entries, Node, entry_at, EntryHolds, NodeHolds, FirstRepeat, NodeValid}
use Rattle.task_model.specs.Checks.{kind_test, times_test, jitter_test, entry_check, has_number, node_check}
use Rattle.task_model.proofs.Numbers.{number_there, has_number_lem}
use Rattle.task_model.proofs.Theorems.{entry_accepted, node_accepted, node_repeat}
use Rattle.node_words.specs.Lists.{remove_at}
use Rattle.map_store.specs.Store.{has_map}
use Rattle.map_store.specs.Asking.{map_check, time_check}
use Rattle.session.specs.declared.Session.{Session}
use Rattle.session.specs.State.{node_in}
use Rattle.session.specs.Asking.{ask_check, call_check}
use Rattle.session.specs.Operations.{
  Query,
  mapping,
  timing,
  map_timing,
  query_check_by,
  Operation,
  opening,
  changing,
  asking,
  inserting,
  replacing,
  others_check,
  change_check_by,
  operation_check,
  operation_check_by,
  lent_check,
  lent_check_by,
  step_check,
}
use Rattle.session.proofs.Numbers.{other_exactly, number_leaves}
use Rattle.session.proofs.Checking.{new_check, others_free, new_taken, lent_stops, lent_goes_on, insert_entry, replace_entry}
use Rattle.session.proofs.Sequences.{own_checks}

fields_never : (row p : ℕ) (e : Entry) → Never 16 (entry_check row p e)
unfolding entry_check
fields_never row p e =
    never_then 16 _ _ (never_must 16 7 (kind_test e.kind e.calls) row p (λ z. omega arith))
    (never_then 16 _ _ (never_must 16 8 (times_test e) row p (λ z. omega arith))
    (never_must 16 14 (jitter_test e) row p (λ z. omega arith)))

broken : (b : Bool) (s r : Numbered) → must_hold b s ≡ refused r → (b ≡ false) × (r ≡ s)
broken true s r p = absurd (not_both refl p)
broken false s r p = (refl, cc)

-- what was checked before 16 was given
module _ (r : Numbered) (sixteen : r.number ≡ 16) where
  passed : (b : Bool) (m row position : ℕ) → (m ≡ 16 → ⊥) → {o : Outcome} → must_hold b (at m row position) and_then o ≡ refused r
      → (b ≡ true) × (o ≡ refused r)
  passed b m row position n {o} p =
      let t = after_never 16 (must_hold b (at m row position)) o r (never_must 16 m b row position n) sixteen p in
      (demanded b (at m row position) t.0, t.1)

  module _ (p : ℕ) (e : Entry) where
    new_sixteen : (others : List Entry) → new_check p e others ≡ refused r
        → EntryHolds e × (has_number e.number others ≡ true) × (r ≡ at 16 0 p)
    unfolding others_check
    new_sixteen others a =
        let t = after_never 16 (entry_check 0 p e) _ r (fields_never 0 p e) sixteen a in
        let u = broken (not (has_number e.number others)) (at 16 0 p) r t.1 in
        ((entry_accepted 0 p e).0 t.0, not-false _ u.0, u.1)

    insert_sixteen : (n : Node) → operation_check (changing (inserting p e)) n ≡ refused r
        → (p ≤ length n.entries) × (length n.entries < most_entries) × EntryHolds e × (has_number e.number n.entries ≡ true) × (r ≡ at 16 0 p)
    unfolding operation_check_by change_check_by
    insert_sixteen n a =
        let t = passed (leb p (length n.entries)) 12 0 0 (λ z. omega arith) a in
        let u = passed (ltb (length n.entries) most_entries) 13 0 0 (λ z. omega arith) t.1 in
        let m = new_sixteen n.entries u.1 in
        (leb-true _ _ t.0, ltb-true _ _ u.0, m.0, m.1, m.2)

    replace_sixteen : (n : Node) → operation_check (changing (replacing p e)) n ≡ refused r
        → (p < length n.entries) × EntryHolds e × (has_number e.number (remove_at p n.entries) ≡ true) × (r ≡ at 16 0 p)
    unfolding operation_check_by change_check_by
    replace_sixteen n a =
        let t = passed (ltb p (length n.entries)) 12 0 0 (λ z. omega arith) a in
        let m = new_sixteen (remove_at p n.entries) t.1 in
        (ltb-true _ _ t.0, m.0, m.1, m.2)

module _ (n : Node) (p : ℕ) (e : Entry) where
  -- An insert is refused as 16, with row 0 and the named position, exactly if 12, 13, 7, 8 and 14 pass and an entry of the
  -- list has the number.
  pub insert_repeat : operation_check (changing (inserting p e)) n ≡ refused (at 16 0 p)
      ↔ ((p ≤ length n.entries)
      × (length n.entries < most_entries)
      × EntryHolds e
      × (i : ℕ)
      × (i < length n.entries)
      × ((entry_at n.entries i).number ≡ e.number))
  insert_repeat = (
    λ a.
        let t = insert_sixteen (at 16 0 p) refl p e n a in
        let i = number_there e.number n.entries t.3 in
        (t.0, t.1, t.2, i.0, i.1, i.2),
    λ h.
        insert_entry n p e h.0 h.1
        ∙ new_taken p e n.entries ((entry_accepted 0 p e).1 h.2) (has_number_lem e.number n.entries h.3 h.4 h.5),
  )

  -- A replace is refused as 16 exactly if 12, 7, 8 and 14 pass and an entry at another position has the number.
  pub replace_repeat : operation_check (changing (replacing p e)) n ≡ refused (at 16 0 p)
      ↔ ((p < length n.entries)
      × EntryHolds e
      × (i : ℕ)
      × (i < length n.entries)
      × (i ≡ p → ⊥)
      × ((entry_at n.entries i).number ≡ e.number))
  replace_repeat = (
    λ a.
        let t = replace_sixteen (at 16 0 p) refl p e n a in
        let i = (other_exactly e.number p n.entries).0 t.2 in
        (t.0, t.1, i.0, i.1, i.2, i.3),
    λ h.
        replace_entry n p e h.0
        ∙ new_taken p e (remove_at p n.entries) ((entry_accepted 0 p e).1 h.1)
        ((other_exactly e.number p n.entries).1 (h.2, h.3, h.4, h.5)),
  )

  -- 16 names no other place.
  pub insert_place : (r : Numbered) → r.number ≡ 16 → operation_check (changing (inserting p e)) n ≡ refused r → r ≡ at 16 0 p
  insert_place r sixteen a = (insert_sixteen r sixteen p e n a).4

  pub replace_place : (r : Numbered) → r.number ≡ 16 → operation_check (changing (replacing p e)) n ≡ refused r → r ≡ at 16 0 p
  replace_place r sixteen a = (replace_sixteen r sixteen p e n a).3

  -- An entry may be replaced by one with its own number: then the fields alone decide,
  module _ (valid : NodeValid n) (own : e.number ≡ (entry_at n.entries p).number) where
    own_free : p < length n.entries → has_number e.number (remove_at p n.entries) ≡ false
    own_free h = rw own (number_leaves p n.entries valid.numbers h)

    pub replace_own_lem : p < length n.entries → operation_check (changing (replacing p e)) n ≡ entry_check 0 p e
    replace_own_lem h =
        replace_entry n p e h
        ∙ ap (λ o. entry_check 0 p e and_then o) (others_free p e (remove_at p n.entries) (own_free h))
        ∙ then_nothing (entry_check 0 p e)

    -- and 16 is never given.
    pub replace_own_never : (r : Numbered) → r.number ≡ 16 → step_check (changing (replacing p e)) n ≡ refused r → ⊥
    replace_own_never r sixteen a =
        let b = sym (own_checks (changing (replacing p e)) n valid) ∙ a in
        let h = (replace_sixteen r sixteen p e n b).0 in
        fields_never 0 p e r (sym (replace_own_lem h) ∙ b) sixteen

-- A session that is lent is refused as 16 at a position exactly if it is within every limit and the first repeat is there.
pub lent_repeat : (o : Operation) → ((levels : ℕ) → o ≡ opening levels → ⊥) → (n : Node) (j : ℕ)
    → lent_check o n ≡ refused (at 16 0 j) ↔ (NodeHolds n × FirstRepeat n.entries j)
unfolding lent_check_by
lent_repeat (opening levels) out n j = absurd (out levels refl)
lent_repeat (changing c) out n j = node_repeat 0 n j
lent_repeat (asking q) out n j = node_repeat 0 n j

lent_valid : (o : Operation) → ((levels : ℕ) → o ≡ opening levels → ⊥) → (n : Node) → lent_check o n ≡ accepted → NodeValid n
unfolding lent_check_by
lent_valid (opening levels) out n a = absurd (out levels refl)
lent_valid (changing c) out n a = (node_accepted 0 n).0 a
lent_valid (asking q) out n a = (node_accepted 0 n).0 a

-- So a call on it gives 16 exactly if the lent session does, or else if its numbers are all different and the operation does.
pub step_repeat : (o : Operation) → ((levels : ℕ) → o ≡ opening levels → ⊥) → (n : Node) (j : ℕ)
    → step_check o n ≡ refused (at 16 0 j)
    ↔ ((NodeHolds n × FirstRepeat n.entries j) ⊎ (NodeValid n × (operation_check o n ≡ refused (at 16 0 j))))
step_repeat o out n j = (
  λ a.
      ⊎_elim
      (λ p. inr (lent_valid o out n p, sym (lent_goes_on o n p) ∙ a))
      (λ q. inl ((lent_repeat o out n j).0 (q.1 ∙ sym (lent_stops o n q.0 q.1) ∙ a)))
      (either (lent_check o n)),
  λ h.
      ⊎_elim
      (λ l. lent_stops o n (at 16 0 j) ((lent_repeat o out n j).1 l))
      (λ v. own_checks o n v.0 ∙ v.1)
      h,
)

-- the own checks of a query never give 16
ask_never : (q : Query) (s : Session) → Never 16 (ask_check q s)
unfolding ask_check map_check time_check query_check_by
ask_never (mapping room) s =
    never_then 16 _ _ (never_must 16 10 (leb s.count room) 0 0 (λ z. omega arith))
    (never_must 16 11 (has_map s.store s.levels) 0 0 (λ z. omega arith))
ask_never (timing first last i) s =
    never_must 16 12 (leb first i && leb i last && ltb last (length (node_in s).entries)) 0 0 (λ z. omega arith)
ask_never (map_timing i) s =
    never_then 16 _ _ (never_must 16 12 (ltb i s.count) 0 0 (λ z. omega arith))
    (never_must 16 11 (has_map s.store s.levels) 0 0 (λ z. omega arith))

-- So a query gives 16 exactly if the lent session does.
pub call_repeat : (q : Query) (s : Session) (j : ℕ)
    → call_check (asking q) s ≡ refused (at 16 0 j) ↔ (NodeHolds (node_in s) × FirstRepeat (node_in s).entries j)
unfolding call_check
call_repeat q s j = (
  λ a.
      ⊎_elim
      (λ p. absurd (ask_never q s (at 16 0 j) (sym (then_accepted _ _ p) ∙ a) refl))
      (λ r. (node_repeat 0 (node_in s) j).0 (r.1 ∙ sym (then_refused _ (ask_check q s) r.0 r.1) ∙ a))
      (either (node_check 0 (node_in s))),
  λ h. then_refused _ _ _ ((node_repeat 0 (node_in s) j).1 h),
)
