-- What the outcome of a check means: what it accepts is within every limit, and each refusal names a limit that is broken.
use Prim.Native.Nat.{ℕ, ◌≤◌, ◌<◌}
use mathlib.Core.Path.{◌≡◌, ◌∙◌, refl, sym, ap}
use mathlib.Core.Bool.{Bool, true, false, ◌&&◌, true≢false}
use mathlib.Core.Logic.{◌⊎◌, inl, inr, ⊎_elim, ◌↔◌}
use mathlib.Core.List.{List}
use native.Mathlib.Omega.{arith}
use lib.ListN.{length}
use lib.Dec.{leb, eqb}
use borrow.Author.Tests.{leb-true, le-leb, eqb-true}
use Rattle.refusals.proofs.Outcomes.{either, not_both}
use Rattle.task_model.specs.declared.Entry.{Entry}
use Rattle.refusals.specs.Refusals.{Numbered, at, Outcome, accepted, refused}
use Rattle.task_model.specs.Limits.{most_levels, most_entries, Node, entry_at, KindHolds, TimesHold, JitterHolds, EntryHolds, AllHold, NodeHolds, NumbersDiffer, FirstRepeat, NodeValid}
use Rattle.task_model.specs.Checks.{kind_test, times_test, jitter_test, entry_test, entry_check, each_by, entries_check, numbers_check, body_by, body_check, size_test, node_check}
use Rattle.task_model.proofs.Tests.{and_true, true_or_false, decided}
use Rattle.task_model.proofs.Each.{each_from, each_accepted, each_refused}
use Rattle.task_model.proofs.Numbers.{numbers_accepted, numbers_repeat, numbers_refused}
use Rattle.task_model.proofs.Laws.{
  times_true,
  times_hold,
  times_false,
  jitter_true,
  jitter_hold,
  jitter_false,
  check_kind,
  check_times,
  check_jitter,
  check_accepts,
  body_entries,
  body_numbers,
  body_both,
  sizes_hold,
  sizes_true,
  node_sizes,
  node_entries,
}

kind_hold : (e : Entry) → kind_test e.kind e.calls ≡ true → KindHolds e
unfolding kind_test
kind_hold e p =
    ⊎_elim
    (λ q. let h = and_true _ _ q in inl (eqb-true _ _ h.0, leb-true _ _ h.1))
    (λ q. let h = and_true _ _ (rw q at p) in inr (eqb-true _ _ h.0, eqb-true _ _ h.1))
    (true_or_false (eqb e.kind 1 && leb e.calls 15))

kind_true : (e : Entry) → KindHolds e → kind_test e.kind e.calls ≡ true
unfolding kind_test
kind_true e h =
    ⊎_elim
    (λ k. rw (k.0, le-leb e.calls 15 k.1))
    (λ k. rw (k.0, k.1))
    h

number : Outcome → ℕ
number accepted = 0
number (refused r) = r.number

-- refusals with different numbers differ
differ : {r q : Numbered} {o : Outcome} → (r.number ≡ q.number → ⊥) → o ≡ refused r → o ≡ refused q → ⊥
unfolding number
differ n p q = n (ap number (sym p ∙ q))

-- the four outcomes of an entry's check, and what each says of the entry
data Found (row position : ℕ) (e : Entry) : Type 0 where
  bad_kind : entry_check row position e ≡ refused (at 7 row position) → (KindHolds e → ⊥) → Found row position e
  bad_times : entry_check row position e ≡ refused (at 8 row position) → KindHolds e → (TimesHold e → ⊥) → Found row position e
  bad_jitter : entry_check row position e ≡ refused (at 14 row position) → KindHolds e → TimesHold e → (JitterHolds e → ⊥)
      → Found row position e
  within : entry_check row position e ≡ accepted → EntryHolds e → Found row position e

-- a test that says false contradicts the fact that makes it true
failed : {A : Type 0} {b : Bool} → b ≡ false → (A → b ≡ true) → A → ⊥
failed p f h = true≢false (sym (f h) ∙ p)

-- The tests of an entry are true exactly if it is within every limit.
pub entry_tested : (e : Entry) → entry_test e ≡ true ↔ EntryHolds e
unfolding entry_test
entry_tested e = (
  λ p.
      let p1 = and_true _ _ p in
      let p2 = and_true _ _ p1.0 in
      record { kind = kind_hold e p2.0; times = times_hold e p2.1; jitter = jitter_hold e p1.1 },
  λ h. rw (kind_true e h.kind, times_true e h.times, jitter_true e h.jitter),
)

module _ (row position : ℕ) (e : Entry) where
  found : Found row position e
  found =
      ⊎_elim
      (λ k. ⊎_elim
      (λ t. ⊎_elim
      (λ j. within (check_accepts row position e k t j) (record { kind = kind_hold e k; times = times_hold e t; jitter = jitter_hold e j }))
      (λ j. bad_jitter (check_jitter row position e k t j) (kind_hold e k) (times_hold e t) (failed j (jitter_true e)))
      (true_or_false (jitter_test e)))
      (λ t. bad_times (check_times row position e k t) (kind_hold e k) (failed t (times_true e)))
      (true_or_false (times_test e)))
      (λ k. bad_kind (check_kind row position e k) (failed k (kind_true e)))
      (true_or_false (kind_test e.kind e.calls))

  accepted_holds : Found row position e → entry_check row position e ≡ accepted → EntryHolds e
  accepted_holds (bad_kind q n) p = absurd (not_both p q)
  accepted_holds (bad_times q k n) p = absurd (not_both p q)
  accepted_holds (bad_jitter q k t n) p = absurd (not_both p q)
  accepted_holds (within q h) p = h

  -- An entry is accepted exactly if it is within every limit.
  pub entry_accepted : entry_check row position e ≡ accepted ↔ EntryHolds e
  entry_accepted = (
    accepted_holds found,
    λ h. check_accepts row position e (kind_true e h.kind) (times_true e h.times) (jitter_true e h.jitter),
  )

  kind_broken : Found row position e → entry_check row position e ≡ refused (at 7 row position) → KindHolds e → ⊥
  kind_broken (bad_kind q n) p = n
  kind_broken (bad_times q k n) p = absurd (differ (λ z. omega arith) p q)
  kind_broken (bad_jitter q k t n) p = absurd (differ (λ z. omega arith) p q)
  kind_broken (within q h) p = absurd (not_both q p)

  -- It is refused as 7 exactly if its kind with its calls does not hold.
  pub entry_kind : entry_check row position e ≡ refused (at 7 row position) ↔ (KindHolds e → ⊥)
  entry_kind = (kind_broken found, λ n. check_kind row position e (decided _ (kind_hold e) n))

  times_broken : Found row position e → entry_check row position e ≡ refused (at 8 row position)
      → KindHolds e × (TimesHold e → ⊥)
  times_broken (bad_kind q n) p = absurd (differ (λ z. omega arith) p q)
  times_broken (bad_times q k n) p = (k, n)
  times_broken (bad_jitter q k t n) p = absurd (differ (λ z. omega arith) p q)
  times_broken (within q h) p = absurd (not_both q p)

  -- Else it is refused as 8 exactly if its times do not hold.
  pub entry_times : entry_check row position e ≡ refused (at 8 row position) ↔ (KindHolds e × (TimesHold e → ⊥))
  entry_times = (
    times_broken found,
    λ h. check_times row position e (kind_true e h.0) (times_false e h.1),
  )

  jitter_broken : Found row position e → entry_check row position e ≡ refused (at 14 row position)
      → KindHolds e × TimesHold e × (JitterHolds e → ⊥)
  jitter_broken (bad_kind q n) p = absurd (differ (λ z. omega arith) p q)
  jitter_broken (bad_times q k n) p = absurd (differ (λ z. omega arith) p q)
  jitter_broken (bad_jitter q k t n) p = (k, t, n)
  jitter_broken (within q h) p = absurd (not_both q p)

  -- Else it is refused as 14 exactly if its jitter does not hold. So an entry with times that do not hold never gives 14.
  pub entry_jitter : entry_check row position e ≡ refused (at 14 row position)
      ↔ (KindHolds e × TimesHold e × (JitterHolds e → ⊥))
  entry_jitter = (
    jitter_broken found,
    λ h. check_jitter row position e (kind_true e h.0) (times_true e h.1) (jitter_false e h.2),
  )

  -- no other number is that of an entry's check
  no_other : Found row position e → (r : Numbered) → (r.number ≡ 7 → ⊥) → (r.number ≡ 8 → ⊥) → (r.number ≡ 14 → ⊥)
      → entry_check row position e ≡ refused r → ⊥
  no_other (bad_kind q n) r h7 h8 h14 p = differ h7 p q
  no_other (bad_times q k n) r h7 h8 h14 p = differ h8 p q
  no_other (bad_jitter q k t n) r h7 h8 h14 p = differ h14 p q
  no_other (within q h) r h7 h8 h14 p = not_both q p

-- all entries at a row, where the check of one entry accepts exactly what P says
module _ (check : ℕ → ℕ → Entry → Outcome) (P : Entry → Type 0)
    (one : (row p : ℕ) (e : Entry) → check row p e ≡ accepted ↔ P e) (row : ℕ) (es : List Entry) where
  abbrev All : Type 0
  All = (j : ℕ) → j < length es → P (entry_at es j)

  pub each_exactly : each_by check row es ≡ accepted ↔ All
  each_exactly = each_accepted (check row) (λ q e. P e) (one row) es

  pub body_exactly : body_by check row es ≡ accepted ↔ (All × NumbersDiffer es)
  body_exactly = (
    λ a. let q = body_both check row es a in (each_exactly.0 q.0, (numbers_accepted row es).0 q.1),
    λ h. body_numbers check row es (each_exactly.1 h.0) ∙ (numbers_accepted row es).1 h.1,
  )

  -- where the check of an entry never gives 16
  module _ (never : (p : ℕ) (e : Entry) (r : Numbered) → check row p e ≡ refused r → r.number ≡ 16 → ⊥) where
    -- 16 comes from the numbers
    sixteen_numbers : (r : Numbered) → r.number ≡ 16 → body_by check row es ≡ refused r
        → All × (numbers_check row es ≡ refused r)
    sixteen_numbers r z a =
        ⊎_elim
        (λ p. (each_exactly.0 p, sym (body_numbers check row es p) ∙ a))
        (λ q.
        let t = each_refused (check row) (λ p e. P e) (one row) es r (q.1 ∙ sym (body_entries check row es q.0 q.1) ∙ a) in
        absurd (never t.0 _ r t.3 z))
        (either (each_by check row es))

    -- and names the row
    pub sixteen_row : (i j : ℕ) → body_by check row es ≡ refused (at 16 i j) → i ≡ row
    sixteen_row i j a =
        let t = numbers_refused row es (at 16 i j) (sixteen_numbers (at 16 i j) refl a).1 in ap (λ (n : Numbered). n.row) t.2

    pub repeat_exactly : (j : ℕ) → body_by check row es ≡ refused (at 16 row j) ↔ (All × FirstRepeat es j)
    repeat_exactly j = (
      λ a. let t = sixteen_numbers (at 16 row j) refl a in (t.0, (numbers_repeat row es j).0 t.1),
      λ h. body_numbers check row es (each_exactly.1 h.0) ∙ (numbers_repeat row es j).1 h.1,
    )

module _ (row : ℕ) where
  -- Entries are accepted exactly if each is within the limits.
  pub entries_accepted : (p : ℕ) (es : List Entry) → entries_check row p es ≡ accepted ↔ AllHold es
  entries_accepted p es = each_from (entry_check row) (λ q e. EntryHolds e) (entry_accepted row) p es

  -- They are refused exactly as the first entry that is not within the limits is.
  pub entries_refused : (es : List Entry) (r : Numbered) → entries_check row 0 es ≡ refused r
      → (j : ℕ) × (j < length es) × ((i : ℕ) → i < j → EntryHolds (entry_at es i)) × (entry_check row j (entry_at es j) ≡ refused r)
  entries_refused es r a = each_refused (entry_check row) (λ q e. EntryHolds e) (entry_accepted row) es r a

  -- Another number than 7, 8 and 14 is never given for them.
  pub entries_other : (es : List Entry) (r : Numbered) → (r.number ≡ 7 → ⊥) → (r.number ≡ 8 → ⊥) → (r.number ≡ 14 → ⊥)
      → entries_check row 0 es ≡ refused r → ⊥
  entries_other es r h7 h8 h14 a =
      let t = entries_refused es r a in no_other row t.0 _ (found row t.0 _) r h7 h8 h14 t.3

  -- All entries at a row are accepted exactly if each is within the limits and their numbers are all different.
  pub body_accepted : (es : List Entry) → body_check row es ≡ accepted ↔ (AllHold es × NumbersDiffer es)
  body_accepted es = body_exactly entry_check EntryHolds entry_accepted row es

  pub entry_never : (p : ℕ) (e : Entry) (r : Numbered) → entry_check row p e ≡ refused r → r.number ≡ 16 → ⊥
  entry_never p e r a z = no_other row p e (found row p e) r (λ y. omega arith) (λ y. omega arith) (λ y. omega arith) a

  -- They are refused as 16 at a position exactly if each is within the limits and the first repeat is there.
  pub body_repeat : (es : List Entry) (j : ℕ) → body_check row es ≡ refused (at 16 row j) ↔ (AllHold es × FirstRepeat es j)
  body_repeat es j = repeat_exactly entry_check EntryHolds entry_accepted row es entry_never j

  -- A node with sizes within the limits, or refused as 4.
  sizes_or : (n : Node)
      → ((1 ≤ n.levels) × (n.levels ≤ most_levels) × (length n.entries ≤ most_entries)) ⊎ (node_check row n ≡ refused (at 4 row 0))
  sizes_or n =
      ⊎_elim (λ p. inl (sizes_hold p))
      (λ p. inr (node_sizes row n (λ h1 h2 h3. true≢false (sym (sizes_true _ _ h1 h2 h3) ∙ p))))
      (true_or_false (size_test n.levels (length n.entries)))

  -- A node is accepted exactly if it is within every limit and its numbers are all different.
  pub node_accepted : (n : Node) → node_check row n ≡ accepted ↔ NodeValid n
  node_accepted n = (
    λ a.
        ⊎_elim
        (λ h.
        let b = (body_accepted n.entries).0 (sym (node_entries row n h.0 h.1 h.2) ∙ a) in
        record {
          within = record { some_levels = h.0; few_levels = h.1; few_entries = h.2; each = b.0 };
          numbers = b.1;
        })
        (λ p. absurd (not_both a p))
        (sizes_or n),
    λ h.
        let w = h.within in
        node_entries row n w.some_levels w.few_levels w.few_entries ∙ (body_accepted n.entries).1 (w.each, h.numbers),
  )

  -- It is refused as 16 at a position exactly if it is within every limit and the first repeat is there.
  pub node_repeat : (n : Node) (j : ℕ) → node_check row n ≡ refused (at 16 row j) ↔ (NodeHolds n × FirstRepeat n.entries j)
  node_repeat n j = (
    λ a.
        ⊎_elim
        (λ h.
        let b = (body_repeat n.entries j).0 (sym (node_entries row n h.0 h.1 h.2) ∙ a) in
        (record { some_levels = h.0; few_levels = h.1; few_entries = h.2; each = b.0 }, b.1))
        (λ p. absurd (differ (λ z. omega arith) a p))
        (sizes_or n),
    λ h.
        let w = h.0 in
        node_entries row n w.some_levels w.few_levels w.few_entries ∙ (body_repeat n.entries j).1 (w.each, h.1),
  )

  -- It is refused as 4 exactly if its sizes are outside: not 1 to 64 levels, or more than 64 entries.
  pub sizes_refused : (n : Node)
      → node_check row n ≡ refused (at 4 row 0)
      ↔ (((1 ≤ n.levels) × (n.levels ≤ most_levels) × (length n.entries ≤ most_entries)) → ⊥)
  sizes_refused n = (
    λ a h.
        let b = sym (node_entries row n h.0 h.1 h.2) ∙ a in
        ⊎_elim
        (λ p.
        let t = numbers_refused row n.entries (at 4 row 0) (sym (body_numbers entry_check row n.entries p) ∙ b) in
        let z : ◌≡◌ {A = ℕ} 4 16 = ap (λ (r : Numbered). r.number) t.2 in omega arith)
        (λ q.
        entries_other n.entries (at 4 row 0) (λ z. omega arith) (λ z. omega arith) (λ z. omega arith)
        (q.1 ∙ sym (body_entries entry_check row n.entries q.0 q.1) ∙ b))
        (either (entries_check row 0 n.entries)),
    λ out. node_sizes row n (λ h1 h2 h3. out (h1, h2, h3)),
  )
