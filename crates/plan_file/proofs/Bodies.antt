-- Laws of checking entries one by one and node by node, by any check of one entry.
use Prim.Native.Nat.{ℕ, zero, suc, ◌+◌, ◌-◌, ◌≤◌, ◌<◌}
use mathlib.Core.Path.{◌≡◌, ◌∙◌, refl, sym, ap}
use mathlib.Core.Logic.{◌↔◌, ⊎_elim}
use mathlib.Core.List.{List, [], ◌∷◌}
use native.Mathlib.Omega.{arith}
use lib.ListN.{length, take, drop, length-take, length-drop}
use lib.Seq.{get_or-take, get_or-drop, drop-drop}
use lib.Dec.{ltb}
use borrow.Author.Tests.{ltb-true, ltb-false}
use Rattle.task_model.specs.declared.Entry.{Entry}
use Rattle.refusals.specs.Refusals.{Numbered, Outcome, accepted, refused}
use Rattle.task_model.specs.Checks.{each_by}
use Rattle.task_model.specs.Limits.{no_entry, entry_at}
use Rattle.task_model.proofs.Tests.{true_or_false}
use Rattle.task_model.proofs.Each.{each_refused}
use Rattle.task_model.proofs.Theorems.{each_exactly}
use Rattle.plan_file.specs.declared.Row.{Row}
use Rattle.plan_file.specs.Check.{bodies_by, nodes_by}
use Rattle.plan_file.specs.Find.{row_in}
use Rattle.plan_file.specs.Plan.{entry_count}
use Rattle.refusals.proofs.Outcomes.{either, not_both, both_accepted, then_refused, then_accepted}

-- every entry of a list is as P says
abbrev pub Each : (Entry → Type 0) → List Entry → Type 0
Each P es = (j : ℕ) → j < length es → P (entry_at es j)

-- an entry of a part of a list is an entry of the list
pub each_part : (P : Entry → Type 0) (es : List Entry) → Each P es → (c d : ℕ) → Each P (take c (drop d es))
each_part P es h c d j l =
    rw (get_or-take c (drop d es) j no_entry (omega (arith, length-take c (drop d es))), get_or-drop)
    (h (d + j) (omega (arith, length-take c (drop d es), length-drop d es)))

-- the entries of row `i`
abbrev pub part : List Row → List Entry → ℕ → List Entry
part rs es i = take (row_in rs i).count (drop (entry_count (take i rs)) es)

-- the entries of a row are those of the row before it in the rows behind the first
pub part_later : (r : Row) (rs : List Row) (es : List Entry) (i : ℕ) → part rs (drop r.count es) i ≡ part (r ∷ rs) es (suc i)
unfolding entry_count
part_later r rs es i = ap (take (row_in rs i).count) (drop-drop (entry_count (take i rs)) r.count es)

-- row by row, where the check of all entries at a row accepts exactly what Q says
module _ (check : ℕ → List Entry → Outcome) (Q : List Entry → Type 0)
    (one : (row : ℕ) (es : List Entry) → check row es ≡ accepted ↔ Q es) where
  pub bodies_accepted : (k : ℕ) (rs : List Row) (es : List Entry) → ((i : ℕ) → i < length rs → Q (part rs es i))
      → bodies_by check k rs es ≡ accepted
  unfolding bodies_by entry_count
  bodies_accepted k [] es each = refl
  bodies_accepted k (r ∷ rs) es each =
      then_accepted _ _ ((one k _).1 (each 0 (omega arith)))
      ∙ bodies_accepted (suc k) rs (drop r.count es) (λ i h. rw (part_later r rs es i) (each (suc i) (omega arith)))

  -- the entries of each accepted row are as Q says
  pub bodies_each : (k : ℕ) (rs : List Row) (es : List Entry) → bodies_by check k rs es ≡ accepted → (i : ℕ) → i < length rs
      → Q (part rs es i)
  unfolding bodies_by entry_count
  bodies_each k [] es a i h = absurd (omega arith)
  bodies_each k (r ∷ rs) es a zero h = (one k _).0 (both_accepted _ _ a).0
  bodies_each k (r ∷ rs) es a (suc i) h =
      rw (← part_later r rs es i)
      (bodies_each (suc k) rs (drop r.count es) (both_accepted (check k (take r.count es)) _ a).1 i (omega arith))

  -- The refusal is that of the first row that is not as Q says.
  pub record RefusedRow (k : ℕ) (rs : List Row) (es : List Entry) (r : Numbered) : Type 0 where
    pub row : ℕ
    pub there : row < length rs
    pub refuses : check (k + row) (part rs es row) ≡ refused r
    pub rows_before : (i : ℕ) → i < row → Q (part rs es i)

  later_rows : (r : Row) (rs : List Row) (es : List Entry) (n : ℕ) → Q (take r.count es)
      → ((i : ℕ) → i < n → Q (part rs (drop r.count es) i)) → (i : ℕ) → i < suc n → Q (part (r ∷ rs) es i)
  unfolding entry_count
  later_rows r rs es n h g zero l = h
  later_rows r rs es n h g (suc i) l = rw (← part_later r rs es i) (g i (omega arith))

  later : (k : ℕ) (r : Row) (rs : List Row) (es : List Entry) (q : Numbered) → Q (take r.count es)
      → RefusedRow (suc k) rs (drop r.count es) q → RefusedRow k (r ∷ rs) es q
  later k r rs es q h t =
      let e : k + suc t.row ≡ suc k + t.row = omega arith in
      record {
        row = suc t.row;
        there = omega (arith, t.there);
        refuses = rw (e, ← part_later r rs es t.row) t.refuses;
        rows_before = later_rows r rs es t.row h t.rows_before;
      }

  pub bodies_refused : (k : ℕ) (rs : List Row) (es : List Entry) (q : Numbered) → bodies_by check k rs es ≡ refused q → RefusedRow k rs es q
  unfolding bodies_by entry_count
  bodies_refused k [] es q a = absurd (not_both refl a)
  bodies_refused k (r ∷ rs) es q a =
      ⊎_elim
      (λ t.
      later k r rs es q ((one k _).0 t)
      (bodies_refused (suc k) rs (drop r.count es) q (sym (then_accepted (check k (take r.count es)) _ t) ∙ a)))
      (λ t.
      let e : k + 0 ≡ k = omega arith in
      record {
        row = 0;
        there = omega arith;
        refuses = rw e (t.1 ∙ sym (then_refused (check k (take r.count es)) _ _ t.1) ∙ a);
        rows_before = λ i l. absurd (omega arith);
      })
      (either (check k (take r.count es)))

  -- a row that is refused where those before are as Q says gives the refusal
  pub refused_at : (k : ℕ) (rs : List Row) (es : List Entry) (i : ℕ) (q : Numbered) → i < length rs
      → ((j : ℕ) → j < i → Q (part rs es j)) → check (k + i) (part rs es i) ≡ refused q → bodies_by check k rs es ≡ refused q
  unfolding bodies_by entry_count
  refused_at k [] es i q h before a = absurd (omega arith)
  refused_at k (r ∷ rs) es zero q h before a = let e : k + 0 ≡ k = omega arith in then_refused _ _ q (rw e at a)
  refused_at k (r ∷ rs) es (suc i) q h before a =
      let e : k + suc i ≡ suc k + i = omega arith in
      then_accepted _ _ ((one k _).1 (before 0 (omega arith)))
      ∙ refused_at (suc k) rs (drop r.count es) i q (omega arith)
      (λ j l. rw (part_later r rs es j) (before (suc j) (omega arith)))
      (rw (part_later r rs es i) (rw e at a))

-- every entry is as P says if those of each row are, and the rows count them all
pub parts_all : (P : Entry → Type 0) (rs : List Row) (es : List Entry) → ((i : ℕ) → i < length rs → Each P (part rs es i))
    → length es ≤ entry_count rs → Each P es
unfolding entry_count
parts_all P [] es each l j h = absurd (omega arith)
parts_all P (r ∷ rs) es each l j h =
    let c = r.count in
    ⊎_elim
    (λ t. rw (get_or-take c es j no_entry (ltb-true j c t)) at (each 0 (omega arith) j (omega (arith, ltb-true j c t, length-take c es))))
    (λ t.
    let e : c + (j - c) ≡ j = omega (arith, ltb-false j c t) in
    let later : (i : ℕ) → i < length rs → Each P (part rs (drop c es) i) = λ i g. rw (part_later r rs es i) (each (suc i) (omega arith)) in
    let few : length (drop c es) ≤ entry_count rs = omega (arith, length-drop c es) in
    rw (get_or-drop c es (j - c) no_entry, e) at
    (parts_all P rs (drop c es) later few (j - c) (omega (arith, ltb-false j c t, length-drop c es))))
    (true_or_false (ltb j c))

-- entry by entry, where the check of one entry accepts exactly what P says
module _ (check : ℕ → ℕ → Entry → Outcome) (P : Entry → Type 0)
    (one : (row p : ℕ) (e : Entry) → check row p e ≡ accepted ↔ P e) where
  pub nodes_accepted : (k : ℕ) (rs : List Row) (es : List Entry) → ((i : ℕ) → i < length rs → Each P (part rs es i))
      → nodes_by check k rs es ≡ accepted
  nodes_accepted = bodies_accepted (each_by check) (Each P) (each_exactly check P one)

  pub nodes_each : (k : ℕ) (rs : List Row) (es : List Entry) → nodes_by check k rs es ≡ accepted → (i : ℕ) → i < length rs
      → Each P (part rs es i)
  nodes_each = bodies_each (each_by check) (Each P) (each_exactly check P one)

  -- and so is every entry, where the rows count them all
  pub nodes_all : (k : ℕ) (rs : List Row) (es : List Entry) → nodes_by check k rs es ≡ accepted → length es ≤ entry_count rs
      → Each P es
  nodes_all k rs es a = parts_all P rs es (nodes_each k rs es a)

  -- the refusal is that of the first entry, row by row and entry by entry, that is not as P says
  pub record RefusedAt (k : ℕ) (rs : List Row) (es : List Entry) (r : Numbered) : Type 0 where
    pub row : ℕ
    pub position : ℕ
    pub there : row < length rs
    pub inside : position < length (part rs es row)
    pub refuses : check (k + row) position (entry_at (part rs es row) position) ≡ refused r
    pub before : (j : ℕ) → j < position → P (entry_at (part rs es row) j)
    pub rows_before : (i : ℕ) → i < row → Each P (part rs es i)

  pub nodes_refused : (k : ℕ) (rs : List Row) (es : List Entry) (q : Numbered) → nodes_by check k rs es ≡ refused q → RefusedAt k rs es q
  nodes_refused k rs es q a =
      let t = bodies_refused (each_by check) (Each P) (each_exactly check P one) k rs es q a in
      let f = each_refused (check (k + t.row)) (λ p e. P e) (one (k + t.row)) (part rs es t.row) q t.refuses in
      record {
        row = t.row;
        position = f.0;
        there = t.there;
        inside = f.1;
        refuses = f.3;
        before = f.2;
        rows_before = t.rows_before;
      }
