-- Laws of the search for a row by its number.
use Prim.Native.Nat.{ℕ, zero, suc, ◌+◌, ◌≤◌, ◌<◌}
use mathlib.Core.Path.{◌≡◌, ◌∙◌, refl, ap}
use mathlib.Core.Bool.{true, false}
use mathlib.Core.Logic.{◌⊎◌, inl, inr, ⊎_elim}
use mathlib.Core.List.{List, [], ◌∷◌}
use Rattle.std.specs.Prelude.{Some, None}
use native.Mathlib.Omega.{arith}
use lib.ListN.{length, drop}
use lib.Dec.{eqb, ltb}
use borrow.Author.Tests.{eq-eqb, ne_eqb, eqb-true, eqb-false, lt-ltb, le-ltb, ltb-true, ltb-false}
use Rattle.refusals.specs.Refusals.{accepted, must_hold}
use Rattle.task_model.proofs.Tests.{true_or_false}
use Rattle.plan_file.specs.declared.Row.{Row}
use Rattle.plan_file.specs.Check.{row_test, rows_check}
use Rattle.plan_file.specs.Find.{row_in, row_of_number, first_row}
use Rattle.refusals.proofs.Outcomes.{both_accepted, demanded}
use Rattle.plan_file.proofs.Tests.{RowHolds, row_holds}
use Rattle.byte_words.proofs.Runs.{AtHand}
use Rattle.plan_file.specs.Decoding.{node_count, rows_in}
use Rattle.plan_file.proofs.Contents.{length-rows}

pub found_here : (number : ℕ) (r : Row) (rs : List Row) → r.number ≡ number → row_of_number number (r ∷ rs) ≡ 0
unfolding row_of_number
found_here number r rs p = rw (eq-eqb r.number number p, row_of_number)

pub found_later : (number : ℕ) (r : Row) (rs : List Row) → (r.number ≡ number → ⊥)
    → row_of_number number (r ∷ rs) ≡ suc (row_of_number number rs)
unfolding row_of_number
found_later number r rs p = rw (ne_eqb r.number number p, row_of_number)

-- the search from row `i` on
module _ (number : ℕ) {rows : List Row} {i : ℕ} {r : Row} (h : AtHand rows i r) where
  pub search_found : r.number ≡ number → i + row_of_number number (drop i rows) ≡ i
  search_found p = rw (h.here, found_here number r _ p) (omega arith)

  pub search_next : (r.number ≡ number → ⊥)
      → i + row_of_number number (drop i rows) ≡ i + 1 + row_of_number number (drop (i + 1) rows)
  search_next p = rw (h.here, found_later number r _ p) (omega arith)

pub search_end : (number i : ℕ) (rs : List Row) → rs ≡ [] → i + row_of_number number rs ≡ i
unfolding row_of_number
search_end number i rs e = rw e (omega arith)

-- what the search gives
pub some_row : (number : ℕ) (rs : List Row) (i : ℕ) → i ≡ row_of_number number rs → i < length rs → first_row number rs ≡ Some i
unfolding first_row
some_row number rs i e h = rw (lt-ltb (row_of_number number rs) (length rs) (omega (arith, e)), first_row, e)

pub no_row_lem : (number : ℕ) (rs : List Row) (i : ℕ) → i ≡ row_of_number number rs → length rs ≤ i → first_row number rs ≡ None
unfolding first_row
no_row_lem number rs i e h = rw (le-ltb (row_of_number number rs) (length rs) (omega (arith, e)), first_row)

-- and what it means, for the rows of a file
pub found_row : (f : List ℕ) (number i : ℕ) → Some i ≡ first_row number (rows_in f) → (i ≡ row_of_number number (rows_in f)) × (i < node_count f)
found_row f number i p =
    let k : ℕ = row_of_number number (rows_in f) in
    ⊎_elim
    (λ (t : ltb k (length (rows_in f)) ≡ true).
    let same : Some i ≡ Some k = p ∙ some_row number (rows_in f) k refl (ltb-true _ _ t) in
    let e : i ≡ k = cc in
    (e, omega (arith, e, ltb-true _ _ t, length-rows f 0 (node_count f))))
    (λ (t : ltb k (length (rows_in f)) ≡ false).
    let none : Some i ≡ None = p ∙ no_row_lem number (rows_in f) k refl (ltb-false _ _ t) in
    absurd (let z : ◌≡◌ {A = ℕ} 0 1 = cc in omega arith))
    (true_or_false (ltb k (length (rows_in f))))

pub missing_row : (f : List ℕ) (number : ℕ) → None ≡ first_row number (rows_in f) → node_count f ≤ row_of_number number (rows_in f)
missing_row f number p =
    let k : ℕ = row_of_number number (rows_in f) in
    ⊎_elim
    (λ (t : ltb k (length (rows_in f)) ≡ true).
    let some : None ≡ Some k = p ∙ some_row number (rows_in f) k refl (ltb-true _ _ t) in
    absurd (let z : ◌≡◌ {A = ℕ} 0 1 = cc in omega arith))
    (λ (t : ltb k (length (rows_in f)) ≡ false). omega (arith, ltb-false _ _ t, length-rows f 0 (node_count f)))
    (true_or_false (ltb k (length (rows_in f))))

-- each of the rows within the checks is within its limits
pub rows_each : (k least : ℕ) (rs : List Row) → rows_check k least rs ≡ accepted → (i : ℕ) → i < length rs → RowHolds 0 (row_in rs i)
unfolding rows_check
rows_each k least [] a i h = absurd (omega arith)
rows_each k least (r ∷ rs) a zero h =
    let t = row_holds least r (demanded _ _ (both_accepted (must_hold (row_test least r) _) _ a).0) in
    record { rises = omega arith; some_levels = t.some_levels; few_levels = t.few_levels; few_entries = t.few_entries }
rows_each k least (r ∷ rs) a (suc i) h =
    rows_each (suc k) (suc r.number) rs (both_accepted (must_hold (row_test least r) _) _ a).1 i (omega arith)

-- in rows within the checks the numbers rise, so a number is found where it stands
pub not_below : (k least : ℕ) (rs : List Row) → rows_check k least rs ≡ accepted → (i : ℕ) → i < length rs → least ≤ (row_in rs i).number
unfolding rows_check
not_below k least [] a i h = absurd (omega arith)
not_below k least (r ∷ rs) a zero h =
    (row_holds least r (demanded _ _ (both_accepted (must_hold (row_test least r) _) _ a).0)).rises
not_below k least (r ∷ rs) a (suc i) h =
    let p = both_accepted (must_hold (row_test least r) _) _ a in
    omega (
      arith,
      (row_holds least r (demanded _ _ p.0)).rises,
      not_below (suc k) (suc r.number) rs p.1 i (omega arith),
    )

pub found_at : (k least : ℕ) (rs : List Row) → rows_check k least rs ≡ accepted → (number i : ℕ) → i < length rs
    → (row_in rs i).number ≡ number → row_of_number number rs ≡ i
unfolding rows_check
found_at k least [] a number i h e = absurd (omega arith)
found_at k least (r ∷ rs) a number zero h e = found_here number r rs e
found_at k least (r ∷ rs) a number (suc i) h e =
    let p = both_accepted (must_hold (row_test least r) _) _ a in
    found_later number r rs (λ q. omega (arith, not_below (suc k) (suc r.number) rs p.1 i (omega arith)))
    ∙ ap suc (found_at (suc k) (suc r.number) rs p.1 number i (omega arith) e)

same_or_not : (a b : ℕ) → (a ≡ b) ⊎ (a ≡ b → ⊥)
same_or_not a b = ⊎_elim (λ p. inl (eqb-true a b p)) (λ p. inr (eqb-false a b p)) (true_or_false (eqb a b))

-- a row that is found has the number
pub found_number : (rs : List Row) (number : ℕ) → row_of_number number rs < length rs
    → (row_in rs (row_of_number number rs)).number ≡ number
found_number [] number h = absurd (omega arith)
found_number (r ∷ rs) number h =
    ⊎_elim
    (λ (e : r.number ≡ number). rw (found_here number r rs e) e)
    (λ (e : r.number ≡ number → ⊥).
    let n = found_later number r rs e in rw n (found_number rs number (omega (arith, n))))
    (same_or_not r.number number)
