use Rattle.std.proofs.Common.{◌≡◌, ℕ, zero, suc, ◌+◌, ◌≤◌, ◌<◌, List, refl, arith, rules, tests}
use mathlib.Core.Path.{◌∙◌, sym}
use native.Mathlib.Nat.{zero-add}
use lib.ListN.{drop}
use Rattle.std.specs.Prelude.{Option, Some, None, MatchOption}
use Rattle.std.proofs.lemmas.Iterator.{first_from_Range}
use Rattle.plan_file.specs.Decoding.{row_at, rows_from}
use Rattle.plan_file.specs.Find.{row_of_number, first_row}
use Rattle.byte_words.proofs.Runs.{run_none, run_length}
use Rattle.plan_file.proofs.Contents.{rows_run, file_row}
use Rattle.plan_file.proofs.Finding.{search_found, search_next, search_end, some_row, no_row_lem}
use Rattle.plan_file.proofs.stages.Contents.find.Goals as goal

module _ (number : ℕ) (f : List ℕ) (n : ℕ) where
  -- the search goes on behind rows with other numbers
  behind : (i : ℕ) → i ≤ n → ((k : ℕ) → 0 ≤ k → k < i → (row_at f k).number ≡ number → ⊥)
      → i + row_of_number number (drop i (rows_from f 0 n)) ≡ row_of_number number (rows_from f 0 n)
  behind zero h none = zero-add (row_of_number number (rows_from f 0 n))
  behind (suc i) h none =
      let e : suc i ≡ i + 1 = omega arith in
      rw e (sym (search_next number (file_row f n i (row_at f i) (omega arith) refl) (none i (omega arith) (omega arith)))
      ∙ behind i (omega arith) (λ k l u. none k l (omega arith)))

  by_range : (o : Option ℕ)
      → MatchOption o ((k : ℕ) → 0 ≤ k → k < n → (row_at f k).number ≡ number → ⊥)
      (λ i. (0 ≤ i) × (i < n) × ((row_at f i).number ≡ number) × ((k : ℕ) → 0 ≤ k → k < i → (row_at f k).number ≡ number → ⊥))
      → o ≡ first_row number (rows_from f 0 n)
  by_range None none =
      sym
      (no_row_lem number _ n (sym (search_end number n _ (run_none (rows_run f) 0 n n (omega arith))) ∙ behind n (omega arith) none)
      (omega (arith, run_length (rows_run f) 0 n)))
  by_range (Some i) h =
      sym
      (some_row number _ i (sym (search_found number (file_row f n i (row_at f i) h.1 refl) h.2) ∙ behind i (omega arith) h.3)
      (omega (arith, run_length (rows_run f) 0 n)))

pub returns : goal.returns
returns c =
    let f = c.args.self.now.file.now in
    let number = c.args.number in
    by_range number f c.args.self.now.nodes c.find.result
    (first_from_Range _ _ _ _ (λ i. (row_at f i).number ≡ number) (λ i. (row_at f i).number ≡ number → ⊥) c.find.ensures.ran
    (λ x q k. grind (arith, tests))
    (λ x q k. (search rules, grind (arith, tests))))
