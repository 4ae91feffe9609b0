use Prim.Native.Nat.{ℕ, ◌+◌, ◌*◌, ◌<◌}
use mathlib.Core.Path.{◌≡◌, ◌∙◌, refl, sym}
use mathlib.Core.Bool.{Bool, true, false}
use mathlib.Core.List.{List}
use native.Mathlib.Omega.{arith}
use lib.ListN.{length, drop}
use borrow.Author.Tests.{not-true, not-false, eq-eqb, ne_eqb}
use Rattle.refusals.specs.Refusals.{Outcome, at, refused}
use Rattle.plan_file.specs.declared.Row.{Row}
use Rattle.plan_file.specs.Check.{row_test, layout_check}
use Rattle.plan_file.specs.Decoding.{row_at, offset_at, rows_from}
use Rattle.byte_words.proofs.Runs.{AtHand, run_none}
use Rattle.plan_file.proofs.Contents.{rows_run, file_row}
use Rattle.plan_file.proofs.Encoding.{size_short}
use Rattle.plan_file.proofs.Rows.{layout_here, layout_end}
use Rattle.refusals.proofs.Outcomes.{must_hold-accepts, must_hold-refuses}
use Rattle.plan_file.proofs.stages.Contents.check_layout.Goals as goal

-- row `i` of a file, and then the rows after it, by the test of the row
module _ (size : ℕ) (f : List ℕ) (n i least required : ℕ) (r : Row) (h : i < n) (e : r ≡ row_at f i) (a : Bool) (t : a ≡ row_test least r)
    {o : Outcome} (all : layout_check size f i least required (drop i (rows_from f 0 n)) ≡ o) where
  at_row : AtHand (rows_from f 0 n) i r
  at_row = file_row f n i r h e

  row_refused : a ≡ false → refused (at 4 i 0) ≡ o
  row_refused p = sym (layout_here at_row size f least required _ _ (sym t ∙ p) refl) ∙ all

  offset_refused : a ≡ true → (offset_at f i ≡ required → ⊥) → refused (at 5 i 0) ≡ o
  offset_refused p q = sym (layout_here at_row size f least required _ _ (sym t ∙ p) (ne_eqb (offset_at f i) required q)) ∙ all

  passed : a ≡ true → offset_at f i ≡ required
      → layout_check size f (i + 1) (r.number + 1) (required + r.count * size) (drop (i + 1) (rows_from f 0 n)) ≡ o
  passed p q = sym (layout_here at_row size f least required _ _ (sym t ∙ p) (eq-eqb (offset_at f i) required q)) ∙ all

pub loop-row-init : goal.loop-row-init
loop-row-init c = (omega arith, omega arith, rw c.bodies_start-required.ensures)

pub returns-then-not-held : goal.returns-then-not-held
returns-then-not-held c = rw (← c.entry_bytes-size.ensures)
    (row_refused _ _ _ _ _ _ _ c.loop-row-test.true c.row-r.ensures _ c.row_holds-held.ensures c.loop-row.invariant.2
    (not-true _ c.if-not-held.true-raw))

pub returns-then-not-placed : goal.returns-then-not-placed
returns-then-not-placed c = rw (← c.entry_bytes-size.ensures)
    (offset_refused _ _ _ _ _ _ _ c.loop-row-test.true c.row-r.ensures _ c.row_holds-held.ensures c.loop-row.invariant.2
    (not-false _ c.if-not-held.false-raw) (λ e. omega (arith, c.offset.ensures)))

pub overflow_mul-required : goal.overflow_mul-required
overflow_mul-required c = omega (arith, size_short c.args.edition _ c.entry_bytes-size.ensures c.row-r.result.count)

pub overflow_add-required : goal.overflow_add-required
overflow_add-required c = omega (arith, size_short c.args.edition _ c.entry_bytes-size.ensures c.row-r.result.count)

pub loop-row-preserved : goal.loop-row-preserved
loop-row-preserved c = (
  omega arith,
  omega (arith, size_short c.args.edition _ c.entry_bytes-size.ensures c.row-r.result.count),
  passed _ _ _ _ _ _ _ c.loop-row-test.true c.row-r.ensures _ c.row_holds-held.ensures c.loop-row.invariant.2
      (not-false _ c.if-not-held.false-raw) (omega (arith, c.offset.ensures)),
)

pub returns-then-self-required : goal.returns-then-self-required
returns-then-self-required c = rw (← c.entry_bytes-size.ensures)
    (sym (must_hold-refuses _ _ (ne_eqb (length c.args.self.now.file.now) c.loop-row.required (λ e. omega arith)))
    ∙ sym (layout_end _ _ (run_none (rows_run _) _ _ _ c.loop-row-test.false) _ _ _ _)
    ∙ c.loop-row.invariant.2)

pub returns : goal.returns
returns c = rw (← c.entry_bytes-size.ensures)
    (sym (must_hold-accepts _ _ (eq-eqb (length c.args.self.now.file.now) c.loop-row.required (omega arith)))
    ∙ sym (layout_end _ _ (run_none (rows_run _) _ _ _ c.loop-row-test.false) _ _ _ _)
    ∙ c.loop-row.invariant.2)
