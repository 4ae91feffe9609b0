use Prim.Native.Nat.{ℕ, ◌+◌, ◌*◌, ◌≤◌, ◌<◌}
use mathlib.Core.Path.{◌≡◌, ◌∙◌, refl, sym, ap}
use mathlib.Core.List.{List}
use native.Mathlib.Omega.{arith}
use lib.ListN.{length, drop}
use Rattle.std.proofs.lemmas.Result.{err_from_is_err_and}
use Rattle.refusals.specs.Refusals.{Numbered, Outcome, accepted, refused}
use Rattle.task_model.specs.declared.Entry.{Entry}
use Rattle.plan_file.specs.declared.Edition.{Edition}
use Rattle.plan_file.specs.declared.Row.{Row}
use Rattle.plan_file.specs.Plan.{entry_count}
use Rattle.plan_file.specs.Decoding.{rows_from, row_at, entries_at}
use Rattle.plan_file.specs.Encoding.{entry_length}
use Rattle.byte_words.proofs.Runs.{AtHand, run_none}
use Rattle.plan_file.proofs.Contents.{rows_run, entries_run, file_row}
use Rattle.plan_file.proofs.Rows.{bodies, count_here, bodies_here, bodies_stop, bodies_end}
use Rattle.plan_file.proofs.stages.Contents.check_bodies.Goals as goal

-- row `i` of a file, whose body begins at `start`
module _ (ed : Edition) (f : List ℕ) (n i : ℕ) (r : Row) (start : ℕ) (h : i < n) (e : r ≡ row_at f i) where
  at_row : AtHand (rows_from f 0 n) i r
  at_row = file_row f n i r h e

  -- its body and those after it lie in the file
  bodies_fit : (size : ℕ) → size ≡ entry_length ed → start + entry_count (drop i (rows_from f 0 n)) * entry_length ed ≤ length f
      → start + r.count * size + entry_count (drop (i + 1) (rows_from f 0 n)) * entry_length ed ≤ length f
  bodies_fit size s inside = rw s (omega (arith, ap (λ m. m * entry_length ed) (count_here at_row), inside))

  -- its check, and then that of the bodies after it
  module _ (check : ℕ → List Entry → Outcome) {o : Outcome} (all : bodies check (entries_at ed f) start i (drop i (rows_from f 0 n)) ≡ o) where
    stopped : (q : Numbered) → refused q ≡ check i (entries_at ed f start r.count) → refused q ≡ o
    stopped q p = bodies_stop check (entries_run ed f) at_row start q p all

    passed : (size : ℕ) → size ≡ entry_length ed → accepted ≡ check i (entries_at ed f start r.count)
        → bodies check (entries_at ed f) (start + r.count * size) (i + 1) (drop (i + 1) (rows_from f 0 n)) ≡ o
    passed size s p = sym (bodies_here check (entries_run ed f) at_row start _ (ap (λ m. start + r.count * m) s) accepted (sym p)) ∙ all

pub loop-row-init : goal.loop-row-init
loop-row-init g c = rw c.bodies_start-start.ensures (c.requires, refl)

pub invariant_of-body : goal.invariant_of-body
invariant_of-body g c =
    let fit = bodies_fit g.E.Layout.edition _ _ _ _ c.loop-row.start c.loop-row-test.true c.row-count.ensures _ refl c.loop-row.invariant.0 in
    record { inside = omega (arith, fit) }

pub returns-in_err-check_all : goal.returns-in_err-check_all
returns-in_err-check_all g c =
    let p = err_from_is_err_and c.from_residual.result c.from_residual.ensures.1 in
    rw (p.1, p.2)
    (stopped g.E.Layout.edition _ _ _ _ _ c.loop-row-test.true c.row-count.ensures g.C.ListCheck.says_all c.loop-row.invariant.1 _ c.in_err-check_all.ensures)

pub overflow_mul-start : goal.overflow_mul-start
overflow_mul-start g c =
    let size = c.ENTRY_BYTES.ensures ∙ g.met.E.Layout.entry_bytes in
    omega (arith, bodies_fit g.E.Layout.edition _ _ _ _ c.loop-row.start c.loop-row-test.true c.row-count.ensures _ size c.loop-row.invariant.0)

pub overflow_add-start : goal.overflow_add-start
overflow_add-start g c =
    let size = c.ENTRY_BYTES.ensures ∙ g.met.E.Layout.entry_bytes in
    omega (arith, bodies_fit g.E.Layout.edition _ _ _ _ c.loop-row.start c.loop-row-test.true c.row-count.ensures _ size c.loop-row.invariant.0)

pub loop-row-preserved : goal.loop-row-preserved
loop-row-preserved g c =
    let size = c.ENTRY_BYTES.ensures ∙ g.met.E.Layout.entry_bytes in (
      bodies_fit g.E.Layout.edition _ _ _ _ c.loop-row.start c.loop-row-test.true c.row-count.ensures _ size c.loop-row.invariant.0,
      passed g.E.Layout.edition _ _ _ _ _ c.loop-row-test.true c.row-count.ensures g.C.ListCheck.says_all c.loop-row.invariant.1 _ size c.in_ok-check_all.ensures,
    )

pub returns : goal.returns
returns g c =
    sym (bodies_end g.C.ListCheck.says_all (entries_run g.E.Layout.edition _) _ _ _ (run_none (rows_run _) _ _ _ c.loop-row-test.false))
    ∙ c.loop-row.invariant.1
