use Prim.Native.Nat.{ℕ, ◌/◌, ◌≤◌}
use mathlib.Core.List.{List, map}
use mathlib.Core.Bool.{true}
use mathlib.Core.Logic.{◌↔◌}
use mathlib.Core.Path.{◌≡◌, ◌∙◌, sym}
use native.Mathlib.Omega.{arith}
use lib.ListN.{length, length-map}
use Rattle.std.proofs.lemmas.Result.{err_from_is_err_and}
use Rattle.refusals.specs.Refusals.{Numbered, Outcome, accepted, refused}
use Rattle.task_model.specs.Checks.{body_by}
use Rattle.node_words.specs.Words.{entry_size, entries_from}
use Rattle.plan_file.specs.declared.Edition.{Edition}
use Rattle.plan_file.specs.Check.{count_test, bodies_by, written_check, words_check}
use Rattle.plan_file.specs.Limits.{IsPlanInMemory}
use Rattle.plan_file.specs.Plan.{most_nodes, entry_count, row_of}
use Rattle.plan_file.proofs.WriterChecks.{tally, tally_holds, count_true, count_false, writer_count, writer_tally, writer_nodes}
use Rattle.plan_file.proofs.Ensured.{plan_ensures}
use Rattle.plan_file.proofs.check_plan.Goals as goal
use Rattle.plan_file.proofs.check_plan.Goals.{then-rows-lt1-via-then-rows-lt1, then-rows-lt1-via-else-rows-lt1+then-rows}

pub returns-then-rows-lt1 : goal.returns-then-rows-lt1
returns-then-rows-lt1 c =
    let n = length-map c.args.rows.now row_of in
    let both = plan_ensures c.args.edition c.args.rows.now c.args.entries.now
    (sym (writer_count _ _ _ _ (count_false _ (λ h1 h2.
    elim c.then-rows-lt1.branch [
      | then-rows-lt1-via-then-rows-lt1 w ↦ omega arith
      | then-rows-lt1-via-else-rows-lt1+then-rows w ↦ omega arith
    ])))) in
    record { answer = both.0; exactly = both.1 }

-- as many rows as a plan may have
module _ (ed : Edition) (rows words : List ℕ) (some : 1 ≤ length rows) (few : length rows ≤ most_nodes) where
  counts : count_test (length (map row_of rows)) ≡ true
  counts = count_true _ (omega (arith, some, length-map rows row_of)) (omega (arith, few, length-map rows row_of))

  by_rows : (r : Numbered) → refused r ≡ tally (map row_of rows) (length words)
      → (refused r ≡ words_check ed rows words) × (refused r ≡ accepted ↔ IsPlanInMemory ed rows words)
  by_rows r e = plan_ensures ed rows words (sym (writer_tally _ _ _ _ counts r (sym e)))

  -- that pass the check of rows
  module _ (passed : accepted ≡ tally (map row_of rows) (length words)) where
    counted : length words / entry_size ≡ entry_count (map row_of rows)
    counted = omega (arith, (tally_holds _ _ (sym passed)).1)

    by_nodes : {v : Edition} → ed ≡ v → {o : Outcome}
        → o ≡ bodies_by (body_by (written_check v)) 0 (map row_of rows) (entries_from words 0 (entry_count (map row_of rows)))
        → (o ≡ words_check ed rows words) × (o ≡ accepted ↔ IsPlanInMemory ed rows words)
    by_nodes is e = plan_ensures ed rows words ((rw (← counted, ← is) at e) ∙ sym (writer_nodes _ _ _ _ counts (sym passed)))

pub returns-in_err-check_rows : goal.returns-in_err-check_rows
returns-in_err-check_rows c =
    let p = err_from_is_err_and c.from_residual.result c.from_residual.ensures.1 in
    let both = by_rows c.args.edition c.args.rows.now c.args.entries.now (omega arith) (omega arith) _ c.in_err-check_rows.ensures in
    rw (p.1, p.2) (record { answer = both.0; exactly = both.1 })

pub check_plan_nodes-requires : goal.check_plan_nodes-requires
check_plan_nodes-requires c = omega (arith, (tally_holds _ _ (sym c.in_ok-check_rows.ensures)).1)

pub check_plan_nodes-requires-in-Second : goal.check_plan_nodes-requires-in-Second
check_plan_nodes-requires-in-Second c = omega (arith, (tally_holds _ _ (sym c.in_ok-check_rows.ensures)).1)

pub returns-in-First : goal.returns-in-First
returns-in-First c =
    let both = by_nodes c.args.edition c.args.rows.now c.args.entries.now (omega arith) (omega arith) c.in_ok-check_rows.ensures c.in-First.is c.check_plan_nodes.ensures in
    record { answer = both.0; exactly = both.1 }

pub returns-in-Second : goal.returns-in-Second
unfolding written_check
returns-in-Second c =
    let both = by_nodes c.args.edition c.args.rows.now c.args.entries.now (omega arith) (omega arith) c.in_ok-check_rows.ensures c.in-Second.is c.check_plan_nodes-in-Second.ensures in
    record { answer = both.0; exactly = both.1 }
