use Prim.Native.Nat.{ℕ, ◌+◌, ◌*◌, ◌≤◌, ◌<◌}
use mathlib.Core.List.{List, map}
use mathlib.Core.Path.{◌≡◌, ◌∙◌, refl, sym}
use native.Mathlib.Omega.{arith}
use native.Mathlib.Nat.{zero-add}
use lib.ListN.{length, get_or, drop}
use Rattle.std.proofs.lemmas.Result.{err_from_is_err_and}
use Rattle.refusals.specs.Refusals.{Numbered, Outcome, accepted, refused}
use Rattle.task_model.specs.declared.Entry.{Entry}
use Rattle.node_words.specs.Words.{entry_size, entries_from}
use Rattle.plan_file.specs.declared.Row.{Row}
use Rattle.plan_file.specs.Plan.{entry_count, row_of}
use Rattle.byte_words.proofs.Runs.{AtHand}
use Rattle.plan_file.proofs.Contents.{words_entries_run, memory_row, memory_none}
use Rattle.plan_file.proofs.Rows.{bodies, count_here, bodies_here, bodies_stop, bodies_end}
use Rattle.plan_file.proofs.checks.check_nodes.Goals as goal

-- row `i` of a plan in memory, whose entries begin at `first`
module _ (rs ws : List ℕ) (i : ℕ) (r : Row) (first : ℕ) (h : i < length rs) (e : r ≡ row_of (get_or rs i 0)) where
  at_row : AtHand (map row_of rs) i r
  at_row = memory_row rs i r h e

  -- they and those after them are there
  entries_fit : (first + entry_count (drop i (map row_of rs))) * entry_size ≤ length ws
      → (first + r.count + entry_count (drop (i + 1) (map row_of rs))) * entry_size ≤ length ws
  entries_fit inside = omega (arith, count_here at_row, inside)

  -- their check, and then that of the entries after them
  module _ (check : ℕ → List Entry → Outcome) {o : Outcome} (all : bodies check (entries_from ws) first i (drop i (map row_of rs)) ≡ o) where
    stopped : (q : Numbered) → refused q ≡ check i (entries_from ws first r.count) → refused q ≡ o
    stopped q p = bodies_stop check (words_entries_run ws) at_row first q p all

    passed : accepted ≡ check i (entries_from ws first r.count)
        → bodies check (entries_from ws) (first + r.count) (i + 1) (drop (i + 1) (map row_of rs)) ≡ o
    passed p = sym (bodies_here check (words_entries_run ws) at_row first _ (omega arith) accepted (sym p)) ∙ all

pub loop-row-init : goal.loop-row-init
loop-row-init g c = ((rw zero-add c.requires), refl)

pub invariant_of-entries : goal.invariant_of-entries
invariant_of-entries g c =
    let fit = entries_fit _ c.args.words.now _ _ c.loop-row.first c.loop-row-test.true c.from-count.ensures c.loop-row.invariant.0 in
    record { inside = omega (arith, fit) }

pub returns-in_err-check_all : goal.returns-in_err-check_all
returns-in_err-check_all g c =
    let p = err_from_is_err_and c.from_residual.result c.from_residual.ensures.1 in
    rw (p.1, p.2)
    (stopped _ _ _ _ _ c.loop-row-test.true c.from-count.ensures g.C.ListCheck.says_all c.loop-row.invariant.1 _ c.in_err-check_all.ensures)

pub overflow_add-first : goal.overflow_add-first
overflow_add-first g c =
    omega (arith, entries_fit _ c.args.words.now _ _ c.loop-row.first c.loop-row-test.true c.from-count.ensures c.loop-row.invariant.0)

pub loop-row-preserved : goal.loop-row-preserved
loop-row-preserved g c = (
  entries_fit _ c.args.words.now _ _ c.loop-row.first c.loop-row-test.true c.from-count.ensures c.loop-row.invariant.0,
  passed _ _ _ _ _ c.loop-row-test.true c.from-count.ensures g.C.ListCheck.says_all c.loop-row.invariant.1 c.in_ok-check_all.ensures,
)

pub returns : goal.returns
returns g c =
    sym (bodies_end g.C.ListCheck.says_all (words_entries_run _) _ _ _ (memory_none c.args.rows.now _ c.loop-row-test.false))
    ∙ c.loop-row.invariant.1
