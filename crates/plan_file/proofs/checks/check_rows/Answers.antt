use Prim.Native.Nat.{ℕ, ◌+◌, ◌*◌, ◌<◌}
use mathlib.Core.List.{List, map}
use mathlib.Core.Path.{◌≡◌, ◌∙◌, sym}
use mathlib.Core.Bool.{Bool, true, false}
use native.Mathlib.Omega.{arith}
use native.Mathlib.Nat.{zero-add}
use lib.ListN.{length, get_or, drop}
use borrow.Author.Tests.{not-true, not-false, eq-eqb, ne_eqb}
use Rattle.refusals.specs.Refusals.{Outcome, at, refused}
use Rattle.node_words.specs.Words.{entry_size}
use Rattle.plan_file.specs.declared.Row.{Row}
use Rattle.plan_file.specs.Check.{row_test}
use Rattle.plan_file.specs.Plan.{row_of}
use Rattle.byte_words.proofs.Runs.{AtHand}
use Rattle.plan_file.proofs.Contents.{memory_row, memory_none}
use Rattle.plan_file.proofs.Rows.{tally_from, tally_here, tally_end}
use Rattle.refusals.proofs.Outcomes.{must_hold-accepts, must_hold-refuses}
use Rattle.plan_file.proofs.checks.check_rows.Goals as goal

-- row `i` of a plan in memory, and then the rows after it, by the test of the row
module _ (words : ℕ) (rs : List ℕ) (i least total : ℕ) (r : Row) (h : i < length rs) (e : r ≡ row_of (get_or rs i 0)) (a : Bool)
    (t : a ≡ row_test least r) {o : Outcome} (all : tally_from words i least total (drop i (map row_of rs)) ≡ o) where
  at_row : AtHand (map row_of rs) i r
  at_row = memory_row rs i r h e

  stopped : a ≡ false → refused (at 4 i 0) ≡ o
  stopped p = sym (tally_here at_row words least total _ (sym t ∙ p)) ∙ all

  passed : a ≡ true → tally_from words (i + 1) (r.number + 1) (total + r.count) (drop (i + 1) (map row_of rs)) ≡ o
  passed p = sym (tally_here at_row words least total _ (sym t ∙ p)) ∙ all

pub loop-i-init : goal.loop-i-init
loop-i-init c = (omega arith, omega arith, (rw zero-add))

pub returns-then-not-row_holds : goal.returns-then-not-row_holds
returns-then-not-row_holds c =
    stopped c.args.words _ _ _ c.loop-i.total _ c.loop-i-test.true c.from-r.ensures _ c.row_holds.ensures c.loop-i.invariant.2
    (not-true _ c.if-not-row_holds.true-raw)

pub loop-i-preserved : goal.loop-i-preserved
loop-i-preserved c = (
  omega arith,
  omega arith,
  passed c.args.words _ _ _ c.loop-i.total _ c.loop-i-test.true c.from-r.ensures _ c.row_holds.ensures c.loop-i.invariant.2
      (not-false _ c.if-not-row_holds.false-raw),
)

pub returns-then-words-total : goal.returns-then-words-total
returns-then-words-total c = sym (must_hold-refuses _ _ (ne_eqb c.args.words (c.loop-i.total * entry_size) (λ e. omega arith)))
    ∙ sym (tally_end _ _ (memory_none c.args.rows.now _ c.loop-i-test.false) _ _ _)
    ∙ c.loop-i.invariant.2

pub returns : goal.returns
returns c = sym (must_hold-accepts _ _ (eq-eqb c.args.words (c.loop-i.total * entry_size) (omega arith)))
    ∙ sym (tally_end _ _ (memory_none c.args.rows.now _ c.loop-i-test.false) _ _ _)
    ∙ c.loop-i.invariant.2
