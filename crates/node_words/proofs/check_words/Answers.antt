use Prim.Native.Nat.{ℕ, ◌≤◌}
use mathlib.Core.Path.{◌≡◌, ◌∙◌, refl, sym}
use mathlib.Core.Bool.{Bool, true, false, true≢false, ◌&&◌}
use native.Mathlib.Omega.{arith}
use lib.Dec.{leb}
use Rattle.std.proofs.lemmas.Result.{err_from_is_err_and}
use borrow.Author.Tests.{leb-true, le-leb}
use Rattle.task_model.specs.Limits.{most_levels}
use Rattle.task_model.proofs.Tests.{and_true}
use Rattle.task_model.specs.Checks.{entry_check}
use Rattle.task_model.proofs.Laws.{node_sizes, node_entries, body_entries, body_numbers}
use Rattle.node_words.specs.Words.{node_of}
use Rattle.node_words.proofs.Entries.{length-entries}
use Rattle.node_words.proofs.check_words.Goals as goal
use Rattle.node_words.proofs.check_words.Goals.{then-not-levels_hold-via-then-not-levels_hold, then-not-levels_hold-via-else-not-levels_hold+then-count-gt-MOST_ENTRIES}

-- what the test of a level count says
module _ (levels : ℕ) {holds : Bool} (e : holds ≡ (leb 1 levels && leb levels most_levels)) where
  within : holds ≡ true → (1 ≤ levels) × (levels ≤ most_levels)
  within p = let q = and_true _ _ (sym e ∙ p) in (leb-true _ _ q.0, leb-true _ _ q.1)

  outside : holds ≡ false → 1 ≤ levels → levels ≤ most_levels → ⊥
  outside p h1 h2 = true≢false (sym (e ∙ rw (le-leb 1 levels h1, le-leb levels most_levels h2) refl) ∙ p)

pub returns-then-not-levels_hold : goal.returns-then-not-levels_hold
returns-then-not-levels_hold c =
    let a = c.args in
    let n = length-entries a.words.now 0 a.count in
    sym
    (node_sizes a.row (node_of a.words.now a.count a.levels) (λ h1 h2 h3.
    elim c.then-not-levels_hold.branch [
      | then-not-levels_hold-via-then-not-levels_hold w ↦ outside _ c.levels_hold.ensures w.if-not-levels_hold.true h1 h2
      | then-not-levels_hold-via-else-not-levels_hold+then-count-gt-MOST_ENTRIES w ↦ omega arith
    ]))

pub returns-in_err-check_entries : goal.returns-in_err-check_entries
returns-in_err-check_entries c =
    let a = c.args in
    let p = err_from_is_err_and c.from_residual.result c.from_residual.ensures.1 in
    let levels = within a.levels c.levels_hold.ensures c.if-not-levels_hold.false in
    let n = node_entries _ _ levels.0 levels.1 (omega (arith, length-entries a.words.now 0 a.count)) in
    rw (p.1, p.2) (sym (n ∙ body_entries entry_check _ _ _ (sym c.in_err-check_entries.ensures)))

pub returns : goal.returns
returns c =
    let a = c.args in
    let levels = within a.levels c.levels_hold.ensures c.if-not-levels_hold.false in
    let n = node_entries _ _ levels.0 levels.1 (omega (arith, length-entries a.words.now 0 a.count)) in
    c.check_numbers.ensures ∙ sym (n ∙ body_numbers entry_check _ _ (sym c.in_ok-check_entries.ensures))
