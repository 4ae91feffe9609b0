use mathlib.Core.Path.{◌≡◌, ◌∙◌, sym}
use mathlib.Core.Bool.{false}
use mathlib.Core.List.{List}
use native.Mathlib.Omega.{arith}
use lib.ListN.{take, length-set}
use borrow.Author.Tests.{ne_eqb}
use Rattle.std.proofs.lemmas.Nat.{mod_below}
use Rattle.task_model.specs.declared.Entry.{Entry}
use Rattle.task_model.specs.Checks.{has_number}
use Rattle.task_model.proofs.Marks.{passed_first, passed_unmet, passed_next, passed_stop, passed_end}
use Rattle.task_model.proofs.entries.check_numbers.Goals as goal
use Rattle.task_model.proofs.entries.check_numbers.Goals.{else-marks-place-via-then-marks-place+else-has_number, else-marks-place-via-else-marks-place}

pub loop-position-init : goal.loop-position-init
loop-position-init g c = (c.told-marks, passed_first _ g.row.N _ _)

pub returns-then-has_number : goal.returns-then-has_number
returns-then-has_number g c =
    passed_stop _ g.row.N _ _ _ c.loop-position.invariant.1 _ c.number-number.ensures
    (omega (arith, c.loop-position-test.true, c.len-position-end.ensures)) _
    (sym c.has_number.ensures ∙ c.if-has_number.true)

pub loop-position-preserved : goal.loop-position-preserved
loop-position-preserved g c =
    let es : List Entry = g.L.EntryList.entries c.args.list.now in
    let new : has_number c.number-number.result (take c.loop-position.position es) ≡ false =
    elim c.else-marks-place.branch [
      | else-marks-place-via-then-marks-place+else-has_number w ↦ sym w.has_number.ensures ∙ w.if-has_number.false
      | else-marks-place-via-else-marks-place w ↦ passed_unmet es g.row.N _ _ _ c.loop-position.invariant.1 _ (ne_eqb _ _ w.if-marks-place.false)
    ] in (
      simp length-set c.loop-position.invariant.0,
      passed_next es g.row.N _ _ _ c.loop-position.invariant.1 _ c.number-number.ensures
          (omega (arith, c.loop-position-test.true, c.len-position-end.ensures))
          (rw c.loop-position.invariant.0 (mod_below _ g.row.N c.requires)) new,
    )

pub returns : goal.returns
returns g c =
    passed_end _ g.row.N _ _ _ c.loop-position.invariant.1 _ (omega (arith, c.loop-position-test.false, c.len-position-end.ensures))
