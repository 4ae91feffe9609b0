use mathlib.Core.Path.{◌≡◌, ◌∙◌, sym}
use mathlib.Core.List.{List}
use borrow.Author.Tests.{not-false}
use Rattle.std.proofs.lemmas.Result.{err_from_is_err_and}
use Rattle.refusals.specs.Refusals.{accepted}
use Rattle.task_model.specs.declared.Entry.{Entry}
use Rattle.task_model.specs.Checks.{each_by}
use Rattle.task_model.proofs.Laws.{body_entries, body_numbers}
use Rattle.task_model.proofs.Loops.{passing_accepted}
use Rattle.task_model.proofs.entries.WholeListCheck.check_all.Goals as goal
use Rattle.task_model.proofs.entries.WholeListCheck.check_all.Goals.{then-not-entries_hold+in_ok-check_entries, else-not-entries_hold}

pub returns-in_err-check_entries : goal.returns-in_err-check_entries
returns-in_err-check_entries g c =
    let p = err_from_is_err_and c.from_residual.result c.from_residual.ensures.1 in
    rw (p.1, p.2) (sym (body_entries g.C.EntryCheck.says _ _ _ (sym c.in_err-check_entries.ensures)))

pub returns : goal.returns
returns g c =
    let es : List Entry = g.L.EntryList.entries c.args.list.now in
    let each : each_by g.C.EntryCheck.says c.args.row es ≡ accepted =
    elim c.if-not-entries_hold.branch [
      | then-not-entries_hold+in_ok-check_entries w ↦ sym w.in_ok-check_entries.ensures
      | else-not-entries_hold w ↦ passing_accepted g.C.EntryCheck.says _ es (c.entries_hold.ensures.0 (not-false _ w.if-not-entries_hold.false-raw))
    ] in
    c.check_numbers.ensures ∙ sym (body_numbers g.C.EntryCheck.says _ es each)
