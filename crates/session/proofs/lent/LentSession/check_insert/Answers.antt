use mathlib.Core.Path.{◌∙◌, sym}
use native.Mathlib.Omega.{arith}
use Rattle.std.proofs.lemmas.Result.{err_from_is_err_and}
use Rattle.node_words.proofs.Entries.{length-entries}
use Rattle.session.specs.Operations.{lent_check_by}
use Rattle.session.proofs.Checking.{lent_stops, lent_goes_on, insert_outside_lem, insert_full, insert_entry, new_checked}
use Rattle.session.proofs.lent.LentSession.check_insert.Goals as goal

pub returns-in_err-check : goal.returns-in_err-check
unfolding lent_check_by
returns-in_err-check c =
    let p = err_from_is_err_and c.from_residual.result c.from_residual.ensures.1 in
    rw (p.1, p.2) (sym (lent_stops _ _ _ (sym c.in_err-check.ensures)))

pub returns-then-self-position : goal.returns-then-self-position
unfolding lent_check_by
returns-then-self-position c =
    let n = length-entries c.args.self.now.words.now 0 c.args.self.now.count in
    sym (lent_goes_on _ _ (sym c.in_ok-check.ensures) ∙ insert_outside_lem _ _ _ (omega arith))

pub returns-then-self-ge-MOST_ENTRIES : goal.returns-then-self-ge-MOST_ENTRIES
unfolding lent_check_by
returns-then-self-ge-MOST_ENTRIES c =
    let n = length-entries c.args.self.now.words.now 0 c.args.self.now.count in
    sym (lent_goes_on _ _ (sym c.in_ok-check.ensures) ∙ insert_full _ _ _ (omega arith) (omega arith))

pub returns : goal.returns
unfolding lent_check_by
returns c =
    let n = length-entries c.args.self.now.words.now 0 c.args.self.now.count in
    new_checked _ _ _ _ c.has_number-taken.ensures c.check_new.ensures
    ∙ sym (lent_goes_on _ _ (sym c.in_ok-check.ensures) ∙ insert_entry _ _ _ (omega arith) (omega arith))
