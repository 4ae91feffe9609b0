use mathlib.Core.Path.{◌∙◌, sym}
use native.Mathlib.Omega.{arith}
use Rattle.std.proofs.lemmas.Result.{err_from_is_err_and}
use Rattle.node_words.proofs.Entries.{length-entries}
use Rattle.session.specs.Operations.{lent_check_by}
use Rattle.session.proofs.Checking.{lent_stops, lent_goes_on, time_else, time_inside}
use Rattle.session.proofs.lent.LentSession.check_time.Goals as goal
use Rattle.session.proofs.lent.LentSession.check_time.Goals.{then-i-first-via-then-i-first, then-i-first-via-else-i-first+then-last-i, then-i-first-via-else-i-first+else-last-i+then-self-last}

pub returns-in_err-check : goal.returns-in_err-check
unfolding lent_check_by
returns-in_err-check c =
    let p = err_from_is_err_and c.from_residual.result c.from_residual.ensures.1 in
    rw (p.1, p.2) (sym (lent_stops _ _ _ (sym c.in_err-check.ensures)))

pub returns-then-i-first : goal.returns-then-i-first
unfolding lent_check_by
returns-then-i-first c =
    let n = length-entries c.args.self.now.words.now 0 c.args.self.now.count in
    sym
    (lent_goes_on _ _ (sym c.in_ok-check.ensures)
    ∙ time_else _ _ _ _ (λ p q r.
    elim c.then-i-first.branch [
      | then-i-first-via-then-i-first w ↦ omega arith
      | then-i-first-via-else-i-first+then-last-i w ↦ omega arith
      | then-i-first-via-else-i-first+else-last-i+then-self-last w ↦ omega arith
    ]))

pub returns : goal.returns
unfolding lent_check_by
returns c =
    let n = length-entries c.args.self.now.words.now 0 c.args.self.now.count in
    sym (lent_goes_on _ _ (sym c.in_ok-check.ensures) ∙ time_inside _ _ _ _ (omega arith) (omega arith) (omega arith))
