use mathlib.Core.Path.{◌∙◌, sym, ap}
use native.Mathlib.Omega.{arith}
use Rattle.std.proofs.lemmas.Result.{err_from_is_err_and}
use Rattle.refusals.specs.Answers.{gives}
use Rattle.session.proofs.Checking.{time_ready, time_refused, time_given}
use Rattle.session.proofs.lent.LentSession.time.Goals as goal

pub returns-in_err-check_time : goal.returns-in_err-check_time
returns-in_err-check_time c =
    let p = err_from_is_err_and c.from_residual.result c.from_residual.ensures.1 in
    rw (p.1, p.2) (sym (time_refused _ _ _ _ _ (sym c.in_err-check_time.ensures)))

pub invariant_of-node : goal.invariant_of-node
invariant_of-node c =
    let a = c.args in
    let l = a.self.now in
    let q = time_ready l.words.now l.count l.levels a.first a.last a.i (sym c.in_ok-check_time.ensures) in
    record { few = q.1.3; held = q.0 }

pub invariant_of-timed : goal.invariant_of-timed
invariant_of-timed c =
    let a = c.args in
    let l = a.self.now in
    let q = time_ready l.words.now l.count l.levels a.first a.last a.i (sym c.in_ok-check_time.ensures) in
    record { in_group = (omega arith, omega arith, omega arith, omega arith) }

pub returns : goal.returns
returns c = ap gives c.completion_test.ensures.answered ∙ sym (time_given _ _ _ _ (sym c.in_ok-check_time.ensures))
