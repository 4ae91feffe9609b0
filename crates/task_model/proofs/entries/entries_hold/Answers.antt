use native.Mathlib.Omega.{arith}
use borrow.Author.Tests.{not-true, not-false}
use Rattle.task_model.proofs.Loops.{says_no, says_yes, said_no, passing_next}
use Rattle.task_model.proofs.entries.entries_hold.Goals as goal

pub loop-position-init : goal.loop-position-init
loop-position-init g c j h = absurd (omega arith)

pub returns-then-not-holds : goal.returns-then-not-holds
returns-then-not-holds g c = says_no
    (λ all.
    said_no c.holds.ensures (not-true _ c.if-not-holds.true-raw)
    (rw c.entry.ensures (all _ (omega (arith, c.loop-position-test.true, c.len-position-end.ensures)))))

pub loop-position-preserved : goal.loop-position-preserved
loop-position-preserved g c =
    passing_next g.C.EntryCheck.says (g.L.EntryList.entries c.args.list.now) _ c.loop-position.invariant
    (rw (← c.entry.ensures) (c.holds.ensures.0 (not-false _ c.if-not-holds.false-raw)))

pub returns : goal.returns
returns g c = says_yes (λ j h. c.loop-position.invariant j (omega (arith, c.loop-position-test.false, c.len-position-end.ensures)))
