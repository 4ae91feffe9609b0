use Rattle.std.proofs.Common.{◌≡◌, ◌+◌, ◌<◌, arith}
use Rattle.completion.specs.Test.{on_time, late}
use Rattle.completion.specs.Timed.{timed_test}
use Rattle.completion.proofs.Iteration.{loop_late, loop_done, loop_next}
use Rattle.completion.proofs.TimedLaws.{timed_up, timed_begin, timed_whole, timed_bounded, timed_beyond}
use Rattle.completion.proofs.timed.TimedEntry.test_with.Goals as goal

pub loop-t-init : goal.loop-t-init
loop-t-init c =
    let begin = timed_begin c.args.self.now c.args.blocking in
    rw (c.initial_time-t.ensures, c.limit-limit.ensures.value)
    (record { fewer = begin.0; rising = begin.1; whole = timed_whole c.args.self.now c.args.blocking })

pub returns-then-next-t : goal.returns-then-next-t
returns-then-next-t c =
    let x = c.args.self.now in
    let b = c.args.blocking in
    let l = c.loop-t in
    let answered : on_time l.t (l.rounds + 1) ≡ timed_test b x =
    loop_done _ _ (timed_up x b) _ _ _ l.invariant.whole _ c.loop-t-test.true c.demand_at-next.ensures c.if-next-t.true in
    record { answered = answered; bounded = timed_bounded x b _ answered }

pub loop-t-preserved : goal.loop-t-preserved
loop-t-preserved c =
    let up = timed_up c.args.self.now c.args.blocking in
    let l = c.loop-t in
    let ahead : l.t < c.demand_at-next.result = omega (arith, l.invariant.rising, c.demand_at-next.ensures, c.if-next-t.false) in
    record {
      fewer = omega (arith, l.invariant.fewer);
      rising = rw c.demand_at-next.ensures (up _ _ l.invariant.rising);
      whole = loop_next _ _ up _ _ _ l.invariant.whole _ c.loop-t-test.true c.demand_at-next.ensures ahead;
    }

pub overrun_at-overrun-requires-clause-reached : goal.overrun_at-overrun-requires-clause-reached
overrun_at-overrun-requires-clause-reached c =
    let value = c.limit-limit.ensures.value in
    rw value (timed_beyond c.args.self.now c.args.blocking _ _ (rw value at c.loop-t.invariant.whole) (rw value at c.loop-t-test.false))

pub returns : goal.returns
returns c =
    let x = c.args.self.now in
    let b = c.args.blocking in
    let l = c.loop-t in
    let answered : late l.rounds c.overrun_at-overrun.result ≡ timed_test b x =
    loop_late _ _ (timed_up x b) _ _ _ l.invariant.whole _ c.loop-t-test.false c.overrun_at-overrun.ensures in
    record { answered = answered; bounded = timed_bounded x b _ answered }
