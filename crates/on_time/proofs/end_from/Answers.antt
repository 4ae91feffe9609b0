use Rattle.std.proofs.Common.{arith}
use Rattle.on_time.proofs.Early.{not_before_next, ends_at, ends_late}
use Rattle.on_time.proofs.end_from.Goals as goal

pub returns-then-next-t : goal.returns-then-next-t
returns-then-next-t c =
    ends_at c.args.timed.now c.args.blocking _ c.limit-limit.ensures.value _ _ c.loop-t-test.true c.demand_at-next.ensures c.if-next-t.true
    c.loop-t.invariant.0

pub loop-t-preserved : goal.loop-t-preserved
loop-t-preserved c = (
  not_before_next c.args.timed.now c.args.blocking _ c.limit-limit.ensures.value _ _ c.demand_at-next.ensures c.loop-t.invariant.0,
  omega (arith, c.if-next-t.false),
)

pub returns : goal.returns
returns c = ends_late c.args.timed.now c.args.blocking _ c.limit-limit.ensures.value _ c.loop-t-test.false c.loop-t.invariant.0
