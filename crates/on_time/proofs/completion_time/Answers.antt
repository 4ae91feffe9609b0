use Rattle.std.proofs.Common.{◌+◌, arith}
use Rattle.completion.proofs.TimedLaws.{runs_small}
use Rattle.on_time.specs.Deciding.{NotBefore}
use Rattle.on_time.proofs.Early.{begins, start_some, runs_below, not_early, not_before_next, not_earlier, fits_later, ends_at, ends_late}
use Rattle.on_time.proofs.completion_time.Goals as goal

pub overflow_add-initial : goal.overflow_add-initial
overflow_add-initial c = omega (arith, c.requires.summed, runs_small c.args.timed.now (c.args.timed.now.last + 1) (omega arith))

pub returns-then-limit-early : goal.returns-then-limit-early
returns-then-limit-early c =
    let x = c.args.timed.now in
    let b = c.args.blocking in
    let due = c.limit-limit.ensures.value in
    ends_late x b _ due _ c.if-limit-early.true (not_early x b _ due _ _ _ (begins x b _ c.requires.summed) c.max-early.ensures c.requires.not_before)

pub demand_at-next-requires : goal.demand_at-next-requires
demand_at-next-requires c =
    let x = c.args.timed.now in
    let b = c.args.blocking in
    omega (arith, begins x b _ c.requires.summed, start_some x b, c.max-early.ensures, c.limit-limit.ensures, c.if-limit-early.false)

pub returns-then-next-early : goal.returns-then-next-early
returns-then-next-early c =
    let x = c.args.timed.now in
    let b = c.args.blocking in
    let due = c.limit-limit.ensures.value in
    ends_at x b _ due _ _ c.if-limit-early.false c.demand_at-next.ensures c.if-next-early.true
    (not_early x b _ due _ _ _ (begins x b _ c.requires.summed) c.max-early.ensures c.requires.not_before)

pub completion_bound-bound-requires-clause-above : goal.completion_bound-bound-requires-clause-above
completion_bound-bound-requires-clause-above c =
    let x = c.args.timed.now in
    omega (arith, begins x c.args.blocking _ c.requires.summed, runs_below x c.args.blocking x.first (omega arith))

pub end_from-requires : goal.end_from-requires
end_from-requires c =
    let x = c.args.timed.now in
    let b = c.args.blocking in
    let due = c.limit-limit.ensures.value in
    let start = begins x b _ c.requires.summed in
    let bound = c.completion_bound-bound.ensures in
    let early : NotBefore b x c.max-early.result = not_early x b _ due _ _ _ start c.max-early.ensures c.requires.not_before in
    record {
      some = omega (arith, start, start_some x b, bound.later, c.max-begin.ensures);
      fits = rw (← due, ← start)
          (λ h. fits_later _ _ _ _ c.completion_bound-bound.result _ (omega (arith, c.max-begin.ensures)) (bound.fits (omega (arith, h, c.max-begin.ensures))));
      not_before = λ t w.
          omega (
            arith,
            c.max-begin.ensures,
            not_before_next x b _ due _ _ c.demand_at-next.ensures early t w,
            not_earlier x b _ due _ _ start bound.bound t w,
          );
    }
