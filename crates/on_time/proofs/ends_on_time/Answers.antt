use Rattle.std.proofs.Common.{◌+◌, ◌∙◌, sym, arith}
use Rattle.completion.proofs.TimedLaws.{runs_small}
use Rattle.on_time.proofs.Early.{has_time, has_none, late_initial, on_time_at, not_earlier, begins, start_some, runs_below}
use Rattle.on_time.proofs.ends_on_time.Goals as goal

pub overflow_add-initial : goal.overflow_add-initial
overflow_add-initial c = omega (arith, c.requires, runs_small c.args.timed.now (c.args.timed.now.last + 1) (omega arith))

pub returns-then-limit-initial : goal.returns-then-limit-initial
returns-then-limit-initial c =
    let x = c.args.timed.now in
    sym (late_initial x _ _ c.limit-limit.ensures.value _ (begins x c.args.blocking _ c.requires) c.if-limit-initial.true)

pub returns-then-demand_at-limit : goal.returns-then-demand_at-limit
returns-then-demand_at-limit c =
    sym (on_time_at c.args.timed.now _ _ c.limit-limit.ensures.value _ _ (omega arith) c.demand_at.ensures c.if-demand_at-limit.true)

pub completion_bound-begin-requires-clause-above : goal.completion_bound-begin-requires-clause-above
completion_bound-begin-requires-clause-above c =
    let x = c.args.timed.now in
    omega (arith, begins x c.args.blocking _ c.requires, runs_below x c.args.blocking x.first (omega arith))

pub end_from-requires : goal.end_from-requires
end_from-requires c =
    let x = c.args.timed.now in
    let b = c.args.blocking in
    let start = begins x b _ c.requires in
    let bound = c.completion_bound-begin.ensures in
    record {
      some = omega (arith, start, start_some x b, bound.later);
      fits = rw (← c.limit-limit.ensures.value, ← start) bound.fits;
      not_before = not_earlier x b _ c.limit-limit.ensures.value _ _ start bound.bound;
    }

pub returns-in_default : goal.returns-in_default
returns-in_default c = sym (has_none _ (sym c.in_default.is ∙ c.end_from.ensures))

pub returns : goal.returns
returns c = sym (has_time _ _ (sym c.in-Some.is ∙ c.end_from.ensures))
