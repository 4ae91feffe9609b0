use Rattle.std.proofs.Common.{◌≡◌, ◌+◌, ◌-◌, ◌≤◌, ◌∙◌, false, sym, ap, arith}
use mathlib.Core.Bool.{false≢true}
use mathlib.Core.Logic.{by_cases}
use native.Mathlib.Decide.{dec_lt}
use lib.ListN.{length}
use Rattle.task_model.specs.declared.Entry.{Entry}
use Rattle.task_model.specs.Limits.{entry_at}
use Rattle.node_words.specs.Held.{held_entries}
use Rattle.node_words.proofs.Entries.{length-entries}
use Rattle.completion.specs.Group.{group_level}
use Rattle.completion.specs.Test.{test_with, is_on_time}
use Rattle.on_time.specs.Deciding.{is_met}
use Rattle.on_time.specs.StartBound.{start_bound}
use Rattle.completion.proofs.Theorems.{widen}
use Rattle.on_time.proofs.StartBound.{past_most, start_bound_lem}
use Rattle.level_map.specs.Groups.{on_time_in}
use Rattle.level_map.proofs.least_start.Goals as goal

-- the entry before the first start is late in every group that starts no later than it
pub starts-init : goal.starts-init
starts-init c =
    let n = c.args.node.now in
    let es = held_entries n in
    let s = c.start_bound-start.result in
    let known : c.args.end ≤ length es = omega (arith, length-entries n.words.now 0 n.count) in
    record {
      none = λ b h g.
          let e : start_bound es c.args.end ≡ (s - 1) + 1 = omega (arith, c.start_bound-start.ensures) in
          let late = start_bound_lem es n.held c.args.end known (s - 1) b e (omega arith) ((entry_at es (s - 1)).blocking + c.args.added) (omega arith) in
          false≢true (sym late ∙ g (s - 1) (omega arith) (omega (arith, c.start_bound-start.ensures, past_most es c.args.end)));
      inside = omega (arith, c.start_bound-start.ensures, past_most es c.args.end);
    }

-- a late entry is late in the groups that start between this start and it
pub starts-preserved : goal.starts-preserved
starts-preserved c =
    let n = c.args.node.now in
    let es = held_entries n in
    let l = c.loop-position in
    let late : false ≡ on_time_in es c.args.added (l.position - 1) l.start c.args.end =
    sym (ap is_met c.in_default.is)
    ∙ c.ends_on_time.ensures
    ∙ ap (λ (e : Entry). is_on_time (test_with (e.blocking + c.args.added) es (group_level l.start (c.args.end - 1)) (l.position - 1))) c.entry.ensures in
    record {
      none = λ b h g.
          by_cases (dec_lt b l.start)
          (λ y. c.starts.invariant.none b (omega (arith, l.invariant.same)) g)
          (λ z.
          false≢true (late
          ∙ widen _ es n.held b l.start _ (l.position - 1) (omega arith) (omega (arith, l.invariant.same)) (omega arith)
          (omega (arith, length-entries n.words.now 0 n.count)) (g (l.position - 1) (omega arith) (omega arith))));
      inside = omega arith;
    }
