use Rattle.std.proofs.Common.{◌≡◌, true, false, ◌+◌, ◌-◌, ◌∙◌, sym, arith}
use Rattle.node_words.specs.Held.{held_entries}
use Rattle.on_time.specs.StartBound.{late_by_runs, start_bound}
use Rattle.completion.proofs.Words.{wcet_small}
use Rattle.on_time.proofs.StartBound.{last_none, last_found, last_kept, runs_late, runs_fit}
use Rattle.on_time.proofs.start_bound.Goals as goal

pub overflow_add-held : goal.overflow_add-held
overflow_add-held c =
    let n = c.args.node.now in
    omega (arith, c.requires.summed, wcet_small n.words.now n.count n.held n.few c.args.end c.requires.inside)

pub returns-then-limit_of-held : goal.returns-then-limit_of-held
unfolding start_bound
returns-then-limit_of-held c =
    let n = c.args.node.now in
    let l = c.loop-position in
    let whole : (l.position - 1) + 1 ≡ l.position = omega arith in
    let late : late_by_runs (held_entries n) c.args.end (l.position - 1) ≡ true = runs_late n.words.now n.count c.args.end _ c.requires.inside c.requires.summed (l.position - 1) (omega arith) _ c.entry-held.ensures
    (omega (arith, c.limit_of.ensures, c.if-limit_of-held.true)) in
    rw whole (rw whole at (sym (last_found (late_by_runs (held_entries n) c.args.end) (l.position - 1) late)) ∙ sym l.invariant)

pub loop-position-preserved : goal.loop-position-preserved
loop-position-preserved c =
    let n = c.args.node.now in
    let l = c.loop-position in
    let whole : (l.position - 1) + 1 ≡ l.position = omega arith in
    let fits : late_by_runs (held_entries n) c.args.end (l.position - 1) ≡ false = runs_fit n.words.now n.count c.args.end _ c.requires.inside c.requires.summed (l.position - 1) (omega arith) _ c.entry-held.ensures
    (omega (arith, c.limit_of.ensures, c.if-limit_of-held.false)) in
    l.invariant ∙ (rw whole at (last_kept (late_by_runs (held_entries n) c.args.end) (l.position - 1) fits))

pub returns : goal.returns
unfolding start_bound
returns c =
    let none : c.loop-position.position ≡ 0 = omega arith in
    sym (rw (none, last_none (late_by_runs (held_entries c.args.node.now) c.args.end)) at c.loop-position.invariant)
