use Rattle.std.proofs.Common.{◌≡◌, Some, None, arith}
use Rattle.refusals.specs.declared.Refusal.TheVariants.{NoMap}
use Rattle.node_words.specs.Held.{held_entries}
use Rattle.level_map.specs.Map.{the_map}
use Rattle.level_map.specs.Found.{starts_in, CutAnswer}
use Rattle.std.proofs.lemmas.Result.{err_from_is_err_and}
use Rattle.node_words.specs.Words.{node_of}
use Rattle.node_words.proofs.Entries.{length-entries}
use Rattle.level_map.proofs.Answers.{right_short, right_none, right_map}
use Rattle.level_map.proofs.map_held.Goals as goal

pub returns-then-out-node : goal.returns-then-out-node
returns-then-out-node c =
    let n = c.args.node.now in
    let right = right_short (node_of n.words.now n.count c.args.levels) n.held c.args.out.now
    (omega (arith, c.if-out-node.true, length-entries n.words.now 0 n.count)) in
    record { answered = right.answered; written = right.written; best = right.best }

pub returns-in_err-cuts : goal.returns-in_err-cuts
returns-in_err-cuts c =
    let n = c.args.node.now in
    let p = err_from_is_err_and c.from_residual.result c.from_residual.ensures.1 in
    let none : c.find_cuts.result ≡ None = grind arith in
    let eleven : c.in_err-cuts.field-0.0 ≡ NoMap = grind arith in
    let right = right_none (node_of n.words.now n.count c.args.levels) n.held c.args.out.now
    (omega (arith, c.if-out-node.false, length-entries n.words.now 0 n.count)) (rw none at c.find_cuts.ensures) in
    rw (p.1, p.2, eleven) (record { answered = right.answered; written = right.written; best = right.best })

pub returns : goal.returns
returns c =
    let n = c.args.node.now in
    let cuts = c.in_ok-cuts.cuts in
    let some : c.find_cuts.result ≡ Some cuts = grind arith in
    let found : CutAnswer (the_map (held_entries n) c.args.levels) n.count c.args.levels (Some cuts) = rw some at c.find_cuts.ensures in
    let right = right_map (node_of n.words.now n.count c.args.levels) n.held c.args.out.now n.count (starts_in cuts) c.write_levels.new.out
    (length-entries n.words.now 0 n.count) (omega (arith, c.if-out-node.false)) found.0 (rw found.1 at c.write_levels.ensures) in
    rw c.groups.ensures (record { answered = right.answered; written = right.written; best = right.best })
