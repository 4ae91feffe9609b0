use mathlib.Core.Path.{◌∙◌, refl, sym}
use native.Mathlib.Omega.{arith}
use Rattle.std.proofs.lemmas.Result.{err_from_is_err_and}
use Rattle.refusals.proofs.Outcomes.{not_both}
use Rattle.task_model.specs.Limits.{NodeHolds}
use Rattle.node_words.specs.Words.{node_of}
use Rattle.node_words.proofs.Entries.{length-entries}
use Rattle.refusals.specs.Answers.{answered}
use Rattle.level_map.proofs.Answers.{Right}
use Rattle.planner.proofs.Nodes.{found_holds}
use Rattle.planner.proofs.Answers.{find_refuses, find_gives_lem, file_refused, file_found}
use Rattle.planner.proofs.map_node.Goals as goal

pub returns-in_err-found : goal.returns-in_err-found
returns-in_err-found c =
    let p = err_from_is_err_and c.from_residual.result c.from_residual.ensures.1 in
    let q = find_refuses _ _ _ c.in_err-found.ensures.answer in
    rw (p.1, p.2)
    (record {
      answered = sym (file_refused _ _ _ q _);
      written = refl;
      best = λ t. absurd (not_both t q);
    })

pub invariant_of-node : goal.invariant_of-node
invariant_of-node c =
    let n = c.in_ok-found.found in
    let words = c.find_node.new.words in
    let holds : NodeHolds (node_of words n.count n.levels) =
    rw c.in_ok-found.ensures.holding (found_holds _ _ (find_gives_lem _ _ _ c.in_ok-found.ensures.answer)) in
    record {
      few = omega (arith, holds.few_entries, length-entries words 0 n.count);
      held = holds.each;
    }

pub returns : goal.returns
returns c =
    let e = c.in_ok-found.ensures in
    let n = c.in_ok-found.found in
    let h = c.map_held.ensures in
    let held : Right (node_of c.find_node.new.words n.count n.levels) (answered c.map_held.result) c.args.out.now c.map_held.new.out =
    record { answered = h.answered; written = h.written; best = h.best } in
    let m = rw e.holding at held in
    record {
      answered = m.answered ∙ sym (file_found _ _ (find_gives_lem _ _ _ e.answer) _);
      written = m.written;
      best = λ t. m.best;
    }
