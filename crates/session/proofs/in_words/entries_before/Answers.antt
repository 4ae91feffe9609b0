use mathlib.Core.Path.{◌≡◌, ◌∙◌}
use native.Mathlib.Omega.{arith}
use lib.ListN.{drop, get_or}
use Rattle.std.proofs.lemmas.List.{take_rest}
use Rattle.node_words.proofs.Entries.{all_fewer, length-entries}
use Rattle.session.specs.InWords.{node_at}
use Rattle.session.proofs.in_words.entries_before.Goals as goal

pub invariant_of-result : goal.invariant_of-result
invariant_of-result c =
    let w = c.args.front.now in
    let node = rw c.unwrap.ensures at c.as_array.ensures.cases in
    let same : c.unwrap.result.now ≡ drop node_at w = node.same ∙ take_rest w node_at in
    rw same (record {
      few = omega (arith, c.requires.held.few_entries, length-entries (drop node_at w) 0 (get_or w 1 0));
      held = all_fewer _ _ _ (omega arith) c.requires.held.each;
    })
