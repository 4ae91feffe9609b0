use Rattle.std.proofs.Common.{◌≡◌, ◌∙◌, sym, rules}
use Rattle.node_words.specs.Lists.{zeros}
use Rattle.node_words.specs.Words.{node_of}
use Rattle.completion.specs.Test.{completion_test}
use Rattle.map_store.specs.Store.{store_size}
use Rattle.map_store.proofs.Filling.{store_some, store_none}
use Rattle.map_store.proofs.store_map.Goals as goal

pub returns-in_default : goal.returns-in_default
returns-in_default c =
    let cleared : c.fill.new.self ≡ zeros store_size = search rules in
    cleared ∙ sym (store_none completion_test (node_of c.args.node.now.words.now c.args.node.now.count c.args.levels) c.in_default.ensures)

pub returns : goal.returns
returns c = c.put_groups.ensures ∙ rw c.in-Some.ensures.1 (sym (store_some completion_test (node_of c.args.node.now.words.now c.args.node.now.count c.args.levels) _ c.in-Some.ensures.0.levels))
