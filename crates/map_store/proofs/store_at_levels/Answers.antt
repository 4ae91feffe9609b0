use Rattle.std.proofs.Common.{◌≡◌, ◌∙◌, sym, rules, arith}
use Rattle.node_words.specs.Lists.{zeros}
use Rattle.completion.specs.Test.{completion_test}
use Rattle.map_store.specs.Store.{store_size}
use Rattle.map_store.proofs.AtLevels.{levels_kept, levels_cleared, levels_afresh}
use Rattle.map_store.proofs.store_at_levels.Goals as goal

pub returns-then-has_map : goal.returns-then-has_map
returns-then-has_map c = sym (levels_kept completion_test c.args.before _ _ (sym c.has_map.ensures ∙ c.if-has_map.true))

pub returns-then-levels-before : goal.returns-then-levels-before
returns-then-levels-before c =
    let cleared : c.fill.new.self ≡ zeros store_size = search rules in
    cleared ∙ sym (levels_cleared completion_test c.args.before _ _ (sym c.has_map.ensures ∙ c.if-has_map.false) c.if-levels-before.true)

pub returns : goal.returns
returns c =
    c.store_map.ensures
    ∙ sym (levels_afresh completion_test c.args.before _ _ (sym c.has_map.ensures ∙ c.if-has_map.false) (omega (arith, c.if-levels-before.false)))
