use Rattle.std.proofs.Common.{◌∙◌}
use Rattle.node_words.specs.Held.{held_entries}
use Rattle.node_words.proofs.Entries.{length-entries}
use Rattle.level_timing.proofs.Groups.{time_group}
use Rattle.level_timing.proofs.time_under.Goals as goal

pub returns : goal.returns
returns c =
    let n = c.args.node.now in
    c.completion_test.ensures.answered
    ∙ time_group (held_entries n) n.count (length-entries n.words.now 0 n.count) _ c.requires.rising _ _ _ c.group_first.ensures c.group_last.ensures
